use Rattle.std.proofs.Common.{◌≡◌, Some, [], ◌∷◌, ◌++◌, sym, subst, ap, ◌∙◌, append_assoc}
use Rattle.std.specs.List.{filter}
use Rattle.cb_paths.specs.Parts.{is_kept, parts_of}
use Rattle.cb_paths.proofs.Splitting.{parts_left, parts_cut}
use Rattle.cb_paths.proofs.trail.Trail.walk.Goals as goal

pub parts-preserved : goal.parts-preserved
parts-preserved c = λ so_far h.
    let i = c.parts.invariant so_far h in
    let e : c.parts.rest ≡ Some c.in-Some.left = c.in-Some.is in
    let all : i.0 ++ parts_of c.in-Some.left.now ≡ so_far ++ parts_of c.args.text.now = subst (λ r. i.0 ++ parts_left r ≡ so_far ++ parts_of c.args.text.now) e i.2 in (
      i.0 ++ filter is_kept (c.cut.result.0.now ∷ []),
      c.in_ok-step.ensures i.0 i.1,
      append_assoc i.0 (filter is_kept (c.cut.result.0.now ∷ [])) (parts_left c.cut.result.1)
          ∙ ap (λ ps. i.0 ++ ps) (sym (parts_cut c.in-Some.left.now c.cut.result.0.now c.cut.result.1 c.cut.ensures.front c.cut.ensures.found c.cut.ensures.whole))
          ∙ all,
    )
