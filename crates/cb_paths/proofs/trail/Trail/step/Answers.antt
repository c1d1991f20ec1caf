use Rattle.std.proofs.Common.{◌≡◌, true, rules, sym, ◌∙◌}
use Rattle.cb_paths.specs.Parts.{is_kept}
use Rattle.cb_paths.proofs.Trails.{entered, taken, plain_from}
use Rattle.cb_paths.proofs.trail.Trail.step.Goals as goal

pub returns : goal.returns
returns c = λ so_far h.
    let kept : is_kept c.args.part.now ≡ true = search rules in
    taken so_far c.args.part.now _ kept (entered so_far c.args.part.now c.args.self.now _
    (plain_from _ (sym c.is_up.ensures ∙ c.if-is_up.false) kept c.requires) h
    c.in_ok-enter.ensures.text c.in_ok-enter.ensures.starts c.in_ok-enter.ensures.climbed)
