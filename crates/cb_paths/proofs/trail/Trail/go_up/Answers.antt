use Rattle.std.proofs.Common.{refl, sym, ◌∙◌, arith}
use Rattle.std.proofs.lemmas.List.{append-nil, nil_from_length}
use Rattle.cb_paths.proofs.Trails.{went_up_none, went_up_some}
use Rattle.cb_paths.proofs.trail.Trail.go_up.Goals as goal

pub returns-in-None : goal.returns-in-None
returns-in-None c = λ so_far up is_it h.
    let empty = c.in-None.ensures.cases in
    let held = c.args.self.now.starts.ok in
    went_up_none so_far up c.args.self.now _ is_it h (nil_from_length _ (omega arith)) refl
    (sym (append-nil c.pop.new.self.items) ∙ sym c.in-None.ensures.items) refl

pub returns-in-Some : goal.returns-in-Some
returns-in-Some c = λ so_far up is_it h. went_up_some so_far up c.args.self.now _ c.pop.new.self.items c.in-Some.start is_it h c.in-Some.ensures.items c.truncate.ensures.items refl refl
