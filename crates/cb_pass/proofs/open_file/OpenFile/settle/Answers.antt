use Rattle.std.proofs.Common.{◌∷◌, sym, ap, subst, ◌∙◌}
use Rattle.cb_pass.specs.States.{Frame}
use Rattle.cb_pass.specs.inner.Moves.{Goes}
use Rattle.cb_pass.proofs.Moves.{goes_on}
use Rattle.cb_pass.proofs.Passing.{passes_over}
use Rattle.cb_pass.proofs.open_file.OpenFile.settle.Goals as goal

pub nodes-preserved : goal.nodes-preserved
nodes-preserved c = (
  (λ files command s.
      goes_on files command _ _ _ (c.nodes.invariant.0 files command s)
      (subst (λ (f : Frame). Goes files command (record s { frames = c.nodes.self.frame ∷ s.frames }) (record s { frames = f ∷ s.frames })) (sym c.in_ok-advance.ensures.moved)
      (passes_over files command s c.nodes.self.frame c.in-Some.kind (sym c.in-Some.ensures) (sym c.is_reached.ensures ∙ c.if-is_reached.false)))),
  ap (λ (f : Frame). f.path) c.in_ok-advance.ensures.moved ∙ c.nodes.invariant.1,
  c.in_ok-advance.ensures.same ∙ c.nodes.invariant.2,
)
