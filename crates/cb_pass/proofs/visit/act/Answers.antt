use Rattle.std.proofs.Common.{sym, subst, ◌∙◌}
use Rattle.cb_pass.specs.declared.effect.Effect.{Effect}
use Rattle.cb_pass.specs.Steps.{place_in}
use Rattle.cb_pass.specs.inner.Trails.{next_rest}
use Rattle.cb_pass.specs.inner.Moves.{HasEffectIn}
use Rattle.cb_pass.proofs.Visiting.{rests}
use Rattle.cb_pass.proofs.visit.act.Goals as goal

pub returns-else-is_active : goal.returns-else-is_active
returns-else-is_active c =
    let f = c.args.file.now.frame in
    let m = c.args.memory.now in
    subst (λ (e : Effect). HasEffectIn c.args.language c.args.kind (place_in f) (next_rest f.rest) f.sections m m e.condition e.header) (sym c.nothing.ensures)
    (rests c.args.language c.args.kind (place_in f) (next_rest f.rest) f.sections m (sym c.is_active.ensures ∙ c.if-is_active.false))
