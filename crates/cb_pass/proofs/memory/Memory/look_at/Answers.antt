use Rattle.std.proofs.Common.{ap, subst, ◌∙◌}
use Rattle.cb_pass.specs.declared.effect.Effect.{Effect}
use Rattle.cb_pass.specs.Answers.{Truth, IsAnswered}
use Rattle.cb_pass.specs.inner.Memos.{Memo}
use Rattle.cb_pass.specs.inner.Said.{said}
use Rattle.cb_pass.proofs.memory.Memory.look_at.Goals as goal

pub returns : goal.returns
returns c = (
  said c.in_ok-reply.reply,
  subst (λ (m : Memo). IsAnswered c.args.language m.macros (Truth c.args.tokens.now) (said c.in_ok-reply.reply)) c.self.view_is c.in_ok-reply.ensures,
  c.in_ok-note_reply.ensures,
  ap (λ (x : Effect). x.condition) c.of_condition.ensures ∙ c.holds.ensures,
  ap (λ (x : Effect). x.header) c.of_condition.ensures,
)
