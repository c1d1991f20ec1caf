use Rattle.std.proofs.Common.{sym, ◌∙◌}
use Rattle.cb_expand.proofs.Staying.{replaced_by_themselves}
use Rattle.cb_expand.proofs.untouched.is_untouched.Goals as goal

pub returns-clause-replacement : goal.returns-clause-replacement
returns-clause-replacement c = λ h. replaced_by_themselves c.args.macros.now c.args.mode c.args.tokens.now (sym c.all_stay.ensures ∙ h)
