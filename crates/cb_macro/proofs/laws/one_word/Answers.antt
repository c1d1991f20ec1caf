use Rattle.cb_macro.proofs.OneReading.{one_defined, one_undefined}
use Rattle.cb_macro.proofs.laws.one_word.Goals as goal

pub returns-clause-defined : goal.returns-clause-defined
returns-clause-defined c = one_defined c.one_cut.ensures.lines c.one_cut.ensures.no_cut

pub returns-clause-undefined : goal.returns-clause-undefined
returns-clause-undefined c = one_undefined c.one_cut.ensures.lines c.one_cut.ensures.no_cut
