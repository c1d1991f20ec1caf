use Rattle.std.proofs.Common.{ap}
use Rattle.cb_words.specs.declared.fault.BadWords.TheVariants.{BadPath}
use Rattle.cb_words.specs.Faults.{or_fault}
use Rattle.cb_words.proofs.Refusals.{no_path}
use Rattle.cb_words.proofs.values.path_in.Goals as goal

pub returns-in-Err-Bad-clause-bad : goal.returns-in-Err-Bad-clause-bad
returns-in-Err-Bad-clause-bad c =
    ap (or_fault BadPath) (no_path c.args.text.now c.in-Err-Bad.field-0-0 (rw c.in-Err-Bad.field-0-is at c.in-Err-Bad.ensures.bad))
