use Rattle.std.proofs.Common.{ap, sym, ◌∙◌}
use Rattle.cb_words.specs.declared.fault.BadWords.TheVariants.{BadFolder}
use Rattle.cb_words.specs.Faults.{or_fault}
use Rattle.cb_words.specs.Values.{folder_or_here}
use Rattle.cb_words.proofs.Refusals.{no_folder}
use Rattle.cb_words.proofs.values.root.Goals as goal

pub returns-in-Err-Bad-clause-bad : goal.returns-in-Err-Bad-clause-bad
returns-in-Err-Bad-clause-bad c =
    sym (ap (folder_or_here c.args.here.now) c.in-Some.ensures)
    ∙ ap (or_fault BadFolder) (no_folder c.in-Some.text.now c.args.here.now c.in-Err-Bad.field-0-0 (rw c.in-Err-Bad.field-0-is at c.in-Err-Bad.ensures.bad))
