use Rattle.std.proofs.Common.{◌≡◌, ◌++◌, length}
use Rattle.cb_compdb.specs.Options.{effects_of}
use Rattle.cb_compdb.specs.Commands.{texts_of}
use Rattle.cb_compdb.specs.declared.form.OptionKind.TheVariants.{ForcedFile}
use Rattle.cb_compdb.proofs.made.forced_files.Given as goal

abbrev pub invariant-effects : goal.invariant-effects
invariant-effects l = texts_of ForcedFile (effects_of l.words) ≡ l.texts ++ texts_of ForcedFile (effects_of l.left)

abbrev pub decreases-effects : goal.decreases-effects
decreases-effects l = length l.left
