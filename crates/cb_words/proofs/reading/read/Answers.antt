use Rattle.std.proofs.Common.{map, string_bytes, Err, subst, sym}
use Rattle.cb_words.specs.declared.fault.BadWords.TheVariants.{NoCommand}
use Rattle.cb_words.specs.Says.{Says, nothing}
use Rattle.cb_words.proofs.Lists.{no_item}
use Rattle.cb_words.proofs.reading.read.Goals as goal

pub returns-in_default-clause-bad : goal.returns-in_default-clause-bad
returns-in_default-clause-bad c =
    subst (λ words. Says c.args.here.now (map string_bytes words) (Err NoCommand)) (no_item c.args.words.now (sym c.in_default.ensures.cases)) nothing
