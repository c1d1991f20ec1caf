use Rattle.std.proofs.Common.{List, ℕ, subst}
use Rattle.serde_json.specs.View.{view}
use Rattle.cb_compdb.specs.Pieces.{HasWords, HasOpenQuote}
use Rattle.cb_compdb.proofs.Items.{command_read, command_open}
use Rattle.cb_compdb.proofs.reading.command_words.Goals as goal

pub returns-in-Some-2-clause-words : goal.returns-in-Some-2-clause-words
returns-in-Some-2-clause-words c =
    let P : List ℕ → Type 0 = λ text. HasWords text c.in-Some-2.words in
    command_read (view c.args.value.now) c.in-Some.command.now c.in-Some-2.words c.requires c.in-Some.ensures (subst P c.as_bytes.ensures.value (rw c.in-Some-2.is at c.in_ok-words.ensures))

pub returns-in-None-clause-fault : goal.returns-in-None-clause-fault
returns-in-None-clause-fault c =
    command_open (view c.args.value.now) c.in-Some.command.now c.requires c.in-Some.ensures (subst HasOpenQuote c.as_bytes.ensures.value (rw c.in-None.is at c.in_ok-words.ensures))
