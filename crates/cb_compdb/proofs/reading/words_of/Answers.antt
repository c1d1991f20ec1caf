use Rattle.serde_json.specs.View.{view}
use Rattle.cb_compdb.proofs.Items.{arguments_read}
use Rattle.cb_compdb.proofs.reading.words_of.Goals as goal

pub returns-in-Some-2-clause-words : goal.returns-in-Some-2-clause-words
returns-in-Some-2-clause-words c =
    arguments_read (view c.args.value.now) (view c.in-Some.list.now) c.in-Some-2.words c.in-Some.ensures (rw c.in-Some-2.is at c.in_ok-words-in-Some.ensures)
