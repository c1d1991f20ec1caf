use Rattle.cb_pass.specs.States.{Given}
use Rattle.cb_pass.proofs.Beginning.{one_more}
use Rattle.cb_pass.proofs.Begun.{given}
use Rattle.cb_pass.proofs.walking.take_words.Goals as goal

pub words-preserved : goal.words-preserved
words-preserved c = λ files waiting.
    let command = c.args.command.now in
    let taken = c.in_ok-take_word.ensures command.language in
    one_more files command Given _ c.words.op-index _ _ c.words.trail c.take_word.new.self waiting c.words-test.true c.op-item.is (c.words.invariant files waiting)
    (λ ws. given files command c.words.trail c.take_word.new.self ws _ taken.0 taken.1 taken.2)
