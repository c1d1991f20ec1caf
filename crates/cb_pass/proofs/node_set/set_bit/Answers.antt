use Rattle.cb_pass.proofs.Words.{set_word}
use Rattle.cb_pass.proofs.node_set.set_bit.Goals as goal

pub returns : goal.returns
returns c = λ n. set_word c.args.words.now.items c.as_slice.result.now c.args.node c.as_slice.ensures.value c.requires n
