use Rattle.cb_words.proofs.KindNames.{named}
use Rattle.cb_words.proofs.values.kind_named.Goals as goal

pub returns : goal.returns
returns c = named c.args.name.now c.read.result c.read.ensures.known c.read.ensures.unknown
