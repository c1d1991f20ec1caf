use Rattle.std.proofs.lemmas.Bool.Decides.{Decides-eqb}
use Rattle.std.proofs.lemmas.Slice.Eq.{strip_prefix_is}
use Rattle.cb_compdb.proofs.Words.{behind_read}
use Rattle.cb_compdb.proofs.form.behind.Goals as goal

pub returns : goal.returns
returns c =
    behind_read c.args.name.now c.args.word.now c.strip_prefix.result (strip_prefix_is Decides-eqb c.args.word.now c.args.name.now c.strip_prefix.result c.strip_prefix.ensures.cases)
