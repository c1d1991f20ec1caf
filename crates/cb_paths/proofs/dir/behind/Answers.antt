use Rattle.cb_paths.proofs.Below.{not_behind, is_behind, differs, equals}
use Rattle.cb_paths.proofs.dir.behind.Goals as goal

pub returns-then-ne-clause-none : goal.returns-then-ne-clause-none
returns-then-ne-clause-none c = λ rest e. not_behind c.args.text.now c.args.front.now rest (differs _ _ _ c.ne.ensures c.if-ne.true) e

pub returns-clause-some : goal.returns-clause-some
returns-clause-some c =
    is_behind c.args.text.now c.args.front.now c.if-text-len.false c.if-text-len-ne47.false (equals _ _ _ c.ne.ensures c.if-ne.false)
