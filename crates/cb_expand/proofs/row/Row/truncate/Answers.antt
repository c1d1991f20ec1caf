use Rattle.std.proofs.Common.{sym}
use Rattle.cb_expand.proofs.Keeping.{row_take, row_is}
use Rattle.cb_expand.proofs.row.Row.truncate.Goals as goal

pub returns-clause-kept : goal.returns-clause-kept
returns-clause-kept c =
    let s = c.args.self.now in
    row_is _ _ _ _ (sym c.truncate-2.ensures.items) (sym c.truncate.ensures.items) (row_take s.tokens.items s.ends.items c.args.height c.requires)
