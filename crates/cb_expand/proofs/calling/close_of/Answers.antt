use Rattle.std.proofs.Common.{◌<◌, length, sym, rules}
use Rattle.cb_expand.proofs.Begun.{last_at}
use Rattle.cb_expand.proofs.calling.close_of.Goals as goal

pub returns-else-is_empty : goal.returns-else-is_empty
returns-else-is_empty c =
    let h : 0 < length c.args.ends.now = search rules in
    sym (last_at c.args.height c.args.ends.now h)
