use Rattle.std.proofs.Common.{refl}
use Rattle.cb_expand.proofs.Runs.{ends_none, started}
use Rattle.cb_expand.proofs.source.work_of.Goals as goal

pub returns : goal.returns
returns c = started c.args.tokens.now _ c.in_ok-tokens.ensures (ends_none _ _ c.new.ensures.items) refl c.new-3.ensures.items c.in_ok-done.ensures.items c.args.paid refl c.requires
