use Rattle.std.proofs.Common.{refl}
use Rattle.cb_expand.proofs.Runs.{stands_taken}
use Rattle.cb_expand.proofs.reading.stand.Goals as goal

pub returns-clause-taken : goal.returns-clause-taken
returns-clause-taken c = λ ms mode h t e. stands_taken ms mode c.args.work.now _ c.args.token h t e c.in_ok-push.ensures.items refl
