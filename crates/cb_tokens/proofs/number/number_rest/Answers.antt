use Rattle.std.proofs.Common.{arith}
use Rattle.cb_tokens.proofs.Numbers.{ahead_start, ahead_more, ahead_end}
use Rattle.cb_tokens.proofs.number.number_rest.Goals as goal

pub bytes-init : goal.bytes-init
bytes-init c = (omega arith, ahead_start c.args.before c.args.bytes.now)

pub bytes-preserved : goal.bytes-preserved
bytes-preserved c =
    (omega arith, ahead_more _ c.bytes.last c.args.bytes.now c.bytes.n c.bytes-test.true (cc) c.bytes.invariant.1)

pub returns-then-not-continues_number : goal.returns-then-not-continues_number
returns-then-not-continues_number c = ahead_end _ c.bytes.last c.args.bytes.now c.bytes.n (λ h. cc) c.bytes.invariant.1

pub returns : goal.returns
returns c = ahead_end _ c.bytes.last c.args.bytes.now c.bytes.n (λ h. absurd (omega arith)) c.bytes.invariant.1
