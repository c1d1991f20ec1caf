use Rattle.std.proofs.Common.{◌≡◌, ◌≤◌, ◌+◌, ◌^◌, get_or, take, ap, sym, ◌∙◌, arith}
use Rattle.cb_cond.specs.Integers.{next_amount, amount}
use Rattle.cb_cond.proofs.Digits.{amount-next, amount-within}
use Rattle.cb_cond.proofs.integers.amount_of.Goals as goal

pub returns-in_default : goal.returns-in_default
returns-in_default c =
    let base = c.args.base in
    let digits = c.args.digits.now in
    let i = c.loop-byte.byte-index in
    let wide : 2 ^ 64 ≤ next_amount base c.loop-byte.sum (get_or digits i 0) = c.in_default.ensures in
    let whole = amount-within base digits (i + 1) c.requires in
    let next = amount-next base digits i (omega arith) in
    let e : next_amount base c.loop-byte.sum (get_or digits i 0) ≡ amount base (take (i + 1) digits) =
    ap (λ s. next_amount base s (get_or digits i 0)) c.loop-byte.invariant ∙ sym next in
    omega arith
