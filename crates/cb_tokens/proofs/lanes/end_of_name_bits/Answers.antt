use Rattle.std.proofs.Common.{◌≡◌, ℕ, ◌+◌, ◌<◌, get_or, cond, ap, ◌∙◌, arith}
use Rattle.std.proofs.lemmas.Nat.{or_lt}
use Rattle.cb_tokens.specs.Forms.{is_name_byte}
use Rattle.cb_tokens.proofs.Masks.{end_of_name}
use Rattle.cb_tokens.proofs.lanes.end_of_name_bits.Goals as goal

pub returns : goal.returns
returns c = λ k lt.
    let a : ℕ = c.bits_between.result in
    let b : ℕ = c.bits_between-2.result in
    let d : ℕ = c.bits_between-3.result in
    let e : ℕ = c.bits_between-4.result in
    let f : ℕ = c.bits_between-5.result in
    let g : ℕ = c.bits_between-6.result in
    let x : ℕ = get_or c.load_16-ahead.result k 0 in
    let here_ : x ≡ get_or c.args.bytes.now (c.args.at + k) 0 = c.load_16-ahead.ensures.each k lt in
    let byte : x < 256 = omega (arith, here_, c.type_inv.bytes (c.args.at + k)) in
    let small = or_lt 64 _ g (or_lt 64 _ f (or_lt 64 _ e (or_lt 64 _ d (or_lt 64 a b c.bits_between.type_inv c.bits_between-2.type_inv) c.bits_between-3.type_inv) c.bits_between-4.type_inv) c.bits_between-5.type_inv) c.bits_between-6.type_inv in
    end_of_name x a b d e f g k byte (omega arith) small (c.bits_between.ensures k lt) (c.bits_between-2.ensures k lt) (c.bits_between-3.ensures k lt) (c.bits_between-4.ensures k lt) (c.bits_between-5.ensures k lt) (c.bits_between-6.ensures k lt)
    ∙ ap (λ (b : ℕ). cond (is_name_byte b) 0 1) here_
