use Rattle.std.proofs.Common.{◌≡◌, ◌↔◌, ◌<◌, get_or, sym, subst, arith, w8}
use Rattle.std.specs.Int.{bit_at}
use Rattle.std.proofs.lemmas.Simd.{bitmask_splat}
use lib.Dec.{eqb}
use Rattle.cb_paths.proofs.Masks.{bit_of_mask, lane_of_bit}
use Rattle.cb_paths.proofs.lanes.bits_of.Goals as goal

pub returns-clause-there : goal.returns-clause-there
returns-clause-there c = λ k.
    let v = c.args.bytes in
    let b = c.args.byte in
    subst (λ m. (bit_at m k ≡ 1) ↔ (get_or v k 0 ≡ b)) (sym (bitmask_splat w8 eqb v 32 b c.fits-bytes.0 (omega arith))) (bit_of_mask b c.requires v k)

pub returns-clause-within : goal.returns-clause-within
returns-clause-within c = λ k.
    let v = c.args.bytes in
    let b = c.args.byte in
    subst (λ m. bit_at m k ≡ 1 → k < 32) (sym (bitmask_splat w8 eqb v 32 b c.fits-bytes.0 (omega arith))) (lane_of_bit b c.requires v k c.fits-bytes.0)
