use Rattle.std.proofs.Common.{leb, arith, w8}
use Rattle.std.proofs.lemmas.Simd.{bitmask_splat}
use Rattle.cb_tokens.proofs.Masks.{low_mask, between_of}
use Rattle.cb_tokens.proofs.lanes.bits_between.Goals as goal

pub returns : goal.returns
returns c = λ k lt.
    let v = c.args.bytes in
    between_of c.args.low c.args.high v _ _ k (low_mask c.args.low v c.fits-bytes.0) (bitmask_splat w8 leb v 16 c.args.high c.fits-bytes.0 (omega arith)) c.fits-bytes.0 lt
