use Rattle.std.proofs.Common.{ℕ, true, get_or, ap, ◌∙◌, arith}
use Rattle.std.specs.Int.{bit_at}
use Rattle.std.proofs.lemmas.Nat.Bits.{bit_at-zero}
use Rattle.cb_tokens.specs.inner.Scan.{is_inner}
use Rattle.cb_tokens.proofs.Masks.{pass_on}
use Rattle.cb_tokens.proofs.lanes.inner_end.Goals as goal

pub returns-then-stops-ne0-clause-within : goal.returns-then-stops-ne0-clause-within
returns-then-stops-ne0-clause-within c =
    let near = c.stop_bits-stops.ensures.within c.lowest.result c.lowest.ensures.set in
    (omega (arith, c.lanes.invariant.within.0), omega (arith, near))

pub returns-then-stops-ne0-clause-inner : goal.returns-then-stops-ne0-clause-inner
returns-then-stops-ne0-clause-inner c = λ k low lt.
    let near = c.stop_bits-stops.ensures.within c.lowest.result c.lowest.ensures.set in
    pass_on (λ (k : ℕ). is_inner c.args.quote (get_or c.args.bytes.now k 0)) true c.args.from c.lanes.at c.lowest.result c.lanes.invariant.inner (λ k lt. c.stop_bits-stops.ensures.inner k (omega (arith, near)) (c.lowest.ensures.below k lt)) k low (omega arith)

pub lanes-preserved : goal.lanes-preserved
lanes-preserved c = record {
  within = (omega (arith, c.lanes.invariant.within.0), omega arith);
  inner = pass_on (λ (k : ℕ). is_inner c.args.quote (get_or c.args.bytes.now k 0)) true c.args.from c.lanes.at 32 c.lanes.invariant.inner (λ k lt. c.stop_bits-stops.ensures.inner k lt (ap (λ (m : ℕ). bit_at m k) c.if-stops-ne0.false ∙ bit_at-zero k));
}
