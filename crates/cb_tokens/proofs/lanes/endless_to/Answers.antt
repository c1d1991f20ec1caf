use Rattle.std.proofs.Common.{ℕ, ◌+◌, false, get_or, ap, ◌∙◌, arith}
use Rattle.std.specs.Int.{bit_at}
use Rattle.std.proofs.lemmas.Nat.Bits.{bit_at-zero}
use Rattle.cb_tokens.specs.inner.Scan.{ends_with}
use Rattle.cb_tokens.proofs.Masks.{pass_on}
use Rattle.cb_tokens.proofs.lanes.endless_to.Goals as goal

pub returns-then-ends-ne0-clause-within : goal.returns-then-ends-ne0-clause-within
returns-then-ends-ne0-clause-within c =
    let near = c.end_bits-ends.ensures.within c.lowest.result c.lowest.ensures.set in
    (omega (arith, c.lanes.invariant.within.0), omega (arith, near))

pub returns-then-ends-ne0-clause-goes : goal.returns-then-ends-ne0-clause-goes
returns-then-ends-ne0-clause-goes c = λ k low lt.
    let near = c.end_bits-ends.ensures.within c.lowest.result c.lowest.ensures.set in
    pass_on (λ (k : ℕ). ends_with (get_or c.args.bytes.now k 0) (get_or c.args.bytes.now (k + 1) 0)) false c.args.from c.lanes.at c.lowest.result c.lanes.invariant.goes (λ k lt. c.end_bits-ends.ensures.goes k (omega (arith, near)) (c.lowest.ensures.below k lt)) k low (omega arith)

pub lanes-preserved : goal.lanes-preserved
lanes-preserved c = record {
  within = (omega (arith, c.lanes.invariant.within.0), omega arith);
  goes = pass_on (λ (k : ℕ). ends_with (get_or c.args.bytes.now k 0) (get_or c.args.bytes.now (k + 1) 0)) false c.args.from c.lanes.at 32 c.lanes.invariant.goes (λ k lt. c.end_bits-ends.ensures.goes k lt (ap (λ (m : ℕ). bit_at m k) c.if-ends-ne0.false ∙ bit_at-zero k));
}
