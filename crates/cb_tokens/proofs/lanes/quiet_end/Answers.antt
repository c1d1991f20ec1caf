use Rattle.std.proofs.Common.{ℕ, true, get_or, ap, ◌∙◌, arith}
use Rattle.std.specs.Int.{bit_at}
use Rattle.std.proofs.lemmas.Nat.Bits.{bit_at-zero}
use Rattle.cb_tokens.specs.Plain.{is_quiet}
use Rattle.cb_tokens.proofs.Masks.{pass_on}
use Rattle.cb_tokens.proofs.lanes.quiet_end.Goals as goal

pub returns-then-loud-ne0-clause-quiet : goal.returns-then-loud-ne0-clause-quiet
returns-then-loud-ne0-clause-quiet c = λ k low lt.
    let near = c.loud_bits-loud.ensures.loud c.lowest.result c.lowest.ensures.set in
    pass_on (λ (k : ℕ). is_quiet (get_or c.args.bytes.now k 0)) true c.args.from c.lanes.at c.lowest.result c.lanes.invariant.quiet (λ k lt. c.loud_bits-loud.ensures.quiet k (omega (arith, near.0)) (c.lowest.ensures.below k lt)) k low (omega arith)

pub lanes-preserved : goal.lanes-preserved
lanes-preserved c = record {
  from = omega (arith, c.lanes.invariant.from);
  quiet = pass_on (λ (k : ℕ). is_quiet (get_or c.args.bytes.now k 0)) true c.args.from c.lanes.at 32 c.lanes.invariant.quiet (λ k lt. c.loud_bits-loud.ensures.quiet k lt (ap (λ (m : ℕ). bit_at m k) c.if-loud-ne0.false ∙ bit_at-zero k));
}
