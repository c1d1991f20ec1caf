use Rattle.std.proofs.Common.{◌≡◌, ◌+◌, ◌-◌, ◌<◌, ◌≤◌, ℕ, true, false, List, ap, subst, ◌∙◌, arith, ⊎_elim}
use Rattle.std.specs.Int.{bit_at}
use Rattle.std.proofs.lemmas.Bool.{cases_lt}
use Rattle.std.proofs.lemmas.Nat.Bits.{bit_at-zero}
use Rattle.cb_lines.specs.inner.Held.{is_special, is_ending}
use Rattle.cb_lines.specs.Marks.{byte_at, is_line_return, is_splice}
use Rattle.cb_lines.proofs.Candidates.{no_cut}
use Rattle.cb_lines.proofs.splicing.candidate_from.Goals as goal

-- a position whose bit is not set
unset : (source : List ℕ) (at marked k : ℕ) → ((i : ℕ) → i < 32 → is_special (byte_at source (at + i)) ≡ true → is_ending (byte_at source (at + i + 1)) ≡ true → bit_at marked i ≡ 1)
    → at ≤ k → k < at + 32 → bit_at marked (k - at) ≡ 0 → (is_line_return source k ≡ false) × (is_splice source k ≡ false)
unset source at marked k set low high clear =
    let same : k ≡ at + (k - at) = omega arith in
    no_cut source k (λ special ending.
    let e : bit_at marked (k - at) ≡ 1 = set (k - at) (omega arith) (subst (λ (n : ℕ). is_special (byte_at source n) ≡ true) same special) (subst (λ (n : ℕ). is_ending (byte_at source (n + 1)) ≡ true) same ending) in
    omega (arith, e, clear))

pub returns-then-marked-ne0-clause-stays : goal.returns-then-marked-ne0-clause-stays
returns-then-marked-ne0-clause-stays c = λ k low high.
    let at : ℕ = c.vectors.at in
    ⊎_elim (λ before. c.vectors.invariant.stays k low before)
    (λ behind. unset c.args.source.now at c.candidates-marked.result k c.candidates-marked.ensures.set behind (omega (arith, c.candidates-marked.ensures.within c.lowest.result c.lowest.ensures.set)) (c.lowest.ensures.below (k - at) (omega arith)))
    (cases_lt k at)

pub vectors-preserved : goal.vectors-preserved
vectors-preserved c =
    let at : ℕ = c.vectors.at in
    let none : c.candidates-marked.result ≡ 0 = omega (arith, c.if-marked-ne0.false) in
    record {
      from = omega arith;
      within = omega arith;
      stays = λ k low high.
          ⊎_elim (λ before. c.vectors.invariant.stays k low before)
          (λ behind. unset c.args.source.now at c.candidates-marked.result k c.candidates-marked.ensures.set behind high (ap (λ m. bit_at m (k - at)) none ∙ bit_at-zero (k - at)))
          (cases_lt k at);
    }
