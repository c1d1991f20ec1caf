-- The platforms of the bits of a number: which they are, that they rise, and how many there are.
use Rattle.std.proofs.Common.{◌≡◌, ℕ, ◌+◌, ◌-◌, ◌*◌, ◌^◌, ◌<◌, ◌≤◌, false, eqb, List, [], ◌∷◌, length, get_or, refl, sym, ap, ◌∙◌, subst, suc, zero, inl, inr, arith}
use Rattle.std.proofs.Math.Nat.{pow-suc}
use lib.Count.{ones_step}
use Rattle.std.proofs.lemmas.Bool.{cases_eq, cases_lt, le-leb, lt-leb, eq-eqb, ne_eqb}
use Rattle.std.proofs.lemmas.Nat.{ones_cat, ones_le_self, pow_pos}
use Rattle.std.proofs.lemmas.Nat.Bits.{bit_at_cat_low, bit_at_cat_high, bit_at_above}
use Rattle.std.specs.Int.{bit_at}
use Rattle.std.specs.Int.RustNames.{count_ones}
use Rattle.std.specs.List.Sorted.{IsStrictlyIncreasing}
use Rattle.cb_lines.specs.Lines.{has_line}
use Rattle.cb_sets.specs.Sets.{members_below}

pub none_below : (n : ℕ) → members_below zero n ≡ []
unfolding members_below
none_below n = refl

pub with_top : (k n : ℕ) → 2 ^ k ≤ n → members_below (suc k) n ≡ (32 - k) ∷ members_below k (n - 2 ^ k)
unfolding members_below
with_top k n h = rw (le-leb (2 ^ k) n h) refl

pub without_top : (k n : ℕ) → n < 2 ^ k → members_below (suc k) n ≡ members_below k n
unfolding members_below
without_top k n h = rw (lt-leb (2 ^ k) n h) refl

-- a number with its highest bit set, and what is left of it
pub split_top : (k n : ℕ) → 2 ^ k ≤ n → n ≡ 1 * 2 ^ k + (n - 2 ^ k)
split_top k n h = omega arith

pub rest_small : (k n : ℕ) → n < 2 ^ suc k → 2 ^ k ≤ n → n - 2 ^ k < 2 ^ k
rest_small k n h top = omega (arith, pow-suc 2 k)

one_one : count_ones 1 ≡ 1
one_one = omega (arith, ones_step 1, ones_le_self 0)

pub count_below : (k n : ℕ) → n < 2 ^ k → length (members_below k n) ≡ count_ones n
count_below zero n h = rw (none_below n) (let e : n ≡ 0 = omega arith in let z : count_ones 0 ≤ 0 = ones_le_self 0 in rw e (omega arith))
count_below (suc k) n h =
    elim (cases_lt n (2 ^ k)) [
      | inl lt ↦ ap length (without_top k n lt) ∙ count_below k n lt
      | inr ge ↦ (
          let rest : n - 2 ^ k < 2 ^ k = rest_small k n h ge in
          let fewer : length (members_below k (n - 2 ^ k)) ≡ count_ones (n - 2 ^ k) = count_below k (n - 2 ^ k) rest in
          let all : count_ones n ≡ count_ones 1 + count_ones (n - 2 ^ k) = ap count_ones (split_top k n ge) ∙ ones_cat k 1 (n - 2 ^ k) rest in
          ap length (with_top k n ge) ∙ omega (arith, fewer, all, one_one)
          )
    ]

-- numbers that rise, none below a bound
abbrev pub Rising : ℕ → List ℕ → Type 0
Rising low [] = Unit {0}
Rising low (l ∷ ls) = (low ≤ l) × Rising (l + 1) ls

Rising-weaker : (low high : ℕ) (ls : List ℕ) → low ≤ high → Rising high ls → Rising low ls
Rising-weaker low high [] le h = tt
Rising-weaker low high (l ∷ ls) le h = (let begins : high ≤ l = h.0 in omega arith, h.1)

pub increasing_from_rising : (low : ℕ) (ls : List ℕ) → Rising low ls → IsStrictlyIncreasing ls
increasing_from_rising low [] h k l = absurd (omega arith)
increasing_from_rising low (x ∷ []) h k l = absurd (omega arith)
increasing_from_rising low (x ∷ y ∷ ls) h zero l = (let w : x + 1 ≤ y = h.1.0 in omega arith)
increasing_from_rising low (x ∷ y ∷ ls) h (suc k) l =
    let e : suc k + 1 ≡ suc (k + 1) = omega arith in
    let w : get_or (y ∷ ls) k 0 < get_or (y ∷ ls) (k + 1) 0 = increasing_from_rising (x + 1) (y ∷ ls) h.1 k (omega arith) in
    subst (λ (n : ℕ). get_or (x ∷ y ∷ ls) (suc k) 0 < get_or (x ∷ y ∷ ls) n 0) (sym e) w

pub rising_below : (k n : ℕ) → k ≤ 32 → Rising (33 - k) (members_below k n)
rising_below zero n h = subst (Rising (33 - zero)) (sym (none_below n)) tt
rising_below (suc k) n h =
    elim (cases_lt n (2 ^ k)) [
      | inl lt ↦ subst (Rising (33 - suc k)) (sym (without_top k n lt)) (Rising-weaker (33 - suc k) (33 - k) (members_below k n) (omega arith) (rising_below k n (omega arith)))
      | inr ge ↦ (
          let e : 33 - k ≡ 32 - k + 1 = omega arith in
          subst (Rising (33 - suc k)) (sym (with_top k n ge))
          (omega arith, subst (λ (low : ℕ). Rising low (members_below k (n - 2 ^ k))) e (rising_below k (n - 2 ^ k) (omega arith)))
          )
    ]

pub has-below : (low : ℕ) (ls : List ℕ) (l : ℕ) → Rising low ls → l < low → has_line ls l ≡ false
has-below low [] l h lt = refl
has-below low (x ∷ ls) l h lt =
    let begins : low ≤ x = h.0 in
    rw (ne_eqb x l (λ e. omega (arith, e))) (has-below (x + 1) ls l h.1 (omega arith))

-- no platform has a number above the limit
pub has_above : (k n p : ℕ) → 32 < p → has_line (members_below k n) p ≡ false
has_above zero n p h = ap (λ (ls : List ℕ). has_line ls p) (none_below n)
has_above (suc k) n p h =
    elim (cases_lt n (2 ^ k)) [
      | inl lt ↦ ap (λ (ls : List ℕ). has_line ls p) (without_top k n lt) ∙ has_above k n p h
      | inr ge ↦ ap (λ (ls : List ℕ). has_line ls p) (with_top k n ge) ∙ rw (ne_eqb (32 - k) p (λ e. omega (arith, e))) (has_above k (n - 2 ^ k) p h)
    ]

-- a platform is a member where its bit is set
pub has_bit : (k i n : ℕ) → k ≤ 32 → i < k → n < 2 ^ k → has_line (members_below k n) (32 - i) ≡ eqb (bit_at n i) 1
has_bit zero i n h lt small = absurd (omega arith)
has_bit (suc k) i n h lt small =
    elim (cases_lt n (2 ^ k)) [
      | inl less ↦ ap (λ (ls : List ℕ). has_line ls (32 - i)) (without_top k n less) ∙ elim (cases_eq i k) [
        | inl e ↦ (
            let none : bit_at n i ≡ 0 = bit_at_above n k i less (omega arith) in
            has-below (33 - k) (members_below k n) (32 - i) (rising_below k n (omega arith)) (omega arith) ∙ sym (ap (λ (b : ℕ). eqb b 1) none)
            )
        | inr ne ↦ (let ne' : i ≡ k → ⊥ = ne in has_bit k i n (omega arith) (omega arith) less)
      ]
      | inr ge ↦ (
          let rest : n - 2 ^ k < 2 ^ k = rest_small k n small ge in
          ap (λ (ls : List ℕ). has_line ls (32 - i)) (with_top k n ge) ∙ elim (cases_eq i k) [
            | inl e ↦ (
                let one : bit_at n i ≡ 1 =
                ap (λ (m : ℕ). bit_at m i) (split_top k n ge) ∙ (bit_at_cat_high 1 k (n - 2 ^ k) i rest (omega arith) ∙ (let z : i - k ≡ 0 = omega arith in ap (bit_at 1) z ∙ refl)) in
                rw (eq-eqb (32 - k) (32 - i) (omega arith)) (sym (ap (λ (b : ℕ). eqb b 1) one))
                )
            | inr ne ↦ (
                let ne' : i ≡ k → ⊥ = ne in
                let same : bit_at n i ≡ bit_at (n - 2 ^ k) i = ap (λ (m : ℕ). bit_at m i) (split_top k n ge) ∙ bit_at_cat_low 1 k (n - 2 ^ k) i (omega arith) in
                rw (ne_eqb (32 - k) (32 - i) (λ e. omega (arith, e))) (has_bit k i (n - 2 ^ k) (omega arith) (omega arith) rest ∙ sym (ap (λ (b : ℕ). eqb b 1) same))
                )
          ])
    ]

pub empty_below : (k : ℕ) → members_below k 0 ≡ []
empty_below zero = none_below 0
empty_below (suc k) = without_top k 0 (pow_pos k) ∙ empty_below k
