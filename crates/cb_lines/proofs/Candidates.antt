-- Where a cut may stand, by the byte there and the one behind it.
use Rattle.std.proofs.Common.{◌≡◌, ◌↔◌, ◌⊎◌, ℕ, ◌+◌, ◌<◌, Bool, true, false, ◌||◌, ◌&&◌, ◌==◌, List, get_or, refl, ◌∙◌, arith, bit_or, bit_and, inl, inr, ⊎_elim}
use Rattle.std.specs.Int.{bit_at}
use Rattle.std.proofs.lemmas.Bool.{eqb-true, cases_order}
use Rattle.std.proofs.lemmas.Nat.Bits.{bit_at_or, bit_at_and, bit_at-lt}
use Rattle.std.proofs.lemmas.Bool.{and_parts, false_from_ne_true, or_left, or_right}
use Rattle.cb_lines.specs.Marks.{byte_at, is_line_feed, is_line_return, begins_line_end, is_splice}
use Rattle.cb_lines.specs.inner.Held.{is_special, is_ending}

-- a line end begins with its LF or with its CR
ending : (f r l : Bool) → (f || (r && l)) ≡ true → (f || r) ≡ true
ending true r l h = refl
ending false true l h = refl
ending false false l h = h

pub no_cut : (source : List ℕ) (k : ℕ) → (is_special (byte_at source k) ≡ true → is_ending (byte_at source (k + 1)) ≡ true → ⊥)
    → (is_line_return source k ≡ false) × (is_splice source k ≡ false)
no_cut source k none = (
  false_from_ne_true (is_line_return source k) (λ e.
      let is = and_parts (byte_at source k == 13) (is_line_feed (byte_at source (k + 1))) e in
      none (or_right (byte_at source k == 92) (byte_at source k == 13) is.0) (or_left (byte_at source (k + 1) == 10) (byte_at source (k + 1) == 13) is.1)),
  false_from_ne_true (is_splice source k) (λ e.
      let is = and_parts (byte_at source k == 92) (begins_line_end source (k + 1)) e in
      none (or_left (byte_at source k == 92) (byte_at source k == 13) is.0)
      (ending (byte_at source (k + 1) == 10) (byte_at source (k + 1) == 13) (is_line_feed (byte_at source (k + 1 + 1))) is.1)),
)

-- bit k of a mask is set where the byte stands in lane k
abbrev pub Finds : List ℕ → ℕ → ℕ → Type 0
Finds lanes byte bits = (k : ℕ) → (bit_at bits k ≡ 1) ↔ (get_or lanes k 0 ≡ byte)

one_true : (p q : Bool) → (p || q) ≡ true → (p ≡ true) ⊎ (q ≡ true)
one_true true q h = inl refl
one_true false q h = inr h

-- one of two bytes is found
pub either_found : (lanes : List ℕ) (x y a b k n : ℕ) → Finds lanes x a → Finds lanes y b → get_or lanes k 0 ≡ n → ((n == x) || (n == y)) ≡ true → bit_at (bit_or a b) k ≡ 1
either_found lanes x y a b k n fa fb is h =
    ⊎_elim (λ e. (let set : bit_at a k ≡ 1 = (fa k).1 (is ∙ eqb-true n x e) in omega (arith, set, bit_at_or a b k, bit_at-lt b k)))
    (λ e. (let set : bit_at b k ≡ 1 = (fb k).1 (is ∙ eqb-true n y e) in omega (arith, set, bit_at_or a b k, bit_at-lt a k))) (one_true (n == x) (n == y) h)

pub both_found : (a b k : ℕ) → bit_at a k ≡ 1 → bit_at b k ≡ 1 → bit_at (bit_and a b) k ≡ 1
both_found a b k h g = omega (arith, h, g, bit_at_and a b k)

-- and stands in a lane
pub found_within : (a b c k : ℕ) → ((i : ℕ) → bit_at a i ≡ 1 → i < 32) → ((i : ℕ) → bit_at b i ≡ 1 → i < 32) → bit_at (bit_and (bit_or a b) c) k ≡ 1 → k < 32
found_within a b c k wa wb h =
    let some : bit_at (bit_or a b) k ≡ 1 = omega (arith, h, bit_at_and (bit_or a b) c k, bit_at-lt (bit_or a b) k) in
    elim (cases_order (bit_at a k) 1) [
      | inl same ↦ wa k same
      | inr differ ↦ wb k (omega (arith, differ, some, bit_at_or a b k, bit_at-lt a k))
    ]
