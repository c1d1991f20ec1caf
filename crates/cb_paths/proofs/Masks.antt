-- Masks of lanes, bit by bit.
use Rattle.std.proofs.Common.{◌≡◌, ◌↔◌, ℕ, ◌<◌, List, Bool, true, false, cond, length, get_or, map, refl, sym, ap, ◌∙◌, arith, inl, inr}
use Rattle.std.specs.Int.{bit_at}
use Rattle.std.specs.Simd.Lanes.{mask_l}
use lib.Dec.{eqb}
use Rattle.std.proofs.lemmas.Bool.{eqb-true, ne_eqb, cases_lt}
use Rattle.std.proofs.lemmas.Bool.Decides.{nat_tests}
use Rattle.std.proofs.lemmas.List.{get_or_past}
use Rattle.std.proofs.lemmas.Simd.{bit_mask_l}
use Rattle.std.proofs.Math.ListN.{get_or-map}

not_same : (x b : ℕ) → eqb x b ≡ false → x ≡ b → ⊥
not_same x b e h = grind (arith, nat_tests)

set_tells : (x b : ℕ) (t : Bool) → eqb x b ≡ t → (cond {A = ℕ} t 1 0 ≡ 1) ↔ (x ≡ b)
set_tells x b true e = (λ h. eqb-true x b e, λ h. refl)
set_tells x b false e = (λ h. absurd (omega arith), λ h. absurd (not_same x b e h))

-- the mask of the comparison with a byte
pub bit_of_mask : (b : ℕ) → 0 < b → (v : List ℕ) (k : ℕ) → (bit_at (mask_l (map (λ x. eqb x b) v)) k ≡ 1) ↔ (get_or v k 0 ≡ b)
bit_of_mask b some v k =
    let f : ℕ → Bool = λ x. eqb x b in
    let zero_ : eqb 0 b ≡ false = ne_eqb 0 b (λ e. omega arith) in
    let e : bit_at (mask_l (map f v)) k ≡ cond (eqb (get_or v k 0) b) 1 0
    = bit_mask_l (map f v) k ∙ ap (λ t. cond {A = ℕ} t 1 0) (ap (λ d. get_or (map f v) k d) (sym zero_) ∙ get_or-map f v k 0) in
    let t = set_tells (get_or v k 0) b (eqb (get_or v k 0) b) refl in
    (λ h. t.0 (sym e ∙ h), λ h. e ∙ t.1 h)

-- a byte that is not 0 stands in a lane
lane_of : (v : List ℕ) (k : ℕ) → length v ≡ 32 → 0 < get_or v k 0 → k < 32
lane_of v k long some = elim (cases_lt k 32) [ inl lt ↦ lt | inr ge ↦ absurd (let past = get_or_past v k 0 (omega arith) in omega arith) ]

pub lane_of_bit : (b : ℕ) → 0 < b → (v : List ℕ) (k : ℕ) → length v ≡ 32 → bit_at (mask_l (map (λ x. eqb x b) v)) k ≡ 1 → k < 32
lane_of_bit b some v k long h = lane_of v k long (let e = (bit_of_mask b some v k).0 h in omega (arith, e, some))
