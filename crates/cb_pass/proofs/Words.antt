-- Bits of words.
use Rattle.std.proofs.Common.{◌≡◌, ℕ, ◌*◌, ◌/◌, ◌%◌, ◌^◌, ◌<◌, true, List, [], ◌∷◌, ◌++◌, length, get_or, refl, ap, arith, inl, inr, eqb}
use Rattle.std.specs.Prelude.{◌||◌, ◌==◌}
use Prim.Native.Nat.{zero, suc}
use Rattle.std.proofs.Math.ListN.{set}
use Rattle.std.proofs.Common.{get_or-set_other, get_or-set_same}
use Rattle.std.specs.Int.{bit_at, w64}
use Rattle.std.specs.Int.RustNames.{bit_or}
use Rattle.std.proofs.lemmas.Nat.Bits.{bit_at_set_same, bit_at_set_other}
use Rattle.std.proofs.lemmas.Bool.{eq-eqb, ne_eqb, cases_eq}
use Rattle.cb_pass.specs.Reached.{has_bit}

pub behind_end : (words : List ℕ) (k : ℕ) → get_or (words ++ 0 ∷ []) k 0 ≡ get_or words k 0
behind_end [] zero = refl
behind_end [] (suc k) = refl
behind_end (w ∷ ws) zero = refl
behind_end (w ∷ ws) (suc k) = behind_end ws k

at_same : (words : List ℕ) (node : ℕ) → node / 64 < length words
    → has_bit (set words (node / 64) (bit_or (get_or words (node / 64) 0) (1 * 2 ^ (node % 64) % 2 ^ 64))) node ≡ true
unfolding has_bit
at_same words node h =
    let w : node % 64 < 64 = omega arith in
    rw get_or-set_same (rw (bit_at_set_same w64 (get_or words (node / 64) 0) (node % 64) w) refl)

at_other : (words : List ℕ) (node n : ℕ) → node / 64 < length words → (n ≡ node → ⊥)
    → has_bit (set words (node / 64) (bit_or (get_or words (node / 64) 0) (1 * 2 ^ (node % 64) % 2 ^ 64))) n ≡ has_bit words n
unfolding has_bit
at_other words node n h ne =
    let w : node % 64 < 64 = omega arith in
    elim (cases_eq (n / 64) (node / 64)) [
      | inl e ↦ (
          let d : n % 64 ≡ node % 64 → ⊥ = λ q. ne (omega arith) in
          rw e (rw get_or-set_same (rw (bit_at_set_other w64 (get_or words (node / 64) 0) (node % 64) w (n % 64) d) refl))
          )
      | inr d ↦ rw get_or-set_other refl
    ]

pub set_one : (words : List ℕ) (node : ℕ) → node / 64 < length words → (n : ℕ)
    → has_bit (set words (node / 64) (bit_or (get_or words (node / 64) 0) (1 * 2 ^ (node % 64) % 2 ^ 64))) n ≡ ((n == node) || has_bit words n)
set_one words node h n =
    elim (cases_eq n node) [
      | inl e ↦ rw e (rw (eq-eqb node node refl) (at_same words node h))
      | inr ne ↦ rw (ne_eqb n node ne) (at_other words node n h ne)
    ]

pub same_bits : (words others : List ℕ) → ((k : ℕ) → get_or words k 0 ≡ get_or others k 0) → (n : ℕ) → has_bit words n ≡ has_bit others n
unfolding has_bit
same_bits words others same n = ap (λ w. eqb (bit_at w (n % 64)) 1) (same (n / 64))

pub set_word : (words read : List ℕ) (node : ℕ) → read ≡ words → node / 64 < length words → (n : ℕ)
    → has_bit (set words (node / 64) (bit_or (get_or read (node / 64) 0) (1 * 2 ^ (node % 64) % 2 ^ 64))) n ≡ ((n == node) || has_bit words n)
set_word words read node e h n = rw e (set_one words node h n)
