-- Digits one by one.
use Rattle.std.proofs.Common.{◌≡◌, ℕ, ◌+◌, ◌-◌, ◌*◌, ◌^◌, ◌<◌, ◌≤◌, true, List, length, get_or, take, refl, arith, add-one}
use Rattle.std.specs.Char.{digit_value, is_ascii_digit}
use Rattle.std.specs.Str.Parse.{digits_value}
use Rattle.std.proofs.lemmas.Bool.Decides.{nat_tests}
use Rattle.std.proofs.lemmas.Int.Digits.{digits_value_more}
use Rattle.std.proofs.Math.Nat.{pow-le-pow_right}
use native.Mathlib.Numerals.{unary_clauses}

-- the value of a digit
pub digit_is : (c : ℕ) → is_ascii_digit c ≡ true → (digit_value c ≡ c - 48) × (48 ≤ c) × (c ≤ 57)
digit_is c h = grind (arith, nat_tests)

pub number_more : (bs : List ℕ) (i n : ℕ) → i < length bs → is_ascii_digit (get_or bs i 0) ≡ true → n ≡ digits_value 10 (take i bs)
    → n * 10 + (get_or bs i 0 - 48) ≡ digits_value 10 (take (i + 1) bs)
number_more bs i n within d e = rw (digits_value_more 10 bs i within, (digit_is _ d).0, ← e) refl

pub number_within : (n d i : ℕ) → n < 10 ^ i → d ≤ 9 → n * 10 + d < 10 ^ (i + 1)
number_within n d i h l = let e : 10 ^ (i + 1) ≡ 10 ^ i * 10 = rw add-one (simp unary_clauses refl) in omega (arith, e)

pub number_small : (n i : ℕ) → n < 10 ^ i → i < 10 → n < 10 ^ 9
number_small n i h l = omega (arith, pow-le-pow_right {n = 10} (omega arith) {i = i} {j = 9} (omega arith))
