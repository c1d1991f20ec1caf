-- Digits one by one, and the millionths that they spell.
use Rattle.std.proofs.Common.{◌≡◌, ℕ, ◌+◌, ◌-◌, ◌*◌, ◌^◌, ◌<◌, ◌≤◌, ◌&&◌, zero, suc, Bool, true, false, cond, Some, None, List, [], ◌∷◌, length, get_or, take, min, refl, arith, add-one}
use Rattle.std.specs.Char.{digit_value, is_ascii_digit}
use Rattle.std.specs.Str.Parse.{digits_value}
use Rattle.std.specs.Prelude.{nat_le}
use Rattle.std.specs.List.{list_all}
use Rattle.cb_measure.specs.Figures.{counted_digits}
use Rattle.std.proofs.lemmas.Bool.Decides.{nat_tests}
use Rattle.std.proofs.lemmas.List.{take_min}
use Rattle.std.proofs.lemmas.Int.Digits.{digits_value_more}
use Rattle.std.proofs.Math.Nat.{min_comm, pow-le-pow_right}
use native.Mathlib.Numerals.{unary_clauses}

-- the value of a digit
pub digit_is : (c : ℕ) → is_ascii_digit c ≡ true → (digit_value c ≡ c - 48) × (48 ≤ c) × (c ≤ 57)
digit_is c h = grind (arith, nat_tests)

pub number_more : (bs : List ℕ) (i n : ℕ) → i < length bs → is_ascii_digit (get_or bs i 0) ≡ true → n ≡ digits_value 10 (take i bs)
    → n * 10 + (get_or bs i 0 - 48) ≡ digits_value 10 (take (i + 1) bs)
number_more bs i n within d e = rw (digits_value_more 10 bs i within, (digit_is _ d).0, ← e) refl

pub number_within : (n d i : ℕ) → n < 10 ^ i → d ≤ 9 → n * 10 + d < 10 ^ (i + 1)
number_within n d i h l = let e : 10 ^ (i + 1) ≡ 10 ^ i * 10 = rw add-one (simp unary_clauses refl) in omega (arith, e)

pub number_small : (n i : ℕ) → n < 10 ^ i → i < 18 → n < 10 ^ 17
number_small n i h l = omega (arith, pow-le-pow_right {n = 10} (omega arith) {i = i} {j = 17} (omega arith))

pub within_million : (k n : ℕ) → k ≤ 6 → n < 10 ^ k → n * 10 ^ (6 - k) < 1000000
within_million zero n l h = omega arith
within_million (suc zero) n l h = omega arith
within_million (suc (suc zero)) n l h = omega arith
within_million (suc (suc (suc zero))) n l h = omega arith
within_million (suc (suc (suc (suc zero)))) n l h = omega arith
within_million (suc (suc (suc (suc (suc zero))))) n l h = omega arith
within_million (suc (suc (suc (suc (suc (suc zero)))))) n l h = omega arith
within_million (suc (suc (suc (suc (suc (suc (suc k))))))) n l h = absurd (omega arith)

pub power : (k : ℕ) → k ≤ 6 → get_or (1 ∷ 10 ∷ 100 ∷ 1000 ∷ 10000 ∷ 100000 ∷ 1000000 ∷ []) k 0 ≡ 10 ^ k
power zero l = refl
power (suc zero) l = refl
power (suc (suc zero)) l = refl
power (suc (suc (suc zero))) l = refl
power (suc (suc (suc (suc zero)))) l = refl
power (suc (suc (suc (suc (suc zero))))) l = refl
power (suc (suc (suc (suc (suc (suc zero)))))) l = refl
power (suc (suc (suc (suc (suc (suc (suc k))))))) l = absurd (omega arith)

pub first_six : (xs : List ℕ) (m : ℕ) → m ≡ min (length xs) 6 → take m xs ≡ take 6 xs
first_six xs m e = rw (e, min_comm (length xs) 6) (take_min 6 xs)

pub all_digits : (most : ℕ) (text : List ℕ) (n : ℕ) → counted_digits most text ≡ Some n → list_all is_ascii_digit text ≡ true
unfolding counted_digits
all_digits most text n e = by (nat_le 1 (length text) && nat_le (length text) most) (list_all is_ascii_digit text) e
  where
    by : (few digits : Bool) → cond (few && digits) (Some (digits_value 10 text)) None ≡ Some n → digits ≡ true
    by true true e = refl
    by true false e = cc e
    by false digits e = cc e
