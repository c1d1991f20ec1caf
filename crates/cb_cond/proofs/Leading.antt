-- The digits at the front of a text.
use Rattle.std.proofs.Common.{◌≡◌, ℕ, suc, ◌+◌, ◌-◌, ◌*◌, ◌<◌, ◌≤◌, Bool, true, false, List, [], ◌∷◌, length, length-drop, get_or, take, drop, refl, ap, sym, ◌∙◌, arith, eqb, eqb-true}
use Rattle.std.specs.List.{prefix_len}
use Rattle.std.proofs.lemmas.Bool.Decides.{nat_tests}
use Rattle.std.proofs.lemmas.List.{take_all, get_or-take, length-take-le}
use Rattle.std.proofs.lemmas.List.Sums.{prefix_len_is, prefix_len_passes, prefix_len_stops, prefix_len-drop_yes, prefix_len-drop_no, prefix_len-le-length}
use Rattle.cb_cond.specs.Integers.{digit_value, is_digit, are_digits, next_amount, amount, is_digit_byte}
use Rattle.cb_cond.proofs.Digits.{amount-next}

pub digit-small : (b : ℕ) → digit_value b ≤ 16
unfolding digit_value
digit-small b = grind (arith, nat_tests)

is-digit : (base b d : ℕ) → d ≡ digit_value b → d < base → is_digit base b ≡ true
unfolding is_digit
is-digit base b d e l = grind (arith, nat_tests)

is-no-digit : (base b d : ℕ) → d ≡ digit_value b → base ≤ d → is_digit base b ≡ false
unfolding is_digit
is-no-digit base b d e l = grind (arith, nat_tests)

-- a digit is no '
no-quote-if : (base b : ℕ) (v : Bool) → eqb b 39 ≡ v → base ≤ 16 → is_digit base b ≡ true → v ≡ false
unfolding is_digit digit_value
no-quote-if base b true e l h = let same : b ≡ 39 = eqb-true b 39 e in grind (arith, nat_tests)
no-quote-if base b false e l h = refl

no-quote : (base b : ℕ) → base ≤ 16 → is_digit base b ≡ true → eqb b 39 ≡ false
no-quote base b l h = no-quote-if base b (eqb b 39) refl l h

pub number-more : (base : ℕ) (text : List ℕ) (i d sum more : ℕ) → base ≤ 16 → i < length text → d ≡ digit_value (get_or text i 0) → d < base
    → sum ≡ amount base (take i text) → more ≡ sum * base + d → more ≡ amount base (take (i + 1) text)
unfolding next_amount
number-more base text i d sum more l w e below s m =
    let quote = no-quote base (get_or text i 0) l (is-digit base (get_or text i 0) d e below) in
    m ∙ ap (λ v. sum * base + v) e ∙ ap (λ n. n * base + digit_value (get_or text i 0)) s ∙ sym (amount-next base text i w ∙ rw quote refl)

pub counted-more : (base : ℕ) (text : List ℕ) (i d n : ℕ) → i < length text → d ≡ digit_value (get_or text i 0) → d < base
    → i + prefix_len (is_digit base) (drop i text) ≡ n → i + 1 + prefix_len (is_digit base) (drop (i + 1) text) ≡ n
counted-more base text i d n w e below c = omega (arith, c, prefix_len-drop_yes (is_digit base) text i 0 w (is-digit base (get_or text i 0) d e below))

pub counted-stops : (base : ℕ) (text : List ℕ) (i d n : ℕ) → i < length text → d ≡ digit_value (get_or text i 0) → base ≤ d
    → i + prefix_len (is_digit base) (drop i text) ≡ n → i ≡ n
counted-stops base text i d n w e above c = omega (arith, c, prefix_len-drop_no (is_digit base) text i 0 w (is-no-digit base (get_or text i 0) d e above))

-- no byte of digits follows
byte-stops : (base b : ℕ) → is_digit base b ≡ false → eqb b 39 ≡ false → is_digit_byte base b ≡ false
unfolding is_digit_byte
byte-stops base b h k = rw h k

byte-passes : (base b : ℕ) → is_digit base b ≡ true → is_digit_byte base b ≡ true
unfolding is_digit_byte
byte-passes base b h = rw h refl

pub same-front : (base : ℕ) (text : List ℕ) (n : ℕ) → n ≡ prefix_len (is_digit base) text → eqb (get_or text n 0) 39 ≡ false → prefix_len (is_digit_byte base) text ≡ n
same-front base text n e quote =
    prefix_len_is (is_digit_byte base) text n 0 (omega (arith, e, prefix_len-le-length (is_digit base) text))
    (λ k l. byte-passes base (get_or text k 0) (prefix_len_passes (is_digit base) text k 0 (omega (arith, e))))
    (λ l. byte-stops base (get_or text n 0) (rw e (prefix_len_stops (is_digit base) text 0 (omega (arith, e)))) quote)

are-more : (base b : ℕ) (after : Bool) (bs : List ℕ) → base ≤ 16 → is_digit base b ≡ true → are_digits base true bs ≡ true → are_digits base after (b ∷ bs) ≡ true
unfolding are_digits
are-more base b after bs l h k = rw (no-quote base b l h) (rw h k)

are-all : (base : ℕ) (bs : List ℕ) → base ≤ 16 → ((k : ℕ) → k < length bs → is_digit base (get_or bs k 0) ≡ true) → are_digits base true bs ≡ true
unfolding are_digits
are-all base [] l h = refl
are-all base (b ∷ bs) l h = are-more base b true bs l (h 0 (omega arith)) (are-all base bs l (λ k below. h (suc k) (omega arith)))

are-some : (base : ℕ) (bs : List ℕ) → base ≤ 16 → 0 < length bs → ((k : ℕ) → k < length bs → is_digit base (get_or bs k 0) ≡ true) → are_digits base false bs ≡ true
are-some base [] l s h = let none : ⊥ = omega arith in absurd none
are-some base (b ∷ bs) l s h = are-more base b false bs l (h 0 (omega arith)) (are-all base bs l (λ k below. h (suc k) (omega arith)))

pub are-front : (base : ℕ) (text : List ℕ) (n : ℕ) → base ≤ 16 → n ≡ prefix_len (is_digit base) text → 0 < n → are_digits base false (take n text) ≡ true
are-front base text n l e s =
    let within : n ≤ length text = omega (arith, e, prefix_len-le-length (is_digit base) text) in
    let len : length (take n text) ≡ n = length-take-le n text within in
    are-some base (take n text) l (omega arith)
    (λ k below. ap (is_digit base) (get_or-take n text k 0 (omega arith)) ∙ prefix_len_passes (is_digit base) text k 0 (omega (arith, e)))

-- a text from a place on
pub behind-whole : (text : List ℕ) (n : ℕ) → take (length text - n) (drop n text) ≡ drop n text
behind-whole text n = take_all (length text - n) (drop n text) (omega (arith, length-drop n text))
