-- Digits one by one
use Rattle.std.proofs.Common.{◌≡◌, ℕ, ◌+◌, ◌*◌, ◌<◌, ◌≤◌, Bool, true, false, cond, List, [], ◌∷◌, ◌&&◌, length, get_or, take, drop, ap, arith, eqb}
use Rattle.std.proofs.Math.Nat.{mul-le-mul_left}
use Rattle.std.proofs.lemmas.List.{at_drop_more, at_drop_all, take-append-drop}
use Rattle.std.proofs.lemmas.List.Sums.{fold_more, fold-append}
use Rattle.std.specs.List.{fold}
use Rattle.cb_cond.specs.Integers.{is_digit, are_digits, next_amount, amount, digit_value}

pub are_digits-next : (base : ℕ) (after : Bool) (bs : List ℕ) (i : ℕ) → i < length bs
    → are_digits base after (drop i bs) ≡ cond (eqb (get_or bs i 0) 39) (after && are_digits base false (drop (i + 1) bs)) (is_digit base (get_or bs i 0) && are_digits base true (drop (i + 1) bs))
unfolding are_digits
are_digits-next base after bs i h = at_drop_more (are_digits base after) bs i 0 h

pub are_digits-end : (base : ℕ) (after : Bool) (bs : List ℕ) (i : ℕ) → length bs ≤ i → are_digits base after (drop i bs) ≡ after
unfolding are_digits
are_digits-end base after bs i h = at_drop_all (are_digits base after) bs i h

next-grows : (base n b : ℕ) → 1 ≤ base → (v : Bool) → n ≤ cond v n (n * base + digit_value b)
next-grows base n b h true = omega arith
next-grows base n b h false = omega (arith, mul-le-mul_left n h)

pub amount-grows : (base : ℕ) (bs : List ℕ) (n : ℕ) → 1 ≤ base → n ≤ fold (next_amount base) n bs
unfolding next_amount
amount-grows base [] n h = omega arith
amount-grows base (b ∷ bs) n h =
    let e : n ≤ next_amount base n b = next-grows base n b h (eqb b 39) in
    omega (arith, amount-grows base bs (next_amount base n b) h)

pub amount-next : (base : ℕ) (bs : List ℕ) (i : ℕ) → i < length bs → amount base (take (i + 1) bs) ≡ next_amount base (amount base (take i bs)) (get_or bs i 0)
unfolding amount
amount-next base bs i h = fold_more (next_amount base) 0 bs i 0 h

pub amount-within : (base : ℕ) (bs : List ℕ) (i : ℕ) → 1 ≤ base → amount base (take i bs) ≤ amount base bs
unfolding amount
amount-within base bs i h =
    let e = fold-append (next_amount base) 0 (take i bs) (drop i bs) in
    let g = amount-grows base (drop i bs) (fold (next_amount base) 0 (take i bs)) h in
    let w = ap (fold (next_amount base) 0) (take-append-drop i bs) in
    omega (arith, e, g, w)

pub ruleset steps = (are_digits-next, are_digits-end, amount-next, amount-within)
