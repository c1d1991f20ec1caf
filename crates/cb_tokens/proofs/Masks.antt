-- Masks of lanes, bit by bit.
use Rattle.std.proofs.Common.{◌≡◌, ◌↔◌, ◌⊎◌, ℕ, ◌+◌, ◌-◌, ◌<◌, ◌≤◌, ◌==◌, ◌%◌, ◌^◌, List, [], ◌∷◌, Bool, true, false, cond, length, get_or, map, refl, sym, ap, ◌∙◌, subst, arith, bit_or, bit_and, ◌&&◌, ◌||◌, leb, replicate, w8, w64, inl, inr, ⊎_elim}
use Rattle.std.specs.Int.{bit_at, bit_not}
use Rattle.std.specs.Simd.Lanes.{mask_l, zip2, top}
use Rattle.std.proofs.lemmas.Bool.{ne_eqb, cases_lt, cases_order, agree_below, agree_below_at}
use Rattle.std.proofs.lemmas.List.{length-map}
use Rattle.std.proofs.lemmas.List.{get_or-map as get_or-map_at}
use Rattle.std.proofs.lemmas.Simd.{bit_mask_l, tops_compared, mask_l-mod}
use Rattle.std.proofs.lemmas.Nat.Bits.{bit_at_or, bit_at_and, bit_at_not, bit_at-lt}
use Rattle.cb_tokens.specs.Forms.{is_quote, is_name_byte, is_name_start}
use Rattle.cb_tokens.specs.Plain.{is_quiet}
use Rattle.cb_tokens.specs.inner.Scan.{is_inner, ends_with}

one_of : (a b k : ℕ) → bit_at (bit_or a b) k ≡ 1 → (bit_at a k ≡ 1) ⊎ (bit_at b k ≡ 1)
one_of a b k h =
    elim (cases_order (bit_at a k) 1) [
      | inl same ↦ inl same
      | inr differ ↦ inr (omega (arith, differ, bit_at_or a b k, bit_at-lt a k))
    ]

none_of : (a b k : ℕ) → bit_at (bit_or a b) k ≡ 0 → (bit_at a k ≡ 0) × (bit_at b k ≡ 0)
none_of a b k h = (omega (arith, bit_at_or a b k), omega (arith, bit_at_or a b k))

-- the bytes that are not quiet
is_loud_of : (x : ℕ) → (((x ≡ 10) ⊎ (x ≡ 34)) ⊎ (x ≡ 39)) ⊎ (x ≡ 47) → is_quiet x ≡ false
unfolding is_quiet is_quote
is_loud_of x h = ⊎_elim (λ h. ⊎_elim (λ h. ⊎_elim (λ e. ap is_quiet e) (λ e. ap is_quiet e) h) (λ e. ap is_quiet e) h) (λ e. ap is_quiet e) h

is_quiet_of : (x : ℕ) → (x ≡ 10 → ⊥) → (x ≡ 34 → ⊥) → (x ≡ 39 → ⊥) → (x ≡ 47 → ⊥) → is_quiet x ≡ true
unfolding is_quiet is_quote
is_quiet_of x a b c d = rw (ne_eqb x 10 a, ne_eqb x 34 b, ne_eqb x 39 c, ne_eqb x 47 d) refl

-- bit k of the mask is set where the byte stands in lane k
abbrev pub Finds : List ℕ → ℕ → ℕ → Type 0
Finds v byte bits = (k : ℕ) → (bit_at bits k ≡ 1) ↔ (get_or v k 0 ≡ byte)

not_there : (v : List ℕ) (byte bits k : ℕ) → Finds v byte bits → bit_at bits k ≡ 0 → get_or v k 0 ≡ byte → ⊥
not_there v byte bits k f none is = let one = (f k).1 is in omega arith

off : (b : Bool) → (b && false) ≡ false
off true = refl
off false = refl

-- no bit stands for a place past the lanes
abbrev pub Few : ℕ → Type 0
Few bits = (k : ℕ) → bit_at bits k ≡ 1 → k < 32

few_of : (a b : ℕ) → Few a → Few b → Few (bit_or a b)
few_of a b fa fb = λ k h. ⊎_elim (fa k) (fb k) (one_of a b k h)

pub some_loud : (v : List ℕ) (a b c d k : ℕ) → Few a → Few b → Few c → Few d → Finds v 10 a → Finds v 34 b → Finds v 39 c → Finds v 47 d
    → bit_at (bit_or (bit_or (bit_or a b) c) d) k ≡ 1 → (k < 32) × (is_quiet (get_or v k 0) ≡ false)
some_loud v a b c d k wa wb wc wd fa fb fc fd h = (
  few_of (bit_or (bit_or a b) c) d (few_of (bit_or a b) c (few_of a b wa wb) wc) wd k h,
  is_loud_of (get_or v k 0)
      (⊎_elim (λ h. inl (⊎_elim (λ h. inl (⊎_elim (λ h. inl ((fa k).0 h)) (λ h. inr ((fb k).0 h)) (one_of a b k h))) (λ h. inr ((fc k).0 h)) (one_of (bit_or a b) c k h))) (λ h. inr ((fd k).0 h)) (one_of (bit_or (bit_or a b) c) d k h)),
)

pub none_loud : (v : List ℕ) (a b c d k : ℕ) → Finds v 10 a → Finds v 34 b → Finds v 39 c → Finds v 47 d
    → bit_at (bit_or (bit_or (bit_or a b) c) d) k ≡ 0 → is_quiet (get_or v k 0) ≡ true
none_loud v a b c d k fa fb fc fd h =
    let last = none_of (bit_or (bit_or a b) c) d k h in
    let third = none_of (bit_or a b) c k last.0 in
    let two = none_of a b k third.0 in
    is_quiet_of (get_or v k 0) (not_there v 10 a k fa two.0) (not_there v 34 b k fb two.1) (not_there v 39 c k fc third.1) (not_there v 47 d k fd last.1)

pub some_stop : (a b c k : ℕ) → Few a → Few b → Few c → bit_at (bit_or (bit_or a b) c) k ≡ 1 → k < 32
some_stop a b c k wa wb wc h = few_of (bit_or a b) c (few_of a b wa wb) wc k h

pub none_stops : (v : List ℕ) (q a b c k : ℕ) → Finds v q a → Finds v 92 b → Finds v 10 c → bit_at (bit_or (bit_or a b) c) k ≡ 0 → is_inner q (get_or v k 0) ≡ true
unfolding is_inner
none_stops v q a b c k fa fb fc h =
    let last = none_of (bit_or a b) c k h in
    let two = none_of a b k last.0 in
    rw (ne_eqb (get_or v k 0) q (not_there v q a k fa two.0), ne_eqb (get_or v k 0) 92 (not_there v 92 b k fb two.1), ne_eqb (get_or v k 0) 10 (not_there v 10 c k fc last.1)) refl

pub both_there : (a b k : ℕ) → Few a → bit_at (bit_and a b) k ≡ 1 → k < 32
both_there a b k wa h = wa k (omega (arith, bit_at_and a b k, bit_at-lt a k))

pub not_both : (v w : List ℕ) (a b k : ℕ) → Finds v 42 a → Finds w 47 b → bit_at (bit_and a b) k ≡ 0 → ends_with (get_or v k 0) (get_or w k 0) ≡ false
unfolding ends_with
not_both v w a b k fa fb h =
    elim (cases_order (bit_at a k) 1) [
      | inl same ↦ (
          let none : bit_at b k ≡ 0 = omega (arith, bit_at_and a b k, bit_at-lt b k) in
          rw (ne_eqb (get_or w k 0) 47 (not_there w 47 b k fb none)) (off (get_or v k 0 == 42))
          )
      | inr differ ↦ (let none : bit_at a k ≡ 0 = omega (arith, differ, bit_at-lt a k) in rw (ne_eqb (get_or v k 0) 42 (not_there v 42 a k fa none)) refl)
    ]

-- what passes a test up to a place, and behind it
pub pass_on : (p : ℕ → Bool) (t : Bool) (from at n : ℕ) → ((k : ℕ) → from ≤ k → k < at → p k ≡ t) → ((k : ℕ) → k < n → p (at + k) ≡ t)
    → (k : ℕ) → from ≤ k → k < at + n → p k ≡ t
pass_on p t from at n before behind k low lt =
    elim (cases_lt k at) [
      | inl l ↦ before k low l
      | inr ge ↦ (let e : at + (k - at) ≡ k = omega arith in subst (λ (i : ℕ). p i ≡ t) e (behind (k - at) (omega arith)))
    ]

splat_zip2 : {Z : Type 0} (f : ℕ → ℕ → Z) (x : ℕ) (ys : List ℕ) → zip2 f (replicate (length ys) x) ys ≡ map (f x) ys
splat_zip2 f x [] = refl
splat_zip2 f x (y ∷ ys) = ap (λ rest. f x y ∷ rest) (splat_zip2 f x ys)

-- bit k of the mask of a test of each lane
lane_bit : (f : ℕ → Bool) (v : List ℕ) (k : ℕ) → k < length v → bit_at (mask_l (map f v)) k ≡ cond (f (get_or v k 0)) 1 0
lane_bit f v k lt = bit_mask_l (map f v) k ∙ ap (λ t. cond {A = ℕ} t 1 0) (get_or-map_at f v k 0 false lt)

pub low_mask : (low : ℕ) (v : List ℕ) → length v ≡ 16
    → mask_l (map (top 7) (zip2 (λ a b. cond (leb a b) 255 0) (replicate 16 low) v)) % 2 ^ 64 ≡ mask_l (map (leb low) v)
low_mask low v long =
    ap (λ ms. mask_l ms % 2 ^ 64) (tops_compared w8 leb (replicate 16 low) v ∙ ap (λ m. zip2 leb (replicate m low) v) (sym long) ∙ splat_zip2 leb low v)
    ∙ mask_l-mod (map (leb low) v) 64 (omega (arith, length-map v (leb low)))

both_bits : (a b k : ℕ) (x y : Bool) → bit_at a k ≡ cond x 1 0 → bit_at b k ≡ cond y 1 0 → bit_at (bit_and a b) k ≡ cond (x && y) 1 0
both_bits a b k true true e f = omega (arith, bit_at_and a b k)
both_bits a b k true false e f = omega (arith, bit_at_and a b k)
both_bits a b k false y e f = omega (arith, bit_at_and a b k)

either_bits : (a b k : ℕ) (x y : Bool) → bit_at a k ≡ cond x 1 0 → bit_at b k ≡ cond y 1 0 → bit_at (bit_or a b) k ≡ cond (x || y) 1 0
either_bits a b k true y e f = omega (arith, bit_at_or a b k, bit_at-lt b k)
either_bits a b k false true e f = omega (arith, bit_at_or a b k)
either_bits a b k false false e f = omega (arith, bit_at_or a b k)

no_bit : (n k : ℕ) (x : Bool) → n < 2 ^ 64 → k < 64 → bit_at n k ≡ cond x 1 0 → bit_at (bit_not w64 n) k ≡ cond x 0 1
no_bit n k true small lt e = omega (arith, bit_at_not w64 n k small lt)
no_bit n k false small lt e = omega (arith, bit_at_not w64 n k small lt)

pub between_bits : (low high : ℕ) (v : List ℕ) (k : ℕ) → length v ≡ 16 → k < 16
    → bit_at (bit_and (mask_l (map (leb low) v)) (mask_l (map (λ x. leb x high) v))) k ≡ cond (leb low (get_or v k 0) && leb (get_or v k 0) high) 1 0
between_bits low high v k long lt =
    both_bits (mask_l (map (leb low) v)) (mask_l (map (λ x. leb x high) v)) k (leb low (get_or v k 0)) (leb (get_or v k 0) high)
    (lane_bit (leb low) v k (omega arith)) (lane_bit (λ x. leb x high) v k (omega arith))

pub between_of : (low high : ℕ) (v : List ℕ) (a b k : ℕ) → a ≡ mask_l (map (leb low) v) → b ≡ mask_l (map (λ x. leb x high) v) → length v ≡ 16 → k < 16
    → bit_at (bit_and a b) k ≡ cond (leb low (get_or v k 0) && leb (get_or v k 0) high) 1 0
between_of low high v a b k e f long lt =
    ap (λ (m : ℕ). bit_at (bit_and m b) k) e ∙ ap (λ (m : ℕ). bit_at (bit_and (mask_l (map (leb low) v)) m) k) f ∙ between_bits low high v k long lt

-- a byte between two
abbrev between : ℕ → ℕ → ℕ → Bool
between low high x = leb low x && leb x high

-- the bytes that names go on with, by ranges
abbrev named : ℕ → Bool
named x = between 97 122 x || between 65 90 x || between 48 57 x || between 95 95 x || between 36 36 x || between 128 255 x

named_all : agree_below named is_name_byte 256 ≡ true
unfolding is_name_byte is_name_start
named_all = refl

named_byte : (x : ℕ) → x < 256 → named x ≡ is_name_byte x
named_byte x lt = agree_below_at named is_name_byte 256 x named_all lt

pub end_of_name : (x a b c d e f k : ℕ) → x < 256 → k < 64 → bit_or (bit_or (bit_or (bit_or (bit_or a b) c) d) e) f < 2 ^ 64
    → bit_at a k ≡ cond (between 97 122 x) 1 0 → bit_at b k ≡ cond (between 65 90 x) 1 0 → bit_at c k ≡ cond (between 48 57 x) 1 0
    → bit_at d k ≡ cond (between 95 95 x) 1 0 → bit_at e k ≡ cond (between 36 36 x) 1 0 → bit_at f k ≡ cond (between 128 255 x) 1 0
    → bit_at (bit_not w64 (bit_or (bit_or (bit_or (bit_or (bit_or a b) c) d) e) f)) k ≡ cond (is_name_byte x) 0 1
end_of_name x a b c d e f k byte lt small ha hb hc hd he hf =
    let ab = either_bits a b k (between 97 122 x) (between 65 90 x) ha hb in
    let abc = either_bits (bit_or a b) c k (between 97 122 x || between 65 90 x) (between 48 57 x) ab hc in
    let abcd = either_bits (bit_or (bit_or a b) c) d k (between 97 122 x || between 65 90 x || between 48 57 x) (between 95 95 x) abc hd in
    let five = either_bits (bit_or (bit_or (bit_or a b) c) d) e k (between 97 122 x || between 65 90 x || between 48 57 x || between 95 95 x) (between 36 36 x) abcd he in
    let all = either_bits (bit_or (bit_or (bit_or (bit_or a b) c) d) e) f k (between 97 122 x || between 65 90 x || between 48 57 x || between 95 95 x || between 36 36 x) (between 128 255 x) five hf in
    no_bit (bit_or (bit_or (bit_or (bit_or (bit_or a b) c) d) e) f) k (named x) small lt all ∙ ap (λ t. cond {A = ℕ} t 0 1) (named_byte x byte)

pub end_bit : (t : Bool) (n : ℕ) → n ≡ cond t 0 1 → (n ≡ 0 → t ≡ true) × (n ≡ 1 → t ≡ false)
end_bit true n e = (λ h. refl, λ h. absurd (omega arith))
end_bit false n e = (λ h. absurd (omega arith), λ h. refl)
