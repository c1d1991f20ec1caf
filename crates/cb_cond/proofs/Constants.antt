-- What the code reads as an integer is one, and each integer is read so.
use Rattle.std.proofs.Common.{◌≡◌, ◌≢◌, ℕ, zero, suc, ◌+◌, ◌<◌, ◌≤◌, ◌⊎◌, Bool, true, false, cond, ◌&&◌, ◌||◌, List, [], ◌∷◌, ◌++◌, length, get_or, take, drop, codes, refl, ap, sym, ◌∙◌, subst, inl, inr, ⊎_elim, arith, eqb, ltb}
use Rattle.std.proofs.lemmas.Bool.Decides.{nat_tests}
use Rattle.std.proofs.lemmas.Bool.{false≢true, and_parts}
use Rattle.std.proofs.lemmas.List.{take-append-drop}
use Rattle.std.proofs.lemmas.Slice.Eq.{bytes_eq-Decides}
use Rattle.std.proofs.Math.Seq.{take-append_seam, drop-append_seam}
use Rattle.std.specs.List.{prefix_len, list_any}
use Rattle.std.specs.Str.{bytes_eq}
use Rattle.cb_cond.specs.declared.symbol.Symbol.TheVariants.{Stray}
use Rattle.cb_cond.specs.Integers.{digit_value, is_digit, are_digits, amount, signed_suffixes, unsigned_suffixes, suffixes, is_among, base_of, mark_len, number, with_suffix, is_digit_byte, behind_mark, integer, HasMark, IsInteger}

-- a letter of a suffix
unfoldable is_letter : ℕ → Bool
is_letter b = eqb b 108 || (eqb b 76 || (eqb b 117 || eqb b 85))

-- a suffix begins with one of its letters
unfoldable Begins : List ℕ → Type 0
Begins [] = Unit {0}
Begins (b ∷ bs) = is_letter b ≡ true

begins-if : (u : Bool) (b : ℕ) (bs : List ℕ) (v w x y : Bool) → eqb b 108 ≡ v → eqb b 76 ≡ w → eqb b 117 ≡ x → eqb b 85 ≡ y
    → is_among (suffixes u) (b ∷ bs) ≡ true → (v || (w || (x || y))) ≡ true
unfolding is_among suffixes signed_suffixes unsigned_suffixes
begins-if u b bs true w x y e f g h k = refl
begins-if u b bs false true x y e f g h k = refl
begins-if u b bs false false true y e f g h k = refl
begins-if u b bs false false false true e f g h k = refl
begins-if true b bs false false false false e f g h k = rw (g, h, e, f) at k
begins-if false b bs false false false false e f g h k = rw (e, f) at k

begins : (u : Bool) (suffix : List ℕ) → is_among (suffixes u) suffix ≡ true → Begins suffix
unfolding Begins is_letter
begins u [] h = tt
begins u (b ∷ bs) h = begins-if u b bs _ _ _ _ refl refl refl refl h

eqb-is : (m n : ℕ) → eqb m n ≡ true → m ≡ n
eqb-is m n h = grind (arith, nat_tests)

-- a letter of a suffix is no byte of digits
record IsNoDigit (b : ℕ) : Type 0 where
  value : digit_value b ≡ 16
  quote : eqb b 39 ≡ false
  hexadecimal : (eqb b 120 || eqb b 88) ≡ false
  binary : (eqb b 98 || eqb b 66) ≡ false

no-digit-at : (b c : ℕ) → eqb b c ≡ true → IsNoDigit c → IsNoDigit b
no-digit-at b c e h = let P : ℕ → Type 0 = IsNoDigit in subst P (sym (eqb-is b c e)) h

no-digit-if : (b : ℕ) (v w x y : Bool) → eqb b 108 ≡ v → eqb b 76 ≡ w → eqb b 117 ≡ x → eqb b 85 ≡ y → (v || (w || (x || y))) ≡ true → IsNoDigit b
unfolding digit_value
no-digit-if b true w x y e f g h k = no-digit-at b 108 e (record { value = refl; quote = refl; hexadecimal = refl; binary = refl })
no-digit-if b false true x y e f g h k = no-digit-at b 76 f (record { value = refl; quote = refl; hexadecimal = refl; binary = refl })
no-digit-if b false false true y e f g h k = no-digit-at b 117 g (record { value = refl; quote = refl; hexadecimal = refl; binary = refl })
no-digit-if b false false false true e f g h k = no-digit-at b 85 h (record { value = refl; quote = refl; hexadecimal = refl; binary = refl })
no-digit-if b false false false false e f g h k = absurd (false≢true k)

no-digit : (b : ℕ) → is_letter b ≡ true → IsNoDigit b
unfolding is_letter
no-digit b k = no-digit-if b _ _ _ _ refl refl refl refl k

ltb-not : (m n : ℕ) → n ≤ m → ltb m n ≡ false
ltb-not m n h = grind (arith, nat_tests)

no-digit-byte : (base b : ℕ) → base ≤ 16 → IsNoDigit b → is_digit_byte base b ≡ false
unfolding is_digit_byte is_digit
no-digit-byte base b l h = let low = ltb-not 16 base l in rw (h.value, h.quote, low) refl

or-right : (v w : Bool) → w ≡ true → (v || w) ≡ true
or-right true w e = refl
or-right false w e = e

or-left : (v w : Bool) → v ≡ true → (v || w) ≡ true
or-left v w e = rw e refl

digit-byte-if : (base : ℕ) (after : Bool) (d : ℕ) (ds : List ℕ) (v : Bool) → eqb d 39 ≡ v
    → cond v (after && are_digits base false ds) (is_digit base d && are_digits base true ds) ≡ true
    → (is_digit_byte base d ≡ true) × ((are_digits base false ds ≡ true) ⊎ (are_digits base true ds ≡ true))
unfolding is_digit_byte
digit-byte-if base after d ds true e h = (or-right (is_digit base d) (eqb d 39) e, inl (and_parts after _ h).1)
digit-byte-if base after d ds false e h = let p = and_parts (is_digit base d) _ h in (or-left (is_digit base d) (eqb d 39) p.0, inr p.1)

prefix-if : (b : Bool) (n m : ℕ) → b ≡ true → n ≡ m → cond b (1 + n) 0 ≡ suc m
prefix-if b n m e f = rw (e, f) (omega arith)

prefix-digits : (base : ℕ) (after : Bool) (digits suffix : List ℕ) → base ≤ 16 → are_digits base after digits ≡ true → Begins suffix
    → prefix_len (is_digit_byte base) (digits ++ suffix) ≡ length digits
unfolding are_digits Begins
prefix-digits base after [] [] l h s = refl
prefix-digits base after [] (b ∷ bs) l h s = let e = no-digit-byte base b l (no-digit b s) in rw e refl
prefix-digits base after (d ∷ ds) suffix l h s =
    let p = digit-byte-if base after d ds (eqb d 39) refl h in
    prefix-if _ _ _ p.0 (⊎_elim (λ q. prefix-digits base false ds suffix l q s) (λ q. prefix-digits base true ds suffix l q s) p.1)

any-split : (p : List ℕ → Bool) (t : List ℕ) (ts : List (List ℕ)) (v : Bool) → p t ≡ v → list_any p (t ∷ ts) ≡ true → (p t ≡ true) ⊎ (list_any p ts ≡ true)
any-split p t ts true e h = inl e
any-split p t ts false e h = inr (rw e at h)

signed-only : (s t : List ℕ) → bytes_eq s t ≡ true → is_among unsigned_suffixes t ≡ false → is_among unsigned_suffixes s ≡ false
signed-only s t e h = let P : List ℕ → Type 0 = λ x. is_among unsigned_suffixes x ≡ false in subst P (sym ((bytes_eq-Decides s t).0 e)) h

-- no suffix belongs to both
apart : (s : List ℕ) → is_among signed_suffixes s ≡ true → is_among unsigned_suffixes s ≡ false
unfolding is_among signed_suffixes unsigned_suffixes
apart s h =
    let p : List ℕ → Bool = λ t. bytes_eq s t in
    ⊎_elim (λ e. signed-only s (codes "") e refl)
    (λ h1. ⊎_elim (λ e. signed-only s (codes "l") e refl)
    (λ h2. ⊎_elim (λ e. signed-only s (codes "L") e refl)
    (λ h3. ⊎_elim (λ e. signed-only s (codes "ll") e refl)
    (λ h4. ⊎_elim (λ e. signed-only s (codes "LL") e refl)
    (λ h5. absurd (false≢true h5)) (any-split p (codes "LL") [] _ refl h4))
    (any-split p (codes "ll") (codes "LL" ∷ []) _ refl h3))
    (any-split p (codes "L") (codes "ll" ∷ codes "LL" ∷ []) _ refl h2))
    (any-split p (codes "l") (codes "L" ∷ codes "ll" ∷ codes "LL" ∷ []) _ refl h1))
    (any-split p (codes "") (codes "l" ∷ codes "L" ∷ codes "ll" ∷ codes "LL" ∷ []) _ refl h)

not-signed : (s : List ℕ) → is_among unsigned_suffixes s ≡ true → (v : Bool) → is_among signed_suffixes s ≡ v → is_among signed_suffixes s ≡ false
not-signed s h true e = absurd (false≢true (sym (apart s e) ∙ h))
not-signed s h false e = e

-- digits and a suffix are read as their number
suffix-if : (base : ℕ) (digits suffix : List ℕ) (u : Bool) → are_digits base false digits ≡ true → is_among (suffixes u) suffix ≡ true
    → with_suffix base digits suffix ≡ number (amount base digits) u
unfolding with_suffix suffixes
suffix-if base digits suffix false d h = rw (d, h) refl
suffix-if base digits suffix true d h = let e = not-signed suffix h _ refl in rw (d, e, h) refl

read-behind : (base : ℕ) (digits suffix : List ℕ) (u : Bool) → base ≤ 16 → are_digits base false digits ≡ true → is_among (suffixes u) suffix ≡ true
    → behind_mark base (digits ++ suffix) ≡ number (amount base digits) u
unfolding behind_mark
read-behind base digits suffix u l d h =
    let n = prefix-digits base false digits suffix l d (begins u suffix h) in
    ap (λ m. with_suffix base (take m (digits ++ suffix)) (drop m (digits ++ suffix))) n
    ∙ ap (λ w. with_suffix base w (drop (length digits) (digits ++ suffix))) (take-append_seam digits suffix)
    ∙ ap (λ w. with_suffix base digits w) (drop-append_seam digits suffix)
    ∙ suffix-if base digits suffix u d h

-- the base of digits without a mark
plain-base : (b : ℕ) (bs : List ℕ) → eqb b 48 ≡ false → base_of (b ∷ bs) ≡ 10
unfolding base_of
plain-base b bs e = rw e refl

octal-base : (bs : List ℕ) → (eqb (get_or bs 0 0) 120 || eqb (get_or bs 0 0) 88) ≡ false → (eqb (get_or bs 0 0) 98 || eqb (get_or bs 0 0) 66) ≡ false → base_of (48 ∷ bs) ≡ 8
unfolding base_of
octal-base bs e f = rw (e, f) refl

octal-second-if : (d : ℕ) (v w x y : Bool) → eqb d 120 ≡ v → eqb d 88 ≡ w → eqb d 98 ≡ x → eqb d 66 ≡ y → is_digit_byte 8 d ≡ true
    → ((v || w) ≡ false) × ((x || y) ≡ false)
unfolding is_digit_byte is_digit digit_value
octal-second-if d true w x y e f g h k = absurd (false≢true (rw (eqb-is d 120 e) at k))
octal-second-if d false true x y e f g h k = absurd (false≢true (rw (eqb-is d 88 f) at k))
octal-second-if d false false true y e f g h k = absurd (false≢true (rw (eqb-is d 98 g) at k))
octal-second-if d false false false true e f g h k = absurd (false≢true (rw (eqb-is d 66 h) at k))
octal-second-if d false false false false e f g h k = (refl, refl)

octal-second : (ds suffix : List ℕ) → are_digits 8 true ds ≡ true → Begins suffix
    → ((eqb (get_or (ds ++ suffix) 0 0) 120 || eqb (get_or (ds ++ suffix) 0 0) 88) ≡ false) × ((eqb (get_or (ds ++ suffix) 0 0) 98 || eqb (get_or (ds ++ suffix) 0 0) 66) ≡ false)
unfolding are_digits Begins
octal-second [] [] d s = (refl, refl)
octal-second [] (b ∷ bs) d s = let n = no-digit b s in (n.hexadecimal, n.binary)
octal-second (e ∷ es) suffix d s = octal-second-if e _ _ _ _ refl refl refl refl (digit-byte-if 8 true e es (eqb e 39) refl d).0

eqb-zero : (d : ℕ) → d ≡ 48 → eqb d 48 ≡ true
eqb-zero d e = rw e refl

eqb-not : (d : ℕ) → (d ≡ 48 → ⊥) → eqb d 48 ≡ false
eqb-not d h = grind (arith, nat_tests)

marked-hexadecimal : (base : ℕ) (mark digits suffix : List ℕ) (u : Bool) → base ≡ 16 → (mark ≡ codes "0x") ⊎ (mark ≡ codes "0X")
    → are_digits base false digits ≡ true → is_among (suffixes u) suffix ≡ true → integer (mark ++ (digits ++ suffix)) ≡ number (amount base digits) u
unfolding integer base_of mark_len
marked-hexadecimal base mark digits suffix u e (inl m) d h = rw (m, e) (read-behind 16 digits suffix u (omega arith) (rw e at d) h)
marked-hexadecimal base mark digits suffix u e (inr m) d h = rw (m, e) (read-behind 16 digits suffix u (omega arith) (rw e at d) h)

marked-binary : (base : ℕ) (mark digits suffix : List ℕ) (u : Bool) → base ≡ 2 → (mark ≡ codes "0b") ⊎ (mark ≡ codes "0B")
    → are_digits base false digits ≡ true → is_among (suffixes u) suffix ≡ true → integer (mark ++ (digits ++ suffix)) ≡ number (amount base digits) u
unfolding integer base_of mark_len
marked-binary base mark digits suffix u e (inl m) d h = rw (m, e) (read-behind 2 digits suffix u (omega arith) (rw e at d) h)
marked-binary base mark digits suffix u e (inr m) d h = rw (m, e) (read-behind 2 digits suffix u (omega arith) (rw e at d) h)

by-base : (text : List ℕ) (base : ℕ) → base_of text ≡ base → mark_len base ≡ 0 → integer text ≡ behind_mark base text
unfolding integer
by-base text base e z = ap (λ b. behind_mark b (drop (mark_len b) text)) e ∙ ap (λ n. behind_mark base (drop n text)) z

octal-whole : (digits suffix : List ℕ) (u : Bool) → get_or digits 0 0 ≡ 48 → are_digits 8 false digits ≡ true → is_among (suffixes u) suffix ≡ true
    → integer (digits ++ suffix) ≡ number (amount 8 digits) u
unfolding are_digits mark_len is_digit digit_value
octal-whole [] suffix u e d h = absurd (false≢true d)
octal-whole (b ∷ bs) suffix u e d h =
    let at : are_digits 8 false (48 ∷ bs) ≡ true = rw e at d in
    let two = octal-second bs suffix at (begins u suffix h) in
    by-base ((b ∷ bs) ++ suffix) 8 (rw e (octal-base (bs ++ suffix) two.0 two.1)) refl
    ∙ read-behind 8 (b ∷ bs) suffix u (omega arith) d h

decimal-whole : (digits suffix : List ℕ) (u : Bool) → get_or digits 0 0 ≢ 48 → are_digits 10 false digits ≡ true → is_among (suffixes u) suffix ≡ true
    → integer (digits ++ suffix) ≡ number (amount 10 digits) u
unfolding mark_len
decimal-whole [] suffix u e d h = absurd (false≢true (unfold are_digits in d))
decimal-whole (b ∷ bs) suffix u e d h =
    by-base ((b ∷ bs) ++ suffix) 10 (plain-base b (bs ++ suffix) (eqb-not b e)) refl
    ∙ read-behind 10 (b ∷ bs) suffix u (omega arith) d h

-- an integer is read as its number
integer-parts : (base : ℕ) (mark digits suffix : List ℕ) (u : Bool) → HasMark base mark digits → are_digits base false digits ≡ true → is_among (suffixes u) suffix ≡ true
    → integer (mark ++ (digits ++ suffix)) ≡ number (amount base digits) u
integer-parts base mark digits suffix u (inl m) d h = marked-hexadecimal base mark digits suffix u m.0 m.1 d h
integer-parts base mark digits suffix u (inr (inl m)) d h = marked-binary base mark digits suffix u m.0 m.1 d h
integer-parts base mark digits suffix u (inr (inr (inl m))) d h = rw (m.1, m.0) (octal-whole digits suffix u m.2 (rw m.0 at d) h)
integer-parts base mark digits suffix u (inr (inr (inr m))) d h = rw (m.1, m.0) (decimal-whole digits suffix u m.2 (rw m.0 at d) h)

-- each integer is read as its number
pub integer-is : (text : List ℕ) (n : ℕ) (u : Bool) → IsInteger text n u → integer text ≡ number n u
integer-is text n u i = rw (i.spelled, i.value) (integer-parts i.base i.mark i.digits i.suffix u i.marked i.in_base i.suffixed)

take-two : (text : List ℕ) (y : ℕ) → get_or text 0 0 ≡ 48 → get_or text 1 0 ≡ y → 0 < y → take 2 text ≡ 48 ∷ y ∷ []
take-two [] y e f h = absurd (omega arith)
take-two (a ∷ []) y e f h = absurd (omega arith)
take-two (a ∷ b ∷ bs) y e f h = rw (e, f) refl

first-digit : (base k : ℕ) (text : List ℕ) → are_digits base false (take k text) ≡ true → get_or (take k text) 0 0 ≡ get_or text 0 0
unfolding are_digits
first-digit base zero text d = absurd (false≢true d)
first-digit base (suc k) [] d = absurd (false≢true d)
first-digit base (suc k) (a ∷ rest) d = refl

eqb-is_not : (m n : ℕ) → eqb m n ≡ false → m ≡ n → ⊥
eqb-is_not m n h e = grind (arith, nat_tests)

-- the mark that is read
marked-if : (text : List ℕ) (k : ℕ) (v x y z w : Bool) → eqb (get_or text 0 0) 48 ≡ v → eqb (get_or text 1 0) 120 ≡ x → eqb (get_or text 1 0) 88 ≡ y
    → eqb (get_or text 1 0) 98 ≡ z → eqb (get_or text 1 0) 66 ≡ w
    → are_digits (base_of text) false (take k (drop (mark_len (base_of text)) text)) ≡ true
    → HasMark (base_of text) (take (mark_len (base_of text)) text) (take k (drop (mark_len (base_of text)) text))
unfolding mark_len
marked-if text k true true y z w a b c d e h =
    let base : base_of text ≡ 16 = unfold base_of in rw (a, b) refl in
    rw base (inl (refl, inl (take-two text 120 (eqb-is _ 48 a) (eqb-is _ 120 b) (omega arith))))
marked-if text k true false true z w a b c d e h =
    let base : base_of text ≡ 16 = unfold base_of in rw (a, b, c) refl in
    rw base (inl (refl, inr (take-two text 88 (eqb-is _ 48 a) (eqb-is _ 88 c) (omega arith))))
marked-if text k true false false true w a b c d e h =
    let base : base_of text ≡ 2 = unfold base_of in rw (a, b, c, d) refl in
    rw base (inr (inl (refl, inl (take-two text 98 (eqb-is _ 48 a) (eqb-is _ 98 d) (omega arith)))))
marked-if text k true false false false true a b c d e h =
    let base : base_of text ≡ 2 = unfold base_of in rw (a, b, c, d, e) refl in
    rw base (inr (inl (refl, inr (take-two text 66 (eqb-is _ 48 a) (eqb-is _ 66 e) (omega arith)))))
marked-if text k true false false false false a b c d e h =
    let base : base_of text ≡ 8 = unfold base_of in rw (a, b, c, d, e) refl in
    let digits : are_digits 8 false (take k text) ≡ true = rw base at h in
    rw base (inr (inr (inl (refl, refl, first-digit 8 k text digits ∙ eqb-is _ 48 a))))
marked-if text k false x y z w a b c d e h =
    let base : base_of text ≡ 10 = unfold base_of in rw a refl in
    let digits : are_digits 10 false (take k text) ≡ true = rw base at h in
    rw base (inr (inr (inr (refl, refl, λ f. eqb-is_not _ 48 a (sym (first-digit 10 k text digits) ∙ f)))))

read-spelled : (text : List ℕ) (k : ℕ) (rest : List ℕ) → drop (mark_len (base_of text)) text ≡ rest → text ≡ take (mark_len (base_of text)) text ++ (take k rest ++ drop k rest)
read-spelled text k rest r =
    sym (take-append-drop (mark_len (base_of text)) text) ∙ ap (λ w. take (mark_len (base_of text)) text ++ w) (r ∙ sym (take-append-drop k rest))

read-marked : (text : List ℕ) (k : ℕ) (rest : List ℕ) → drop (mark_len (base_of text)) text ≡ rest → are_digits (base_of text) false (take k rest) ≡ true
    → HasMark (base_of text) (take (mark_len (base_of text)) text) (take k rest)
read-marked text k rest r e =
    let P : List ℕ → Type 0 = λ w. are_digits (base_of text) false (take k w) ≡ true → HasMark (base_of text) (take (mark_len (base_of text)) text) (take k w) in
    subst P r (marked-if text k _ _ _ _ _ refl refl refl refl refl) e

-- what the code reads behind a mark
read-if : (text : List ℕ) (k : ℕ) (v w x : Bool) (rest : List ℕ) → drop (mark_len (base_of text)) text ≡ rest
    → are_digits (base_of text) false (take k rest) ≡ v → is_among signed_suffixes (drop k rest) ≡ w → is_among unsigned_suffixes (drop k rest) ≡ x
    → (with_suffix (base_of text) (take k rest) (drop k rest) ≡ Stray) ⊎ ((n : ℕ) × (u : Bool) × IsInteger text n u)
unfolding suffixes
read-if text k false w x rest r e f g = inl (unfold with_suffix in rw e refl)
read-if text k true true x rest r e f g = inr (
  _,
  false,
  record {
    base = base_of text;
    mark = take (mark_len (base_of text)) text;
    digits = take k rest;
    suffix = drop k rest;
    spelled = read-spelled text k rest r;
    marked = read-marked text k rest r e;
    in_base = e;
    suffixed = f;
    value = refl;
  },
)
read-if text k true false true rest r e f g = inr (
  _,
  true,
  record {
    base = base_of text;
    mark = take (mark_len (base_of text)) text;
    digits = take k rest;
    suffix = drop k rest;
    spelled = read-spelled text k rest r;
    marked = read-marked text k rest r e;
    in_base = e;
    suffixed = g;
    value = refl;
  },
)
read-if text k true false false rest r e f g = inl (unfold with_suffix in rw (e, f, g) refl)

-- what is read is an integer
pub integer-only : (text : List ℕ) → (integer text ≡ Stray) ⊎ ((n : ℕ) × (u : Bool) × IsInteger text n u)
unfolding integer behind_mark
integer-only text = read-if text (prefix_len (is_digit_byte (base_of text)) (drop (mark_len (base_of text)) text)) _ _ _ _ refl refl refl refl
