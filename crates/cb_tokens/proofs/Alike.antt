-- Bytes are a piece of one kind at most.
use Rattle.std.proofs.Common.{◌≡◌, ℕ, ◌<◌, ◌≤◌, ◌==◌, Bool, true, false, not, ◌&&◌, ◌||◌, List, [], ◌∷◌, length, get_or, drop, leb, ltb, sym, refl, ap, ◌∙◌, subst, arith, ◌⊎◌, inl, inr, ⊎_elim}
use Rattle.std.specs.List.{list_all}
use Rattle.std.specs.Char.{is_ascii_digit}
use Rattle.std.proofs.lemmas.Bool.{false≢true, both_ways, and_parts, or_cases, eqb-true, leb-true, ltb-true, not-true}
use Rattle.std.proofs.lemmas.Bool.Decides.{nat_tests}
use Rattle.cb_lines.specs.Marks.{is_line_feed}
use Rattle.cb_tokens.specs.declared.token.TokenKind.TheVariants.{Identifier, Number, Char, Str, Punct, Other}
use Rattle.cb_tokens.specs.declared.token.PieceKind.{PieceKind}
use Rattle.cb_tokens.specs.declared.token.PieceKind.TheVariants.{White, Comment, LineEnd, Token}
use Rattle.cb_tokens.specs.declared.class.Class.{Class}
use Rattle.cb_tokens.specs.declared.class.Class.TheVariants as classes
use Rattle.cb_tokens.specs.declared.left.QuoteLeft.{QuoteLeft}
use Rattle.cb_tokens.specs.declared.left.QuoteLeft.TheVariants.{Closed, Unclosed, Broken}
use Rattle.cb_tokens.specs.Forms.{is_white, is_name_start, is_name_byte, is_quote, is_identifier, is_number, is_number_rest, is_quoted, quote_left, is_closed, is_still_open, closes, is_prefix_letter, is_character, is_string, is_punctuator, punctuators, is_unclosed, stays_unclosed, is_stray, begins_with, ends_comment, is_comment, fits}
use Rattle.cb_tokens.specs.inner.Classes.{class_of}
use Rattle.cb_tokens.proofs.Punctuators.{of_punctuators}
use Rattle.cb_tokens.proofs.Heads.{start, starts, kinds, Each, holds, each_at, head_kinds}
use Rattle.cb_tokens.proofs.Cutting.{no_piece}

-- only identifiers begin with bytes from 128 on
white_low : (b : ℕ) → is_white b ≡ true → b < 128
unfolding is_white
white_low b h = grind (arith, nat_tests)

letter_range : (b : ℕ) → is_prefix_letter b ≡ true → (64 < b) × (b < 128)
unfolding is_prefix_letter
letter_range b h = grind (arith, nat_tests)

quote_range : (b : ℕ) → is_quote b ≡ true → b < 64
unfolding is_quote
quote_range b h = grind (arith, nat_tests)

digit_range : (b : ℕ) → is_ascii_digit b ≡ true → (47 < b) × (b < 128)
digit_range b h = grind (arith, nat_tests)

stray_low : (b : ℕ) → is_stray (b ∷ []) ≡ true → b < 128
unfolding is_stray is_name_start
stray_low b h = grind (arith, nat_tests)

punct_low : (b : ℕ) → is_punctuator (b ∷ []) ≡ true → b < 128
unfolding punctuators
punct_low b h = ltb-true b 128 (of_punctuators (λ l. ltb (get_or l 0 0) 128) refl (b ∷ []) h)

low : (k : PieceKind) (b : ℕ) → start k b ≡ true → (k ≡ Token Identifier) ⊎ (b < 128)
unfolding start
low White b h = inr (white_low b h)
low Comment b h = inr (let e = eqb-true b 47 h in omega arith)
low LineEnd b h = inr (let e = eqb-true b 10 h in omega arith)
low (Token Identifier) b h = inl refl
low (Token Number) b h =
    inr (⊎_elim (λ e. (digit_range b e).1) (λ e. let f = eqb-true b 46 e in omega arith) (or_cases (is_ascii_digit b) (b == 46) h))
low (Token Char) b h =
    inr (⊎_elim (λ e. let f = eqb-true b 39 e in omega arith) (λ e. (letter_range b e).1) (or_cases (b == 39) (is_prefix_letter b) h))
low (Token Str) b h =
    inr
    (⊎_elim
    (λ d. ⊎_elim (λ e. let f = eqb-true b 34 e in omega arith) (λ e. (letter_range b e).1) (or_cases (b == 34) (is_prefix_letter b) d))
    (λ e. let f = eqb-true b 117 e in omega arith)
    (or_cases ((b == 34) || is_prefix_letter b) (b == 117) h))
low (Token Punct) b h = inr (punct_low b h)
low (Token Other) b h =
    inr (⊎_elim (λ e. let f = quote_range b e in omega arith) (stray_low b) (or_cases (is_quote b) (is_stray (b ∷ [])) h))

-- what the forms of quotes begin with
pub quoted_head : (q : ℕ) (bs : List ℕ) → is_quoted q bs ≡ true → (0 < length bs) × (get_or bs 0 0 ≡ q)
unfolding is_quoted
quoted_head q [] h = absurd (false≢true h)
quoted_head q (b ∷ bs) h = (omega arith, eqb-true b q (and_parts (b == q) (closes q bs) h).0)

pub char_parts : (b : ℕ) (bs : List ℕ) → is_character (b ∷ bs) ≡ true → ((b ≡ 39) × (closes 39 bs ≡ true)) ⊎ ((is_prefix_letter b ≡ true) × (0 < length bs) × (get_or bs 0 0 ≡ 39))
unfolding is_character is_quoted
char_parts b bs h =
    ⊎_elim (λ e. let p = and_parts (b == 39) (closes 39 bs) e in inl (eqb-true b 39 p.0, p.1))
    (λ e. let p = and_parts (is_prefix_letter b) (is_quoted 39 bs) e in let q = quoted_head 39 bs p.1 in inr (p.0, q.0, q.1))
    (or_cases ((b == 39) && closes 39 bs) (is_prefix_letter b && is_quoted 39 bs) h)

-- what a string begins with: a quote, or a letter and a quote, or u8 and a quote
abbrev pub StringHead : ℕ → List ℕ → Type 0
StringHead b bs =
    ((is_prefix_letter b ≡ true) × (0 < length bs) × (get_or bs 0 0 ≡ 34)) ⊎ ((b ≡ 117) × (get_or bs 0 0 ≡ 56) × (0 < length (drop 1 bs)) × (get_or (drop 1 bs) 0 0 ≡ 34))

pub string_parts : (b : ℕ) (bs : List ℕ) → is_string (b ∷ bs) ≡ true → ((b ≡ 34) × (closes 34 bs ≡ true)) ⊎ StringHead b bs
unfolding is_string is_quoted
string_parts b bs h =
    let first : Bool = (b == 34) && closes 34 bs in
    let second : Bool = is_prefix_letter b && is_quoted 34 bs in
    let third : Bool = (b == 117) && (get_or bs 0 0 == 56) && is_quoted 34 (drop 1 bs) in
    ⊎_elim
    (λ d.
    ⊎_elim (λ e. let p = and_parts (b == 34) (closes 34 bs) e in inl (eqb-true b 34 p.0, p.1))
    (λ e. let p = and_parts (is_prefix_letter b) (is_quoted 34 bs) e in let q = quoted_head 34 bs p.1 in inr (inl (p.0, q.0, q.1)))
    (or_cases first second d))
    (λ e.
    let p = and_parts ((b == 117) && (get_or bs 0 0 == 56)) (is_quoted 34 (drop 1 bs)) e in
    let r = and_parts (b == 117) (get_or bs 0 0 == 56) p.0 in
    let q = quoted_head 34 (drop 1 bs) p.1 in
    inr (inr (eqb-true b 117 r.0, eqb-true (get_or bs 0 0) 56 r.1, q.0, q.1)))
    (or_cases (first || second) third h)

-- a name has no quotes
named : (q : ℕ) (bs : List ℕ) → is_name_byte q ≡ false → list_all is_name_byte bs ≡ true → 0 < length bs → get_or bs 0 0 ≡ q → ⊥
named q [] no_name h some e = omega arith
named q (b ∷ bs) no_name h some e =
    both_ways (is_name_byte b) (ap is_name_byte e ∙ no_name) (and_parts (is_name_byte b) (list_all is_name_byte bs) h).0

named_second : (q : ℕ) (bs : List ℕ) → is_name_byte q ≡ false → list_all is_name_byte bs ≡ true → 0 < length (drop 1 bs) → get_or (drop 1 bs) 0 0 ≡ q → ⊥
named_second q [] no_name h some e = omega arith
named_second q (b ∷ bs) no_name h some e = named q bs no_name (and_parts (is_name_byte b) (list_all is_name_byte bs) h).1 some e

no_39 : is_name_byte 39 ≡ false
unfolding is_name_byte is_name_start
no_39 = refl

no_34 : is_name_byte 34 ≡ false
unfolding is_name_byte is_name_start
no_34 = refl

start_39 : is_name_start 39 ≡ false
unfolding is_name_start
start_39 = refl

start_34 : is_name_start 34 ≡ false
unfolding is_name_start
start_34 = refl

name_char : (b : ℕ) (bs : List ℕ) → is_identifier (b ∷ bs) ≡ true → is_character (b ∷ bs) ≡ true → ⊥
unfolding is_identifier
name_char b bs h c =
    let p = and_parts (is_name_start b) (list_all is_name_byte bs) h in
    ⊎_elim (λ e. both_ways (is_name_start b) (ap is_name_start e.0 ∙ start_39) p.0) (λ e. named 39 bs no_39 p.1 e.1 e.2) (char_parts b bs c)

name_string : (b : ℕ) (bs : List ℕ) → is_identifier (b ∷ bs) ≡ true → is_string (b ∷ bs) ≡ true → ⊥
unfolding is_identifier
name_string b bs h c =
    let p = and_parts (is_name_start b) (list_all is_name_byte bs) h in
    ⊎_elim (λ e. both_ways (is_name_start b) (ap is_name_start e.0 ∙ start_34) p.0)
    (λ d. ⊎_elim (λ e. named 34 bs no_34 p.1 e.1 e.2) (λ e. named_second 34 bs no_34 p.1 e.2 e.3) d) (string_parts b bs c)

char_string : (b : ℕ) (bs : List ℕ) → is_character (b ∷ bs) ≡ true → is_string (b ∷ bs) ≡ true → ⊥
char_string b bs h c =
    ⊎_elim
    (λ x.
    ⊎_elim (λ e. omega arith) (λ d. ⊎_elim (λ e. let r = letter_range b e.0 in omega arith) (λ e. omega arith) d) (string_parts b bs c))
    (λ x.
    ⊎_elim (λ e. let r = letter_range b x.0 in omega arith) (λ d. ⊎_elim (λ e. omega arith) (λ e. omega arith) d) (string_parts b bs c))
    (char_parts b bs h)

-- a number has a digit where a punctuator has none
point_second : (l : List ℕ) → is_punctuator (46 ∷ l) ≡ true → (leb (length (46 ∷ l)) 1 || (get_or l 0 0 == 46)) ≡ true
unfolding punctuators
point_second l h = of_punctuators (λ p. not (get_or p 0 0 == 46) || leb (length p) 1 || (get_or p 1 0 == 46)) refl (46 ∷ l) h

digit_first : (b : ℕ) (l : List ℕ) → is_punctuator (b ∷ l) ≡ true → is_ascii_digit b ≡ true → ⊥
unfolding punctuators
digit_first b l h d =
    both_ways (is_ascii_digit b) (not-true (is_ascii_digit b) (of_punctuators (λ p. not (is_ascii_digit (get_or p 0 0))) refl (b ∷ l) h)) d

no_digit_left : (bs : List ℕ) → (leb (length (46 ∷ bs)) 1 || (get_or bs 0 0 == 46)) ≡ true → is_ascii_digit (get_or bs 0 0) ≡ true → ⊥
no_digit_left [] h d = false≢true d
no_digit_left (b ∷ bs) h d =
    let r = digit_range b d in
    ⊎_elim (λ e. let s : length (46 ∷ b ∷ bs) ≤ 1 = leb-true (length (46 ∷ b ∷ bs)) 1 e in omega arith) (λ e. let f = eqb-true b 46 e in omega arith)
    (or_cases (leb (length (46 ∷ b ∷ bs)) 1) (b == 46) h)

number_punct : (b : ℕ) (bs : List ℕ) → is_number (b ∷ bs) ≡ true → is_punctuator (b ∷ bs) ≡ true → ⊥
unfolding is_number
number_punct b bs h c =
    let p = and_parts (is_ascii_digit b || ((b == 46) && is_ascii_digit (get_or bs 0 0))) (is_number_rest b bs) h in
    ⊎_elim (digit_first b bs c)
    (λ e.
    let q = and_parts (b == 46) (is_ascii_digit (get_or bs 0 0)) e in
    no_digit_left bs (point_second bs (subst (λ v. is_punctuator (v ∷ bs) ≡ true) (eqb-true b 46 q.0) c)) q.1)
    (or_cases (is_ascii_digit b) ((b == 46) && is_ascii_digit (get_or bs 0 0)) p.0)

-- a comment begins as no punctuator does
pub comment_table : (l : List ℕ) → is_punctuator l ≡ true → not (begins_with 47 42 l || begins_with 47 47 l) ≡ true
unfolding punctuators begins_with
comment_table l h = of_punctuators (λ p. not (begins_with 47 42 p || begins_with 47 47 p)) refl l h

starts_comment : (x y z w : Bool) → (x && y || z && w) ≡ true → (x || z) ≡ true
starts_comment true y z w h = refl
starts_comment false y true w h = refl
starts_comment false y false w h = h

comment_punct : (l : List ℕ) → is_comment l ≡ true → is_punctuator l ≡ true → ⊥
unfolding is_comment
comment_punct l h c =
    both_ways (begins_with 47 42 l || begins_with 47 47 l) (not-true (begins_with 47 42 l || begins_with 47 47 l) (comment_table l c))
    (starts_comment (begins_with 47 42 l) (ends_comment (drop 2 l)) (begins_with 47 47 l) (list_all (λ b. not (is_line_feed b)) (drop 2 l)) h)

no_stray : (x y z : Bool) → y ≡ true → not ((x || y) || z) ≡ true → ⊥
no_stray true y z h s = false≢true s
no_stray false true z h s = false≢true s
no_stray false false z h s = false≢true h

one_end : (end : QuoteLeft) → is_closed end ≡ true → is_still_open end ≡ true → ⊥
one_end Closed h s = false≢true s
one_end Unclosed h s = false≢true h
one_end Broken h s = false≢true h

-- a quote that is closed does not stay open
closed_stays : (q : ℕ) (xs : List ℕ) → closes q xs ≡ true → stays_unclosed q xs ≡ true → ⊥
unfolding closes stays_unclosed
closed_stays q xs h s = one_end (quote_left q xs) h s

quote_stray : (q : ℕ) (l : List ℕ) → is_quote q ≡ true → is_stray (q ∷ l) ≡ true → ⊥
unfolding is_stray
quote_stray q [] h s = no_stray (is_white q || is_line_feed q || is_name_start q || is_ascii_digit q) (is_quote q) (is_punctuator (q ∷ [])) h s
quote_stray q (x ∷ xs) h s = false≢true s

quote_39 : is_quote 39 ≡ true
unfolding is_quote
quote_39 = refl

quote_34 : is_quote 34 ≡ true
unfolding is_quote
quote_34 = refl

long_stray : (b : ℕ) (bs : List ℕ) → 0 < length bs → is_stray (b ∷ bs) ≡ true → ⊥
unfolding is_stray
long_stray b [] some s = omega arith
long_stray b (x ∷ xs) some s = false≢true s

other_parts : (b : ℕ) (bs : List ℕ) → (is_unclosed (b ∷ bs) || is_stray (b ∷ bs)) ≡ true → ((is_quote b ≡ true) × (stays_unclosed b bs ≡ true)) ⊎ (is_stray (b ∷ bs) ≡ true)
unfolding is_unclosed
other_parts b bs h = ⊎_elim (λ e. inl (and_parts (is_quote b) (stays_unclosed b bs) e)) inr (or_cases (is_quote b && stays_unclosed b bs) (is_stray (b ∷ bs)) h)

letter_other : (b : ℕ) (bs : List ℕ) → 64 < b → 0 < length bs → (is_unclosed (b ∷ bs) || is_stray (b ∷ bs)) ≡ true → ⊥
letter_other b bs above some h = ⊎_elim (λ e. let r = quote_range b e.0 in omega arith) (long_stray b bs some) (other_parts b bs h)

closed_other : (q : ℕ) (bs : List ℕ) → is_quote q ≡ true → closes q bs ≡ true → (is_unclosed (q ∷ bs) || is_stray (q ∷ bs)) ≡ true → ⊥
closed_other q bs k c h = ⊎_elim (λ e. closed_stays q bs c e.1) (quote_stray q bs k) (other_parts q bs h)

char_other : (b : ℕ) (bs : List ℕ) → is_character (b ∷ bs) ≡ true → (is_unclosed (b ∷ bs) || is_stray (b ∷ bs)) ≡ true → ⊥
char_other b bs h o =
    ⊎_elim (λ e. closed_other 39 bs quote_39 e.1 (subst (λ v. (is_unclosed (v ∷ bs) || is_stray (v ∷ bs)) ≡ true) e.0 o))
    (λ e. letter_other b bs (letter_range b e.0).0 e.1 o) (char_parts b bs h)

second_left : (bs : List ℕ) → 0 < length (drop 1 bs) → 0 < length bs
second_left [] h = h
second_left (b ∷ bs) h = omega arith

string_other : (b : ℕ) (bs : List ℕ) → is_string (b ∷ bs) ≡ true → (is_unclosed (b ∷ bs) || is_stray (b ∷ bs)) ≡ true → ⊥
string_other b bs h o =
    ⊎_elim (λ e. closed_other 34 bs quote_34 e.1 (subst (λ v. (is_unclosed (v ∷ bs) || is_stray (v ∷ bs)) ≡ true) e.0 o))
    (λ d.
    ⊎_elim (λ e. letter_other b bs (letter_range b e.0).0 e.1 o) (λ e. letter_other b bs (omega (arith, e.0)) (second_left bs e.2) o) d)
    (string_parts b bs h)

-- of two kinds of a list of kinds only one holds of the bytes
abbrev Apart : List ℕ → List PieceKind → Type 0
Apart l ks = Each (λ k. Each (λ j. fits k l ≡ true → fits j l ≡ true → k ≡ j) ks) ks

from_apart : (l : List ℕ) (ks : List PieceKind) (k j : PieceKind) → Apart l ks → holds k ks ≡ true → holds j ks ≡ true → fits k l ≡ true → fits j l ≡ true → k ≡ j
from_apart l ks k j a hk hj =
    each_at (λ j. fits k l ≡ true → fits j l ≡ true → k ≡ j) j ks hj (each_at (λ k. Each (λ j. fits k l ≡ true → fits j l ≡ true → k ≡ j) ks) k ks hk a)

apart : (c : Class) (b : ℕ) (bs : List ℕ) → Apart (b ∷ bs) (kinds c)
unfolding fits
apart classes.White b bs = ((λ x y. refl, tt), tt)
apart classes.LineFeed b bs = ((λ x y. refl, tt), tt)
apart classes.Name b bs = ((λ x y. refl, tt), tt)
apart classes.Prefix b bs = (
  (λ x y. refl, (λ x y. absurd (name_char b bs x y), (λ x y. absurd (name_string b bs x y), tt))),
  (
    (λ x y. absurd (name_char b bs y x), (λ x y. refl, (λ x y. absurd (char_string b bs x y), tt))),
    ((λ x y. absurd (name_string b bs y x), (λ x y. absurd (char_string b bs y x), (λ x y. refl, tt))), tt),
  ),
)
apart classes.Digit b bs = ((λ x y. refl, tt), tt)
apart classes.Point b bs = (
  (λ x y. refl, (λ x y. absurd (number_punct b bs x y), tt)),
  ((λ x y. absurd (number_punct b bs y x), (λ x y. refl, tt)), tt),
)
apart classes.Slash b bs = (
  (λ x y. refl, (λ x y. absurd (comment_punct (b ∷ bs) x y), tt)),
  ((λ x y. absurd (comment_punct (b ∷ bs) y x), (λ x y. refl, tt)), tt),
)
apart classes.Quote b bs = (
  (λ x y. refl, (λ x y. absurd (char_string b bs x y), (λ x y. absurd (char_other b bs x y), tt))),
  (
    (λ x y. absurd (char_string b bs y x), (λ x y. refl, (λ x y. absurd (string_other b bs x y), tt))),
    ((λ x y. absurd (char_other b bs y x), (λ x y. absurd (string_other b bs y x), (λ x y. refl, tt))), tt),
  ),
)
apart classes.Single b bs = ((λ x y. refl, tt), tt)
apart classes.Operator b bs = ((λ x y. refl, tt), tt)
apart classes.Stray b bs = ((λ x y. refl, tt), tt)

-- bytes are a piece of one kind at most
pub alike : (k j : PieceKind) (l : List ℕ) → fits k l ≡ true → fits j l ≡ true → k ≡ j
alike k j [] h i = absurd (both_ways (fits k []) (no_piece k) h)
alike k j (b ∷ bs) h i =
    let s = starts k b bs h in
    let t = starts j b bs i in
    let here : b < 128 → k ≡ j =
    λ m. from_apart (b ∷ bs) (kinds (class_of b)) k j (apart (class_of b) b bs) (head_kinds k b (omega arith) s) (head_kinds j b (omega arith) t) h i in
    ⊎_elim (λ e. ⊎_elim (λ f. e ∙ sym f) here (low j b t)) here (low k b s)
