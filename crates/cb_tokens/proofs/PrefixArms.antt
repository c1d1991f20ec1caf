-- What stands first at a letter that may be a prefix.
use Rattle.std.proofs.Common.{◌≡◌, ℕ, suc, zero, ◌+◌, ◌<◌, ◌≤◌, ◌==◌, Bool, true, false, cond, ◌&&◌, ◌||◌, List, [], ◌∷◌, length, get_or, take, drop, sym, refl, ap, ◌∙◌, subst, arith, ◌⊎◌, inl, inr, ⊎_elim}
use Rattle.std.specs.List.{list_all, prefix_len}
use Rattle.std.specs.Char.{is_ascii_digit}
use Rattle.std.proofs.lemmas.Bool.{false≢true, both_ways, and_parts, and_left, or_cases, or_left, or_right, eqb-true, cond-true, cond-false, cases_lt}
use Rattle.std.proofs.lemmas.List.{get_or_past}
use Rattle.cb_tokens.specs.declared.token.TokenKind.TheVariants.{Identifier, Char, Str}
use Rattle.cb_tokens.specs.declared.token.PieceKind.{PieceKind}
use Rattle.cb_tokens.specs.declared.token.PieceKind.TheVariants.{Token}
use Rattle.cb_tokens.specs.declared.first.First.TheVariants as first
use Rattle.cb_tokens.specs.declared.class.Class.TheVariants as classes
use Rattle.cb_tokens.specs.declared.quote.QuoteEnd.{QuoteEnd}
use Rattle.cb_tokens.specs.declared.quote.QuoteEnd.TheVariants.{Closed, Unclosed}
use Rattle.cb_tokens.specs.Forms.{is_name_start, is_name_byte, is_quote, is_identifier, is_quoted, closes, is_prefix_letter, is_character, is_string, fits}
use Rattle.cb_tokens.specs.Cut.{StandsFirst, NoneLonger}
use Rattle.cb_tokens.specs.inner.Classes.{BeginsIn}
use Rattle.cb_tokens.specs.inner.Scan.{HasNone, EndsQuote, quoted_kind, prefix_before_quote}
use Rattle.cb_tokens.proofs.Quotes.{quote_cases}
use Rattle.cb_tokens.proofs.Prefixes.{prefix_yes}
use Rattle.cb_tokens.proofs.Heads.{IsMost, stands}
use Rattle.cb_tokens.proofs.Arms.{fact, fact_of, is_slash, closed, most2, longest_name}

or_false : (x y : Bool) → y ≡ false → (x || y) ≡ x
or_false true y h = refl
or_false false y h = h

dropped : (x y : Bool) → (x && (false && y)) ≡ false
dropped true y = refl
dropped false y = refl

and_none : (x : Bool) → (x && false) ≡ false
and_none true = refl
and_none false = refl

none_of_two : (x z : Bool) → (x && false && z) ≡ false
none_of_two true z = refl
none_of_two false z = refl

none_of_three : (x z : Bool) → (false || (x && false && z)) ≡ false
none_of_three x z = none_of_two x z

-- a letter of a prefix and what it is not
pub record Letter (x : ℕ) : Type 0 where
  pub prefix : is_prefix_letter x ≡ true
  pub name : is_name_start x ≡ true
  pub apostrophe : (x == 39) ≡ false
  pub double : (x == 34) ≡ false

letter_cases : (x : ℕ) → is_prefix_letter x ≡ true → Letter x
unfolding is_prefix_letter is_name_start
letter_cases x h =
    ⊎_elim
    (λ e.
    ⊎_elim (λ f. subst Letter (sym (eqb-true x 76 f)) (record { prefix = refl; name = refl; apostrophe = refl; double = refl }))
    (λ f. subst Letter (sym (eqb-true x 117 f)) (record { prefix = refl; name = refl; apostrophe = refl; double = refl }))
    (or_cases (x == 76) (x == 117) e))
    (λ f. subst Letter (sym (eqb-true x 85 f)) (record { prefix = refl; name = refl; apostrophe = refl; double = refl }))
    (or_cases ((x == 76) || (x == 117)) (x == 85) h)

pub letter_of : (xs : List ℕ) → BeginsIn classes.Prefix xs → Letter (get_or xs 0 0)
unfolding fact
letter_of xs b =
    letter_cases (get_or xs 0 0) (and_parts (is_prefix_letter (get_or xs 0 0)) (is_name_start (get_or xs 0 0)) (fact_of classes.Prefix xs b)).0

-- the forms of quotes behind a letter of a prefix
pub character_at : (x y : ℕ) (l : List ℕ) → Letter x → is_character (x ∷ y ∷ l) ≡ ((y == 39) && closes 39 l)
unfolding is_character is_quoted
character_at x y l t = let a = t.apostrophe in let p = t.prefix in rw (a, p) refl

pub string_at : (x y : ℕ) (l : List ℕ) → Letter x → is_string (x ∷ y ∷ l) ≡ (((y == 34) && closes 34 l) || ((x == 117) && (y == 56) && is_quoted 34 l))
unfolding is_string is_quoted
string_at x y l t = let a = t.double in let p = t.prefix in rw (a, p) refl

name_ends : (x q : ℕ) (l : List ℕ) → is_name_byte q ≡ false → is_identifier (x ∷ q ∷ l) ≡ false
unfolding is_identifier
name_ends x q l h = rw h (dropped (is_name_start x) (list_all is_name_byte l))

apostrophe_byte : is_name_byte 39 ≡ false
unfolding is_name_byte is_name_start
apostrophe_byte = refl

double_byte : is_name_byte 34 ≡ false
unfolding is_name_byte is_name_start
double_byte = refl

name_most : (x q : ℕ) (zs : List ℕ) (n : ℕ) → is_name_byte q ≡ false → IsMost (x ∷ q ∷ zs) (suc (suc n)) (Token Identifier)
unfolding fits
name_most x q zs n e =
    most2 (Token Identifier) x q zs n (λ m le h. absurd (both_ways (is_identifier (x ∷ q ∷ take m zs)) (name_ends x q (take m zs) e) h))

-- a character constant behind its letter
pub char_closes : (x : ℕ) (l : List ℕ) → Letter x → is_character (x ∷ 39 ∷ l) ≡ closes 39 l
char_closes x l t = character_at x 39 l t

pub string_fails : (x : ℕ) (l : List ℕ) → Letter x → is_string (x ∷ 39 ∷ l) ≡ false
unfolding is_quoted
string_fails x l t = string_at x 39 l t ∙ none_of_three (x == 117) (is_quoted 34 l)

pub string_closes : (x : ℕ) (l : List ℕ) → Letter x → is_string (x ∷ 34 ∷ l) ≡ closes 34 l
string_closes x l t = string_at x 34 l t ∙ (ap (λ v. closes 34 l || v) (none_of_two (x == 117) (is_quoted 34 l)) ∙ or_false (closes 34 l) false refl)

pub char_fails : (x : ℕ) (l : List ℕ) → Letter x → is_character (x ∷ 34 ∷ l) ≡ false
char_fails x l t = character_at x 34 l t

never2 : (k : PieceKind) (x y : ℕ) (zs : List ℕ) (n : ℕ) → 1 ≤ n → ((m : ℕ) → m ≤ length zs → fits k (x ∷ y ∷ take m zs) ≡ false) → IsMost (x ∷ y ∷ zs) n k
never2 k x y zs n some fails zero le h = omega arith
never2 k x y zs n some fails (suc zero) le h = omega arith
never2 k x y zs n some fails (suc (suc m)) le h = absurd (both_ways (fits k (x ∷ y ∷ take m zs)) (fails m (omega arith)) h)

two_more : (n : ℕ) → suc (suc n) ≡ 1 + 1 + n
two_more n = omega arith

char_stands : (x : ℕ) (zs : List ℕ) (n : ℕ) → Letter x → BeginsIn classes.Prefix (x ∷ 39 ∷ zs) → EndsQuote 39 zs (Closed n) → StandsFirst (x ∷ 39 ∷ zs) (first.Piece (Token Char) (1 + 1 + n))
unfolding fits is_slash
char_stands x zs n t b h =
    subst (λ k. StandsFirst (x ∷ 39 ∷ zs) (first.Piece (Token Char) k)) (two_more n)
    (stands classes.Prefix (x ∷ 39 ∷ zs) (Token Char) (suc (suc n)) b (closed classes.Prefix (x ∷ 39 ∷ zs) b refl)
    (let k = h.0.within in omega arith) (char_closes x (take n zs) t ∙ h.0.holds) (
      name_most x 39 zs n apostrophe_byte,
      (
        most2 (Token Char) x 39 zs n (λ m le e. h.0.longest m le (sym (char_closes x (take m zs) t) ∙ e)),
        (never2 (Token Str) x 39 zs (suc (suc n)) (omega arith) (λ m le. string_fails x (take m zs) t), tt),
      ),
    ))

string_stands : (x : ℕ) (zs : List ℕ) (n : ℕ) → Letter x → BeginsIn classes.Prefix (x ∷ 34 ∷ zs) → EndsQuote 34 zs (Closed n) → StandsFirst (x ∷ 34 ∷ zs) (first.Piece (Token Str) (1 + 1 + n))
unfolding fits is_slash
string_stands x zs n t b h =
    subst (λ k. StandsFirst (x ∷ 34 ∷ zs) (first.Piece (Token Str) k)) (two_more n)
    (stands classes.Prefix (x ∷ 34 ∷ zs) (Token Str) (suc (suc n)) b (closed classes.Prefix (x ∷ 34 ∷ zs) b refl)
    (let k = h.0.within in omega arith) (string_closes x (take n zs) t ∙ h.0.holds) (
      name_most x 34 zs n double_byte,
      (
        never2 (Token Char) x 34 zs (suc (suc n)) (omega arith) (λ m le. char_fails x (take m zs) t),
        (most2 (Token Str) x 34 zs n (λ m le e. h.0.longest m le (sym (string_closes x (take m zs) t) ∙ e)), tt),
      ),
    ))

-- an identifier, since no quote behind the letter is closed
name_len : (x : ℕ) (ys : List ℕ) → is_name_start x ≡ true → 1 ≤ prefix_len is_name_byte (x ∷ ys)
unfolding is_name_byte
name_len x ys h = omega (arith, prefix_yes is_name_byte x ys (or_left (is_name_start x) (is_ascii_digit x) h))

name_stands : (xs : List ℕ) → BeginsIn classes.Prefix xs → Letter (get_or xs 0 0) → IsMost xs (prefix_len is_name_byte xs) (Token Char) → IsMost xs (prefix_len is_name_byte xs) (Token Str) → StandsFirst xs (first.Piece (Token Identifier) (prefix_len is_name_byte xs))
unfolding fits is_slash
name_stands xs b t c s =
    let l = longest_name xs b.some t.name in
    stands classes.Prefix xs (Token Identifier) (prefix_len is_name_byte xs) b (closed classes.Prefix xs b refl) l.within l.holds
    (l.longest, (c, (s, tt)))

-- what stands first where so many bytes stand before a quote that ends there
abbrev pub prefixed : List ℕ → ℕ → QuoteEnd → first.the_data
prefixed xs p (Closed n) = first.Piece (Token (quoted_kind (get_or xs p 0))) (p + 1 + n)
prefixed xs p (Unclosed n) = first.Piece (Token Identifier) (prefix_len is_name_byte xs)

some_name : (x : ℕ) (ys : List ℕ) → Letter x → 1 ≤ prefix_len is_name_byte (x ∷ ys)
some_name x ys t = name_len x ys t.name

letter_char : (x : ℕ) (zs : List ℕ) (r : QuoteEnd) → Letter x → BeginsIn classes.Prefix (x ∷ 39 ∷ zs) → EndsQuote 39 zs r → StandsFirst (x ∷ 39 ∷ zs) (prefixed (x ∷ 39 ∷ zs) 1 r)
unfolding fits
letter_char x zs (Closed n) t b h = char_stands x zs n t b h
letter_char x zs (Unclosed n) t b h =
    name_stands (x ∷ 39 ∷ zs) b t (never2 (Token Char) x 39 zs _ (some_name x (39 ∷ zs) t) (λ m le. char_closes x (take m zs) t ∙ h.1 m le))
    (never2 (Token Str) x 39 zs _ (some_name x (39 ∷ zs) t) (λ m le. string_fails x (take m zs) t))

letter_string : (x : ℕ) (zs : List ℕ) (r : QuoteEnd) → Letter x → BeginsIn classes.Prefix (x ∷ 34 ∷ zs) → EndsQuote 34 zs r → StandsFirst (x ∷ 34 ∷ zs) (prefixed (x ∷ 34 ∷ zs) 1 r)
unfolding fits
letter_string x zs (Closed n) t b h = string_stands x zs n t b h
letter_string x zs (Unclosed n) t b h =
    name_stands (x ∷ 34 ∷ zs) b t (never2 (Token Char) x 34 zs _ (some_name x (34 ∷ zs) t) (λ m le. char_fails x (take m zs) t))
    (never2 (Token Str) x 34 zs _ (some_name x (34 ∷ zs) t) (λ m le. string_closes x (take m zs) t ∙ h.1 m le))

zero_quote : is_quote 0 ≡ false
unfolding is_quote
zero_quote = refl

one_stands : (xs : List ℕ) (r : QuoteEnd) → BeginsIn classes.Prefix xs → is_quote (get_or xs 1 0) ≡ true → EndsQuote (get_or xs 1 0) (drop 2 xs) r → StandsFirst xs (prefixed xs 1 r)
one_stands [] r b q h = absurd (omega (arith, b.some))
one_stands (x ∷ []) r b q h = absurd (both_ways (is_quote 0) zero_quote q)
one_stands (x ∷ y ∷ zs) r b q h =
    let P : ℕ → Type 0 = λ y. BeginsIn classes.Prefix (x ∷ y ∷ zs) → EndsQuote y zs r → StandsFirst (x ∷ y ∷ zs) (prefixed (x ∷ y ∷ zs) 1 r) in
    let t = letter_of (x ∷ y ∷ zs) b in
    ⊎_elim (λ e. subst P (sym e) (letter_char x zs r t) b h) (λ e. subst P (sym e) (letter_string x zs r t) b h) (quote_cases y q)

-- the prefix u8
u8_letter : Letter 117
unfolding is_prefix_letter is_name_start
u8_letter = record { prefix = refl; name = refl; apostrophe = refl; double = refl }

pub u8_closes : (l : List ℕ) → is_string (117 ∷ 56 ∷ 34 ∷ l) ≡ closes 34 l
unfolding is_quoted
u8_closes l = string_at 117 56 (34 ∷ l) u8_letter

u8_short : is_string (117 ∷ 56 ∷ []) ≡ false
unfolding is_quoted
u8_short = string_at 117 56 [] u8_letter

u8_name : (l : List ℕ) → is_identifier (117 ∷ 56 ∷ 34 ∷ l) ≡ false
unfolding is_identifier is_name_byte is_name_start
u8_name l = refl

pub u8_char : (l : List ℕ) → is_character (117 ∷ 56 ∷ l) ≡ false
u8_char l = character_at 117 56 l u8_letter

u8_name_most : (zs : List ℕ) (n : ℕ) → IsMost (117 ∷ 56 ∷ 34 ∷ zs) (suc (suc (suc n))) (Token Identifier)
unfolding fits
u8_name_most zs n zero le h = omega arith
u8_name_most zs n (suc zero) le h = omega arith
u8_name_most zs n (suc (suc zero)) le h = omega arith
u8_name_most zs n (suc (suc (suc m))) le h = absurd (both_ways (is_identifier (117 ∷ 56 ∷ 34 ∷ take m zs)) (u8_name (take m zs)) h)

u8_string_most : (zs : List ℕ) (n : ℕ) → NoneLonger (closes 34) zs n → IsMost (117 ∷ 56 ∷ 34 ∷ zs) (suc (suc (suc n))) (Token Str)
unfolding fits
u8_string_most zs n w zero le h = omega arith
u8_string_most zs n w (suc zero) le h = omega arith
u8_string_most zs n w (suc (suc zero)) le h = omega arith
u8_string_most zs n w (suc (suc (suc m))) le h = let k : m ≤ n = w m (omega arith) (sym (u8_closes (take m zs)) ∙ h) in omega arith

u8_never : (zs : List ℕ) (n : ℕ) → 1 ≤ n → HasNone (closes 34) zs → IsMost (117 ∷ 56 ∷ 34 ∷ zs) n (Token Str)
unfolding fits
u8_never zs n some none zero le h = omega arith
u8_never zs n some none (suc zero) le h = omega arith
u8_never zs n some none (suc (suc zero)) le h = absurd (both_ways (is_string (117 ∷ 56 ∷ [])) u8_short h)
u8_never zs n some none (suc (suc (suc m))) le h =
    absurd (both_ways (is_string (117 ∷ 56 ∷ 34 ∷ take m zs)) (u8_closes (take m zs) ∙ none m (omega arith)) h)

three_more : (n : ℕ) → suc (suc (suc n)) ≡ 2 + 1 + n
three_more n = omega arith

u8_stands : (zs : List ℕ) (r : QuoteEnd) → BeginsIn classes.Prefix (117 ∷ 56 ∷ 34 ∷ zs) → EndsQuote 34 zs r → StandsFirst (117 ∷ 56 ∷ 34 ∷ zs) (prefixed (117 ∷ 56 ∷ 34 ∷ zs) 2 r)
unfolding fits is_slash
u8_stands zs (Closed n) b h =
    subst (λ k. StandsFirst (117 ∷ 56 ∷ 34 ∷ zs) (first.Piece (Token Str) k)) (three_more n)
    (stands classes.Prefix (117 ∷ 56 ∷ 34 ∷ zs) (Token Str) (suc (suc (suc n))) b (closed classes.Prefix (117 ∷ 56 ∷ 34 ∷ zs) b refl)
    (let k = h.0.within in omega arith) (u8_closes (take n zs) ∙ h.0.holds) (
      u8_name_most zs n,
      (
        never2 (Token Char) 117 56 (34 ∷ zs) (suc (suc (suc n))) (omega arith) (λ m le. u8_char (take m (34 ∷ zs))),
        (u8_string_most zs n h.0.longest, tt),
      ),
    ))
u8_stands zs (Unclosed n) b h =
    name_stands (117 ∷ 56 ∷ 34 ∷ zs) b u8_letter
    (never2 (Token Char) 117 56 (34 ∷ zs) _ (some_name 117 (56 ∷ 34 ∷ zs) u8_letter) (λ m le. u8_char (take m (34 ∷ zs))))
    (u8_never zs _ (some_name 117 (56 ∷ 34 ∷ zs) u8_letter) h.1)

spelled : (x y z : ℕ) (zs : List ℕ) → x ≡ 117 → y ≡ 56 → z ≡ 34 → x ∷ y ∷ z ∷ zs ≡ 117 ∷ 56 ∷ 34 ∷ zs
spelled x y z zs e f g = cc

two_stands : (xs : List ℕ) (r : QuoteEnd) → BeginsIn classes.Prefix xs → ((get_or xs 0 0 == 117) && (get_or xs 1 0 == 56) && (get_or xs 2 0 == 34)) ≡ true → EndsQuote (get_or xs 2 0) (drop 3 xs) r → StandsFirst xs (prefixed xs 2 r)
two_stands [] r b q h = absurd (omega (arith, b.some))
two_stands (x ∷ []) r b q h = absurd (false≢true (and_parts ((x == 117) && false) false q).1)
two_stands (x ∷ y ∷ []) r b q h = absurd (false≢true (and_parts ((x == 117) && (y == 56)) false q).1)
two_stands (x ∷ y ∷ z ∷ zs) r b q h =
    let parts = and_parts ((x == 117) && (y == 56)) (z == 34) q in
    let both = and_parts (x == 117) (y == 56) parts.0 in
    let same : 117 ∷ 56 ∷ 34 ∷ zs ≡ x ∷ y ∷ z ∷ zs = sym (spelled x y z zs (eqb-true x 117 both.0) (eqb-true y 56 both.1) (eqb-true z 34 parts.1)) in
    let P : List ℕ → Type 0 = λ ys. BeginsIn classes.Prefix ys → EndsQuote (get_or ys 2 0) (drop 3 ys) r → StandsFirst ys (prefixed ys 2 r) in
    subst P same (u8_stands zs r) b h

-- no quote stands behind a prefix
or_none : (x y : Bool) → (x || y) ≡ false → (x ≡ false) × (y ≡ false)
or_none true y h = absurd (false≢true (sym h))
or_none false y h = (refl, h)

unquoted : (y : ℕ) → is_quote y ≡ false → ((y == 39) || (y == 34)) ≡ false
unfolding is_quote
unquoted y h = h

pub no_char : (x y : ℕ) (l : List ℕ) → Letter x → is_quote y ≡ false → is_character (x ∷ y ∷ l) ≡ false
no_char x y l t q =
    character_at x y l t ∙ and_left (y == 39) (closes 39 l) (or_none (y == 39) (y == 34) (unquoted y q)).0

stays_false : (a z c : Bool) → (a && z) ≡ false → (a && (z && c)) ≡ false
stays_false true true c h = absurd (false≢true (sym h))
stays_false true false c h = refl
stays_false false z c h = refl

no_u8 : (a : Bool) (zs : List ℕ) (m : ℕ) → (a && (get_or zs 0 0 == 34)) ≡ false → (a && is_quoted 34 (take m zs)) ≡ false
unfolding is_quoted
no_u8 a zs zero h = and_none a
no_u8 a [] (suc m) h = and_none a
no_u8 a (z ∷ zs) (suc m) h = stays_false a (z == 34) (closes 34 (take m zs)) h

pub no_string : (x y : ℕ) (zs : List ℕ) (m : ℕ) → Letter x → is_quote y ≡ false → ((x == 117) && (y == 56) && (get_or zs 0 0 == 34)) ≡ false → is_string (x ∷ y ∷ take m zs) ≡ false
no_string x y zs m t q u =
    string_at x y (take m zs) t
    ∙ (ap (λ v. v || ((x == 117) && (y == 56) && is_quoted 34 (take m zs))) (and_left (y == 34) (closes 34 (take m zs)) (or_none (y == 39) (y == 34) (unquoted y q)).1)
    ∙ no_u8 ((x == 117) && (y == 56)) zs m u)

none_stands : (xs : List ℕ) → BeginsIn classes.Prefix xs → is_quote (get_or xs 1 0) ≡ false → ((get_or xs 0 0 == 117) && (get_or xs 1 0 == 56) && (get_or xs 2 0 == 34)) ≡ false → StandsFirst xs (first.Piece (Token Identifier) (prefix_len is_name_byte xs))
unfolding fits
none_stands [] b q u = absurd (omega (arith, b.some))
none_stands (x ∷ []) b q u =
    let t = letter_of (x ∷ []) b in
    let some = some_name x [] t in
    name_stands (x ∷ []) b t (λ m le h. omega arith) (λ m le h. omega arith)
none_stands (x ∷ y ∷ zs) b q u =
    let t = letter_of (x ∷ y ∷ zs) b in
    name_stands (x ∷ y ∷ zs) b t (never2 (Token Char) x y zs _ (some_name x (y ∷ zs) t) (λ m le. no_char x y (take m zs) t q))
    (never2 (Token Str) x y zs _ (some_name x (y ∷ zs) t) (λ m le. no_string x y zs m t q u))

-- all cases
abbrev is_u8 : List ℕ → Bool
is_u8 xs = (get_or xs 0 0 == 117) && (get_or xs 1 0 == 56) && (get_or xs 2 0 == 34)

abbrev so_many : Bool → Bool → ℕ
so_many a b = cond a 1 (cond b 2 0)

above_zero : (a b : Bool) → 0 < so_many a b → (a ≡ true) ⊎ ((a ≡ false) × (b ≡ true))
above_zero true b h = inl refl
above_zero false true h = inr (refl, refl)
above_zero false false h = absurd (omega arith)

at_zero : (a b : Bool) → so_many a b ≡ 0 → (a ≡ false) × (b ≡ false)
at_zero true b h = absurd (omega arith)
at_zero false true h = absurd (omega arith)
at_zero false false h = (refl, refl)

is_one : (a b : Bool) → a ≡ true → so_many a b ≡ 1
is_one a b h = cond-true a 1 (cond b 2 0) h

is_two : (a b : Bool) → a ≡ false → b ≡ true → so_many a b ≡ 2
is_two a b h k = cond-false a 1 (cond b 2 0) h ∙ cond-true b 2 0 k

-- what is so of one byte and of two is so of what stands before the quote
before : (P : ℕ → Type 0) (xs : List ℕ) → 0 < prefix_before_quote xs → (is_quote (get_or xs 1 0) ≡ true → P 1) → (is_u8 xs ≡ true → P 2) → P (prefix_before_quote xs)
before P xs some one two =
    ⊎_elim (λ e. subst P (sym (is_one (is_quote (get_or xs 1 0)) (is_u8 xs) e)) (one e)) (λ e. subst P (sym (is_two (is_quote (get_or xs 1 0)) (is_u8 xs) e.0 e.1)) (two e.1))
    (above_zero (is_quote (get_or xs 1 0)) (is_u8 xs) some)

positive : (xs : List ℕ) (p : ℕ) → p ≡ prefix_before_quote xs → (p ≡ 0 → ⊥) → 0 < prefix_before_quote xs
positive xs p e some = omega arith

pub prefix_stands : (xs : List ℕ) (p : ℕ) (r : QuoteEnd) → BeginsIn classes.Prefix xs → p ≡ prefix_before_quote xs → (p ≡ 0 → ⊥) → EndsQuote (get_or xs p 0) (drop (p + 1) xs) r → StandsFirst xs (prefixed xs p r)
prefix_stands xs p r b e some h =
    let P : ℕ → Type 0 = λ p. EndsQuote (get_or xs p 0) (drop (p + 1) xs) r → StandsFirst xs (prefixed xs p r) in
    subst P (sym e) (before P xs (positive xs p e some) (λ e. one_stands xs r b e) (λ e. two_stands xs r b e)) h

pub identifier_stands : (xs : List ℕ) → BeginsIn classes.Prefix xs → prefix_before_quote xs ≡ 0 → StandsFirst xs (first.Piece (Token Identifier) (prefix_len is_name_byte xs))
identifier_stands xs b e =
    let both = at_zero (is_quote (get_or xs 1 0)) (is_u8 xs) e in none_stands xs b both.0 both.1

last_quote : (x : ℕ) → (x == 34) ≡ true → is_quote x ≡ true
unfolding is_quote
last_quote x h = or_right (x == 39) (x == 34) h

pub quote_there : (xs : List ℕ) (p : ℕ) → p ≡ prefix_before_quote xs → (p ≡ 0 → ⊥) → is_quote (get_or xs p 0) ≡ true
quote_there xs p e some =
    subst (λ p. is_quote (get_or xs p 0) ≡ true) (sym e)
    (before (λ p. is_quote (get_or xs p 0) ≡ true) xs (positive xs p e some) (λ e. e) (λ e. last_quote (get_or xs 2 0) (and_parts ((get_or xs 0 0 == 117) && (get_or xs 1 0 == 56)) (get_or xs 2 0 == 34) e).1))

pub quote_within : (xs : List ℕ) (p : ℕ) → p ≡ prefix_before_quote xs → (p ≡ 0 → ⊥) → p < length xs
quote_within xs p e some =
    ⊎_elim (λ k. k) (λ k. absurd (both_ways (is_quote 0) zero_quote (ap is_quote (sym (get_or_past xs p 0 k)) ∙ quote_there xs p e some))) (cases_lt p (length xs))
