-- What bytes are as a whole, by their first byte.
use Rattle.std.proofs.Common.{◌≡◌, ℕ, ◌==◌, Bool, true, false, not, ◌&&◌, ◌||◌, Option, Some, None, List, [], ◌∷◌, length, get_or, ne_eqb, sym, refl, ap, ◌∙◌, subst, arith, ⊎_elim}
use Rattle.std.specs.Bool.{then_some}
use Rattle.std.specs.List.{list_all}
use Rattle.std.specs.Char.{is_ascii_digit}
use Rattle.std.proofs.lemmas.Bool.{false≢true, both_ways, and_parts, or_right, false_from_ne_true, eqb-true, not-true}
use Rattle.std.proofs.lemmas.List.{take_all}
use Rattle.cb_tokens.specs.declared.token.TokenKind.{TokenKind}
use Rattle.cb_tokens.specs.declared.token.TokenKind.TheVariants.{Identifier, Number, Char, Str, Punct, Other}
use Rattle.cb_tokens.specs.declared.token.PieceKind.{PieceKind}
use Rattle.cb_tokens.specs.declared.token.PieceKind.TheVariants.{Token}
use Rattle.cb_tokens.specs.declared.class.Class.{Class}
use Rattle.cb_tokens.specs.declared.class.Class.TheVariants as classes
use Rattle.cb_tokens.specs.declared.left.QuoteLeft.{QuoteLeft}
use Rattle.cb_tokens.specs.declared.left.QuoteLeft.TheVariants.{Closed, Unclosed, Broken}
use Rattle.cb_tokens.specs.Forms.{is_name_start, is_name_byte, is_quote, is_identifier, is_number, is_number_rest, quote_left, is_character, is_string, is_punctuator, is_unclosed, is_stray, fits}
use Rattle.cb_tokens.specs.inner.Classes.{BeginsIn}
use Rattle.cb_tokens.specs.inner.Scan.{quoted_kind}
use Rattle.cb_tokens.specs.inner.Whole.{IsDecided, closed_as}
use Rattle.cb_tokens.proofs.Heads.{starts, kinds, Each, holds, each_at, head_kinds}
use Rattle.cb_tokens.proofs.Arms.{fact, fact_of}
use Rattle.cb_tokens.proofs.Quotes.{quote_cases, closed_as_left, open_as_left}
use Rattle.cb_tokens.proofs.QuoteArms.{char_char, string_char, char_string, string_string, unclosed_other, is_quote_first}
use Rattle.cb_tokens.proofs.PrefixArms.{Letter, letter_of, char_closes, string_fails, string_closes, char_fails, no_char, no_string, u8_closes, u8_char}
use Rattle.cb_tokens.proofs.Cutting.{no_piece}

-- where it is a kind of token, the bytes are none
abbrev Fails : List ℕ → PieceKind → Type 0
Fails l k = (j : TokenKind) → k ≡ Token j → fits k l ≡ false

none_of : (c : Class) (b : ℕ) (bs : List ℕ) → BeginsIn c (b ∷ bs) → Each (Fails (b ∷ bs)) (kinds c) → (j : TokenKind) → fits (Token j) (b ∷ bs) ≡ false
none_of c b bs s e j =
    false_from_ne_true (fits (Token j) (b ∷ bs))
    (λ h.
    let head = subst (λ d. holds (Token j) (kinds d) ≡ true) s.is (head_kinds (Token j) b s.byte (starts (Token j) b bs h)) in
    both_ways (fits (Token j) (b ∷ bs)) (each_at (Fails (b ∷ bs)) (Token j) (kinds c) head e j refl) h)

-- one test decides
one : (c : Class) (b : ℕ) (bs : List ℕ) (k : TokenKind) (t : Bool) → BeginsIn c (b ∷ bs) → t ≡ fits (Token k) (b ∷ bs) → (fits (Token k) (b ∷ bs) ≡ false → Each (Fails (b ∷ bs)) (kinds c)) → IsDecided (b ∷ bs) (then_some t k)
one c b bs k true s e f = sym e
one c b bs k false s e f = none_of c b bs s (f (sym e))

pub nothing_decided : IsDecided [] None
nothing_decided k = no_piece (Token k)

pub white_decided : (b : ℕ) (bs : List ℕ) → BeginsIn classes.White (b ∷ bs) → IsDecided (b ∷ bs) None
white_decided b bs s = none_of classes.White b bs s (λ j e. absurd (cc), tt)

pub line_end_decided : (b : ℕ) (bs : List ℕ) → BeginsIn classes.LineFeed (b ∷ bs) → IsDecided (b ∷ bs) None
line_end_decided b bs s = none_of classes.LineFeed b bs s (λ j e. absurd (cc), tt)

name_is : (b : ℕ) (bs : List ℕ) → is_name_start b ≡ true → list_all is_name_byte bs ≡ is_identifier (b ∷ bs)
unfolding is_identifier
name_is b bs h = rw h refl

pub name_decided : (b : ℕ) (bs : List ℕ) (t : Bool) → BeginsIn classes.Name (b ∷ bs) → t ≡ list_all is_name_byte bs → IsDecided (b ∷ bs) (then_some t Identifier)
unfolding fits fact
name_decided b bs t s e =
    one classes.Name b bs Identifier t s (e ∙ name_is b bs (fact_of classes.Name (b ∷ bs) s)) (λ h. (λ j _. h, tt))

number_is : (b : ℕ) (bs : List ℕ) → is_ascii_digit b ≡ true → is_number_rest b bs ≡ is_number (b ∷ bs)
unfolding is_number
number_is b bs h = rw h refl

pub number_decided : (b : ℕ) (bs : List ℕ) (t : Bool) → BeginsIn classes.Digit (b ∷ bs) → t ≡ is_number_rest b bs → IsDecided (b ∷ bs) (then_some t Number)
unfolding fits fact
number_decided b bs t s e =
    one classes.Digit b bs Number t s (e ∙ number_is b bs (fact_of classes.Digit (b ∷ bs) s)) (λ h. (λ j _. h, tt))

pub single_decided : (b : ℕ) (bs : List ℕ) (t : Bool) → BeginsIn classes.Single (b ∷ bs) → t ≡ is_punctuator (b ∷ bs) → IsDecided (b ∷ bs) (then_some t Punct)
unfolding fits
single_decided b bs t s e = one classes.Single b bs Punct t s e (λ h. (λ j _. h, tt))

pub operator_decided : (b : ℕ) (bs : List ℕ) (t : Bool) → BeginsIn classes.Operator (b ∷ bs) → t ≡ is_punctuator (b ∷ bs) → IsDecided (b ∷ bs) (then_some t Punct)
unfolding fits
operator_decided b bs t s e = one classes.Operator b bs Punct t s e (λ h. (λ j _. h, tt))

pub slash_decided : (b : ℕ) (bs : List ℕ) (t : Bool) → BeginsIn classes.Slash (b ∷ bs) → t ≡ is_punctuator (b ∷ bs) → IsDecided (b ∷ bs) (then_some t Punct)
unfolding fits
slash_decided b bs t s e = one classes.Slash b bs Punct t s e (λ h. (λ j f. absurd (cc), (λ j _. h, tt)))

alone_or : (x y : Bool) → x ≡ false → (x || y) ≡ y
alone_or false y h = refl
alone_or true y h = absurd (false≢true (sym h))

stray_short : (b : ℕ) → (is_stray (b ∷ []) && not (is_quote b)) ≡ true → true ≡ (is_unclosed (b ∷ []) || is_stray (b ∷ []))
stray_short b h =
    let p = and_parts (is_stray (b ∷ [])) (not (is_quote b)) h in
    sym (or_right (is_unclosed (b ∷ [])) (is_stray (b ∷ [])) p.0)

stray_long : (b x : ℕ) (xs : List ℕ) → (is_stray (b ∷ []) && not (is_quote b)) ≡ true → false ≡ (is_unclosed (b ∷ x ∷ xs) || is_stray (b ∷ x ∷ xs))
unfolding is_unclosed is_stray
stray_long b x xs h =
    let q = not-true (is_quote b) (and_parts (is_stray (b ∷ [])) (not (is_quote b)) h).1 in rw q refl

pub stray_decided : (b : ℕ) (bs : List ℕ) (t : Bool) → BeginsIn classes.Stray (b ∷ bs) → t ≡ (length bs == 0) → IsDecided (b ∷ bs) (then_some t Other)
unfolding fits fact
stray_decided b [] t s e = one classes.Stray b [] Other t s (e ∙ stray_short b (fact_of classes.Stray (b ∷ []) s)) (λ h. (λ j _. h, tt))
stray_decided b (x ∷ xs) t s e =
    one classes.Stray b (x ∷ xs) Other t s (e ∙ ne_eqb (length (x ∷ xs)) 0 (λ k. absurd (omega arith)) ∙ stray_long b x xs (fact_of classes.Stray (b ∷ x ∷ xs) s)) (λ h. (λ j _. h, tt))

-- a quote
abbrev pub quote_as : ℕ → QuoteLeft → Option TokenKind
quote_as q Closed = Some (quoted_kind q)
quote_as q Unclosed = Some Other
quote_as q Broken = None

char_decided : (bs : List ℕ) (end : QuoteLeft) → BeginsIn classes.Quote (39 ∷ bs) → end ≡ quote_left 39 bs → IsDecided (39 ∷ bs) (quote_as 39 end)
unfolding fits is_quote
char_decided bs Closed s e = char_char bs ∙ closed_as_left 39 bs Closed e
char_decided bs Unclosed s e = unclosed_other 39 bs refl ∙ open_as_left 39 bs Unclosed e
char_decided bs Broken s e =
    none_of classes.Quote 39 bs s
    (λ j _. char_char bs ∙ closed_as_left 39 bs Broken e, (λ j _. string_char bs, (λ j _. unclosed_other 39 bs refl ∙ open_as_left 39 bs Broken e, tt)))

string_decided : (bs : List ℕ) (end : QuoteLeft) → BeginsIn classes.Quote (34 ∷ bs) → end ≡ quote_left 34 bs → IsDecided (34 ∷ bs) (quote_as 34 end)
unfolding fits is_quote
string_decided bs Closed s e = string_string bs ∙ closed_as_left 34 bs Closed e
string_decided bs Unclosed s e = unclosed_other 34 bs refl ∙ open_as_left 34 bs Unclosed e
string_decided bs Broken s e =
    none_of classes.Quote 34 bs s
    (λ j _. char_string bs, (λ j _. string_string bs ∙ closed_as_left 34 bs Broken e, (λ j _. unclosed_other 34 bs refl ∙ open_as_left 34 bs Broken e, tt)))

pub quote_decided : (b : ℕ) (bs : List ℕ) (end : QuoteLeft) → BeginsIn classes.Quote (b ∷ bs) → end ≡ quote_left b bs → IsDecided (b ∷ bs) (quote_as b end)
quote_decided b bs end s e =
    let P : ℕ → Type 0 = λ q. BeginsIn classes.Quote (q ∷ bs) → end ≡ quote_left q bs → IsDecided (q ∷ bs) (quote_as q end) in
    ⊎_elim (λ f. subst P (sym f) (char_decided bs end) s e) (λ f. subst P (sym f) (string_decided bs end) s e) (quote_cases b (is_quote_first (b ∷ bs) s))

-- a point
point_is : (bs : List ℕ) → is_ascii_digit (get_or bs 0 0) ≡ true → is_number_rest 46 bs ≡ is_number (46 ∷ bs)
unfolding is_number
point_is bs h = rw h refl

point_no : (bs : List ℕ) → is_ascii_digit (get_or bs 0 0) ≡ false → is_number (46 ∷ bs) ≡ false
unfolding is_number
point_no bs h = rw h refl

point_byte : (b : ℕ) (bs : List ℕ) → BeginsIn classes.Point (b ∷ bs) → b ≡ 46
unfolding fact
point_byte b bs s = eqb-true b 46 (fact_of classes.Point (b ∷ bs) s)

pub point_number : (b : ℕ) (bs : List ℕ) (t : Bool) → BeginsIn classes.Point (b ∷ bs) → is_punctuator (b ∷ bs) ≡ false → is_ascii_digit (get_or bs 0 0) ≡ true → t ≡ is_number_rest b bs → IsDecided (b ∷ bs) (then_some t Number)
unfolding fits
point_number b bs t s p d e =
    let number : is_number_rest b bs ≡ is_number (b ∷ bs) = subst (λ v. is_number_rest v bs ≡ is_number (v ∷ bs)) (sym (point_byte b bs s)) (point_is bs d) in
    one classes.Point b bs Number t s (e ∙ number) (λ h. (λ j _. h, (λ j _. p, tt)))

pub point_none : (b : ℕ) (bs : List ℕ) → BeginsIn classes.Point (b ∷ bs) → is_punctuator (b ∷ bs) ≡ false → is_ascii_digit (get_or bs 0 0) ≡ false → IsDecided (b ∷ bs) None
unfolding fits
point_none b bs s p d =
    none_of classes.Point b bs s (λ j _. ap (λ v. is_number (v ∷ bs)) (point_byte b bs s) ∙ point_no bs d, (λ j _. p, tt))

-- a letter of a prefix
prefix_start : (b : ℕ) (bs : List ℕ) → BeginsIn classes.Prefix (b ∷ bs) → is_name_start b ≡ true
prefix_start b bs s = (letter_of (b ∷ bs) s).name

pub prefix_name : (b : ℕ) (bs : List ℕ) → BeginsIn classes.Prefix (b ∷ bs) → list_all is_name_byte bs ≡ true → IsDecided (b ∷ bs) (Some Identifier)
unfolding fits
prefix_name b bs s h = sym (name_is b bs (prefix_start b bs s)) ∙ h

-- a letter of a prefix before what makes it no identifier
prefix_none : (b : ℕ) (bs : List ℕ) → BeginsIn classes.Prefix (b ∷ bs) → list_all is_name_byte bs ≡ false → is_character (b ∷ bs) ≡ false → is_string (b ∷ bs) ≡ false → IsDecided (b ∷ bs) None
unfolding fits
prefix_none b bs s n c t =
    none_of classes.Prefix b bs s (λ j _. sym (name_is b bs (prefix_start b bs s)) ∙ n, (λ j _. c, (λ j _. t, tt)))

pub prefix_alone : (b : ℕ) → list_all is_name_byte [] ≡ false → IsDecided (b ∷ []) None
prefix_alone b n = absurd (false≢true (sym n))

pub prefix_char : (b : ℕ) (zs : List ℕ) (end : QuoteLeft) → BeginsIn classes.Prefix (b ∷ 39 ∷ zs) → list_all is_name_byte (39 ∷ zs) ≡ false → end ≡ quote_left 39 zs → IsDecided (b ∷ 39 ∷ zs) (closed_as end Char)
unfolding fits
prefix_char b zs Closed s n e = char_closes b zs (letter_of (b ∷ 39 ∷ zs) s) ∙ closed_as_left 39 zs Closed e
prefix_char b zs Unclosed s n e =
    let t = letter_of (b ∷ 39 ∷ zs) s in prefix_none b (39 ∷ zs) s n (char_closes b zs t ∙ closed_as_left 39 zs Unclosed e) (string_fails b zs t)
prefix_char b zs Broken s n e =
    let t = letter_of (b ∷ 39 ∷ zs) s in prefix_none b (39 ∷ zs) s n (char_closes b zs t ∙ closed_as_left 39 zs Broken e) (string_fails b zs t)

pub prefix_string : (b : ℕ) (zs : List ℕ) (end : QuoteLeft) → BeginsIn classes.Prefix (b ∷ 34 ∷ zs) → list_all is_name_byte (34 ∷ zs) ≡ false → end ≡ quote_left 34 zs → IsDecided (b ∷ 34 ∷ zs) (closed_as end Str)
unfolding fits
prefix_string b zs Closed s n e = string_closes b zs (letter_of (b ∷ 34 ∷ zs) s) ∙ closed_as_left 34 zs Closed e
prefix_string b zs Unclosed s n e =
    let t = letter_of (b ∷ 34 ∷ zs) s in prefix_none b (34 ∷ zs) s n (char_fails b zs t) (string_closes b zs t ∙ closed_as_left 34 zs Unclosed e)
prefix_string b zs Broken s n e =
    let t = letter_of (b ∷ 34 ∷ zs) s in prefix_none b (34 ∷ zs) s n (char_fails b zs t) (string_closes b zs t ∙ closed_as_left 34 zs Broken e)

-- no quote stands behind the prefix
no_string_all : (x y : ℕ) (zs : List ℕ) → Letter x → is_quote y ≡ false → ((x == 117) && (y == 56) && (get_or zs 0 0 == 34)) ≡ false → is_string (x ∷ y ∷ zs) ≡ false
no_string_all x y zs t q u =
    subst (λ v. is_string (x ∷ y ∷ v) ≡ false) (take_all (length zs) zs (omega arith)) (no_string x y zs (length zs) t q u)

no_quote : (y : ℕ) → (y ≡ 39 → ⊥) → (y ≡ 34 → ⊥) → is_quote y ≡ false
unfolding is_quote
no_quote y a d = let p = ne_eqb y 39 a in let q = ne_eqb y 34 d in rw (p, q) refl

pub prefix_other : (b y : ℕ) (zs : List ℕ) → BeginsIn classes.Prefix (b ∷ y ∷ zs) → list_all is_name_byte (y ∷ zs) ≡ false → (y ≡ 39 → ⊥) → (y ≡ 34 → ⊥) → ((b == 117) && (y == 56) && (get_or zs 0 0 == 34)) ≡ false → IsDecided (b ∷ y ∷ zs) None
prefix_other b y zs s n a d u =
    let t = letter_of (b ∷ y ∷ zs) s in
    let q = no_quote y a d in
    prefix_none b (y ∷ zs) s n (no_char b y zs t q) (no_string_all b y zs t q u)

dropped : (x y z : Bool) → y ≡ false → (x && y && z) ≡ false
dropped true y z h = rw h refl
dropped false y z h = refl

last_dropped : (x z : Bool) → z ≡ false → (x && z) ≡ false
last_dropped true z h = h
last_dropped false z h = refl

pub not_u : (b y z : ℕ) → (b ≡ 117 → ⊥) → ((b == 117) && (y == 56) && (z == 34)) ≡ false
not_u b y z h = let e = ne_eqb b 117 h in rw e refl

pub not_8 : (b y z : ℕ) → (y ≡ 56 → ⊥) → ((b == 117) && (y == 56) && (z == 34)) ≡ false
not_8 b y z h = let e = ne_eqb y 56 h in dropped (b == 117) (y == 56) (z == 34) e

pub not_quote : (b y z : ℕ) → (z ≡ 34 → ⊥) → ((b == 117) && (y == 56) && (z == 34)) ≡ false
not_quote b y z h = let e = ne_eqb z 34 h in last_dropped ((b == 117) && (y == 56)) (z == 34) e

pub u8_decided : (zs : List ℕ) (end : QuoteLeft) → BeginsIn classes.Prefix (117 ∷ 56 ∷ 34 ∷ zs) → list_all is_name_byte (56 ∷ 34 ∷ zs) ≡ false → end ≡ quote_left 34 zs → IsDecided (117 ∷ 56 ∷ 34 ∷ zs) (closed_as end Str)
unfolding fits
u8_decided zs Closed s n e = u8_closes zs ∙ closed_as_left 34 zs Closed e
u8_decided zs Unclosed s n e = prefix_none 117 (56 ∷ 34 ∷ zs) s n (u8_char (34 ∷ zs)) (u8_closes zs ∙ closed_as_left 34 zs Unclosed e)
u8_decided zs Broken s n e = prefix_none 117 (56 ∷ 34 ∷ zs) s n (u8_char (34 ∷ zs)) (u8_closes zs ∙ closed_as_left 34 zs Broken e)

-- the same, where these are the bytes
pub prefix_char_at : (b : ℕ) (bs zs : List ℕ) (end : QuoteLeft) (r : Option TokenKind) → BeginsIn classes.Prefix (b ∷ bs) → list_all is_name_byte bs ≡ false → bs ≡ 39 ∷ zs → end ≡ quote_left 39 zs → r ≡ closed_as end Char → IsDecided (b ∷ bs) r
prefix_char_at b bs zs end r s n e h f =
    let P : List ℕ → Type 0 = λ ys. BeginsIn classes.Prefix (b ∷ ys) → list_all is_name_byte ys ≡ false → IsDecided (b ∷ ys) (closed_as end Char) in
    subst (IsDecided (b ∷ bs)) (sym f) (subst P (sym e) (λ t m. prefix_char b zs end t m h) s n)

pub prefix_string_at : (b : ℕ) (bs zs : List ℕ) (end : QuoteLeft) (r : Option TokenKind) → BeginsIn classes.Prefix (b ∷ bs) → list_all is_name_byte bs ≡ false → bs ≡ 34 ∷ zs → end ≡ quote_left 34 zs → r ≡ closed_as end Str → IsDecided (b ∷ bs) r
prefix_string_at b bs zs end r s n e h f =
    let P : List ℕ → Type 0 = λ ys. BeginsIn classes.Prefix (b ∷ ys) → list_all is_name_byte ys ≡ false → IsDecided (b ∷ ys) (closed_as end Str) in
    subst (IsDecided (b ∷ bs)) (sym f) (subst P (sym e) (λ t m. prefix_string b zs end t m h) s n)

pub prefix_other_at : (b y : ℕ) (bs zs : List ℕ) → BeginsIn classes.Prefix (b ∷ bs) → list_all is_name_byte bs ≡ false → bs ≡ y ∷ zs → (y ≡ 39 → ⊥) → (y ≡ 34 → ⊥) → ((b == 117) && (y == 56) && (get_or zs 0 0 == 34)) ≡ false → IsDecided (b ∷ bs) None
prefix_other_at b y bs zs s n e a d u =
    let P : List ℕ → Type 0 = λ ys. BeginsIn classes.Prefix (b ∷ ys) → list_all is_name_byte ys ≡ false → IsDecided (b ∷ ys) None in
    subst P (sym e) (λ t m. prefix_other b y zs t m a d u) s n

pub u8_at : (b : ℕ) (bs zs : List ℕ) (end : QuoteLeft) (r : Option TokenKind) → BeginsIn classes.Prefix (b ∷ bs) → list_all is_name_byte bs ≡ false → b ≡ 117 → bs ≡ 56 ∷ 34 ∷ zs → end ≡ quote_left 34 zs → r ≡ closed_as end Str → IsDecided (b ∷ bs) r
u8_at b bs zs end r s n u e h f =
    let P : ℕ → List ℕ → Type 0 = λ v ys. BeginsIn classes.Prefix (v ∷ ys) → list_all is_name_byte ys ≡ false → IsDecided (v ∷ ys) (closed_as end Str) in
    subst (IsDecided (b ∷ bs)) (sym f) (subst (λ v. P v bs) (sym u) (subst (P 117) (sym e) (λ t m. u8_decided zs end t m h)) s n)
