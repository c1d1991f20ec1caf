-- What stands first at a slash or a quote.
use Rattle.std.proofs.Common.{◌≡◌, ℕ, suc, zero, ◌+◌, ◌≤◌, ◌==◌, Bool, true, false, not, ◌&&◌, ◌||◌, Option, Some, None, List, [], ◌∷◌, length, get_or, take, drop, leb, add-one, sym, refl, ap, ◌∙◌, subst, arith, ⊎_elim}
use Rattle.std.specs.List.{list_all, prefix_len}
use Rattle.std.specs.Char.{is_ascii_digit}
use Rattle.std.proofs.lemmas.Bool.{both_ways, or_cases, eqb-true, leb-true}
use Rattle.cb_lines.specs.Marks.{is_line_feed}
use Rattle.cb_tokens.specs.declared.token.TokenKind.TheVariants.{Char, Str, Punct, Other}
use Rattle.cb_tokens.specs.declared.token.PieceKind.{PieceKind}
use Rattle.cb_tokens.specs.declared.token.PieceKind.TheVariants.{Comment, Token}
use Rattle.cb_tokens.specs.declared.first.First.TheVariants as first
use Rattle.cb_tokens.specs.declared.class.Class.TheVariants as classes
use Rattle.cb_tokens.specs.declared.quote.QuoteEnd.{QuoteEnd}
use Rattle.cb_tokens.specs.declared.quote.QuoteEnd.TheVariants.{Closed, Unclosed}
use Rattle.cb_tokens.specs.Forms.{is_white, is_name_start, is_quote, is_quoted, closes, is_prefix_letter, is_character, is_string, is_punctuator, punctuators, is_unclosed, stays_unclosed, is_stray, begins_with, ends_comment, is_comment, is_open_comment, has_comment_end, fits}
use Rattle.cb_tokens.specs.Cut.{StandsFirst, NoneLonger}
use Rattle.cb_tokens.specs.inner.Classes.{BeginsIn}
use Rattle.cb_tokens.specs.inner.Scan.{IsLongest, EndsQuote, EndsComment, quoted_kind}
use Rattle.cb_tokens.proofs.Quotes.{quote_cases}
use Rattle.cb_tokens.proofs.Prefixes.{prefix_yes, all_prefix, prefix_most, prefix_within}
use Rattle.cb_tokens.proofs.Punctuators.{of_punctuators}
use Rattle.cb_tokens.proofs.Heads.{IsMost, stands}
use Rattle.cb_tokens.proofs.Arms.{fact, fact_of, is_slash, closed, most1, most2}

or_false : (x y : Bool) → y ≡ false → (x || y) ≡ x
or_false true y h = refl
or_false false y h = h

dropped : (x y : Bool) → not ((x || true) || y) ≡ false
dropped true y = refl
dropped false y = refl

opened : (x y : ℕ) (zs : List ℕ) (c : ℕ) → x ≡ 47 → y ≡ c → x ∷ y ∷ zs ≡ 47 ∷ c ∷ zs
opened x y zs c e f = cc

two_more : (n : ℕ) → suc (suc n) ≡ n + 2
two_more n = omega arith

-- a slash
slash_second : (l : List ℕ) → is_punctuator (47 ∷ l) ≡ true → (leb (length (47 ∷ l)) 1 || (get_or l 0 0 == 61)) ≡ true
unfolding punctuators
slash_second l h = of_punctuators (λ p. not (get_or p 0 0 == 47) || leb (length p) 1 || (get_or p 1 0 == 61)) refl (47 ∷ l) h

slash_alone : (y : ℕ) (zs : List ℕ) (n : ℕ) → (y ≡ 61 → ⊥) → IsMost (47 ∷ y ∷ zs) (suc (suc n)) (Token Punct)
unfolding fits
slash_alone y zs n other zero le h = omega arith
slash_alone y zs n other (suc zero) le h = omega arith
slash_alone y zs n other (suc (suc m)) le h =
    ⊎_elim (λ s. let one = leb-true (length (47 ∷ y ∷ take m zs)) 1 s in absurd (omega arith)) (λ s. absurd (other (eqb-true y 61 s)))
    (or_cases (leb (length (47 ∷ y ∷ take m zs)) 1) (y == 61) (slash_second (y ∷ take m zs) h))

open_block : (zs : List ℕ) → is_open_comment (47 ∷ 42 ∷ zs) ≡ not (has_comment_end zs)
unfolding is_open_comment begins_with
open_block zs = refl

block : (l : List ℕ) → is_comment (47 ∷ 42 ∷ l) ≡ ends_comment l
unfolding is_comment begins_with
block l = or_false (ends_comment l) false refl

open_line : (zs : List ℕ) → is_open_comment (47 ∷ 47 ∷ zs) ≡ false
unfolding is_open_comment begins_with
open_line zs = refl

line : (l : List ℕ) → is_comment (47 ∷ 47 ∷ l) ≡ list_all (λ b. not (is_line_feed b)) l
unfolding is_comment begins_with
line l = refl

-- what stands first where the slash and a star open a comment that ends there, or nowhere
abbrev pub first_of : Option ℕ → first.the_data
first_of None = first.OpenComment
first_of (Some n) = first.Piece Comment (n + 2)

slash_is : (xs : List ℕ) → BeginsIn classes.Slash xs → get_or xs 0 0 ≡ 47
unfolding fact
slash_is xs b = eqb-true (get_or xs 0 0) 47 (fact_of classes.Slash xs b)

block_most : (zs : List ℕ) (n : ℕ) → IsLongest ends_comment zs n → IsMost (47 ∷ 42 ∷ zs) (suc (suc n)) Comment
unfolding fits
block_most zs n l = most2 Comment 47 42 zs n (λ m le h. l.longest m le (sym (block (take m zs)) ∙ h))

pub block_stands : (xs : List ℕ) (r : Option ℕ) → BeginsIn classes.Slash xs → get_or xs 1 0 ≡ 42 → EndsComment (drop 2 xs) r → StandsFirst xs (first_of r)
unfolding fits
block_stands [] r b e h = absurd (omega (arith, b.some))
block_stands (x ∷ []) r b e h = cc
block_stands (x ∷ y ∷ zs) None b e h =
    subst (λ ys. is_open_comment ys ≡ true) (sym (opened x y zs 42 (slash_is (x ∷ y ∷ zs) b) e)) (open_block zs ∙ ap not h)
block_stands (x ∷ y ∷ zs) (Some n) b e h =
    let same = sym (opened x y zs 42 (slash_is (x ∷ y ∷ zs) b) e) in
    subst (λ ys. StandsFirst ys (first.Piece Comment (n + 2))) same
    (subst (λ k. StandsFirst (47 ∷ 42 ∷ zs) (first.Piece Comment k)) (two_more n)
    (stands classes.Slash (47 ∷ 42 ∷ zs) Comment (suc (suc n)) (subst (BeginsIn classes.Slash) (sym same) b) (open_block zs ∙ ap not h.1)
    (let k = h.0.within in omega arith) (block (take n zs) ∙ h.0.holds)
    (block_most zs n h.0, (slash_alone 42 zs n (λ q. absurd (omega arith)), tt))))

line_most : (zs : List ℕ) → IsMost (47 ∷ 47 ∷ zs) (suc (suc (prefix_len (λ b. not (is_line_feed b)) zs))) Comment
unfolding fits
line_most zs =
    most2 Comment 47 47 zs (prefix_len (λ b. not (is_line_feed b)) zs) (λ m le h. prefix_most (λ b. not (is_line_feed b)) zs m le (sym (line (take m zs)) ∙ h))

line_len : (zs : List ℕ) → prefix_len (λ b. not (is_line_feed b)) (47 ∷ 47 ∷ zs) ≡ suc (suc (prefix_len (λ b. not (is_line_feed b)) zs))
line_len zs =
    prefix_yes (λ b. not (is_line_feed b)) 47 (47 ∷ zs) refl ∙ ap suc (prefix_yes (λ b. not (is_line_feed b)) 47 zs refl)

pub line_stands : (xs : List ℕ) → BeginsIn classes.Slash xs → get_or xs 1 0 ≡ 47 → StandsFirst xs (first.Piece Comment (prefix_len (λ b. not (is_line_feed b)) xs))
unfolding fits
line_stands [] b e = absurd (omega (arith, b.some))
line_stands (x ∷ []) b e = cc
line_stands (x ∷ y ∷ zs) b e =
    let p = λ (b : ℕ). not (is_line_feed b) in
    let same = sym (opened x y zs 47 (slash_is (x ∷ y ∷ zs) b) e) in
    subst (λ ys. StandsFirst ys (first.Piece Comment (prefix_len p ys))) same
    (subst (λ k. StandsFirst (47 ∷ 47 ∷ zs) (first.Piece Comment k)) (sym (line_len zs))
    (stands classes.Slash (47 ∷ 47 ∷ zs) Comment (suc (suc (prefix_len p zs))) (subst (BeginsIn classes.Slash) (sym same) b) (open_line zs)
    (let k = prefix_within p zs in omega arith) (line (take (prefix_len p zs) zs) ∙ all_prefix p zs)
    (line_most zs, (slash_alone 47 zs (prefix_len p zs) (λ q. absurd (omega arith)), tt))))

-- a slash that opens no comment
no_comment : (y : ℕ) (l : List ℕ) → (y == 42) ≡ false → (y == 47) ≡ false → is_comment (47 ∷ y ∷ l) ≡ false
unfolding is_comment begins_with
no_comment y l s t = rw (s, t) refl

not_open : (ys : List ℕ) → (get_or ys 0 0 == 42) ≡ false → is_open_comment (47 ∷ ys) ≡ false
unfolding is_open_comment begins_with
not_open [] e = refl
not_open (y ∷ ys) e = rw e refl

none_comment : (ys : List ℕ) (n : ℕ) → (get_or ys 0 0 == 42) ≡ false → (get_or ys 0 0 == 47) ≡ false → 1 ≤ n → IsMost (47 ∷ ys) n Comment
unfolding fits
none_comment ys n s t some zero le h = omega arith
none_comment ys n s t some (suc zero) le h = omega arith
none_comment [] n s t some (suc (suc m)) le h = omega arith
none_comment (y ∷ ys) n s t some (suc (suc m)) le h =
    absurd (both_ways (is_comment (47 ∷ y ∷ take m ys)) (no_comment y (take m ys) s t) h)

pub slash_stands : (xs : List ℕ) (n : ℕ) → BeginsIn classes.Slash xs → (get_or xs 1 0 == 42) ≡ false → (get_or xs 1 0 == 47) ≡ false → 1 ≤ n → IsLongest is_punctuator xs n → StandsFirst xs (first.Piece (Token Punct) n)
unfolding fits
slash_stands [] n b s t some l = absurd (omega (arith, b.some))
slash_stands (x ∷ ys) n b s t some l =
    let same : 47 ∷ ys ≡ x ∷ ys = ap (λ v. v ∷ ys) (sym (slash_is (x ∷ ys) b)) in
    stands classes.Slash (x ∷ ys) (Token Punct) n b (subst (λ zs. is_open_comment zs ≡ false) same (not_open ys s)) l.within l.holds
    (subst (λ zs. IsMost zs n Comment) same (none_comment ys n s t some), (l.longest, tt))

-- a quote
stray_quote : (q : ℕ) (l : List ℕ) → is_quote q ≡ true → is_stray (q ∷ l) ≡ false
unfolding is_stray
stray_quote q [] h = rw h (dropped (is_white q || is_line_feed q || is_name_start q || is_ascii_digit q) (is_punctuator (q ∷ [])))
stray_quote q (x ∷ xs) h = refl

pub unclosed_other : (q : ℕ) (l : List ℕ) → is_quote q ≡ true → (is_unclosed (q ∷ l) || is_stray (q ∷ l)) ≡ stays_unclosed q l
unfolding is_unclosed
unclosed_other q l h = or_false (is_quote q && stays_unclosed q l) (is_stray (q ∷ l)) (stray_quote q l h) ∙ rw h refl

pub char_char : (l : List ℕ) → is_character (39 ∷ l) ≡ closes 39 l
unfolding is_character is_quoted is_prefix_letter
char_char l = or_false (closes 39 l) false refl

pub string_char : (l : List ℕ) → is_string (39 ∷ l) ≡ false
unfolding is_string is_quoted is_prefix_letter
string_char l = refl

pub char_string : (l : List ℕ) → is_character (34 ∷ l) ≡ false
unfolding is_character is_quoted is_prefix_letter
char_string l = refl

pub string_string : (l : List ℕ) → is_string (34 ∷ l) ≡ closes 34 l
unfolding is_string is_quoted is_prefix_letter
string_string l = or_false (closes 34 l || false) false refl ∙ or_false (closes 34 l) false refl

-- what stands first where the quote ends there
abbrev pub quoted : ℕ → QuoteEnd → first.the_data
quoted q (Closed n) = first.Piece (Token (quoted_kind q)) (n + 1)
quoted q (Unclosed n) = first.Piece (Token Other) (n + 1)

other_most : (q : ℕ) (ys : List ℕ) (n : ℕ) → is_quote q ≡ true → NoneLonger (stays_unclosed q) ys n → IsMost (q ∷ ys) (suc n) (Token Other)
unfolding fits
other_most q ys n h w = most1 (Token Other) q ys n (λ m le e. w m le (sym (unclosed_other q (take m ys) h) ∙ e))

none_of : (k : PieceKind) (x : ℕ) (ys : List ℕ) (n : ℕ) → ((m : ℕ) → m ≤ length ys → fits k (x ∷ take m ys) ≡ false) → IsMost (x ∷ ys) (suc n) k
none_of k x ys n fails = most1 k x ys n (λ m le h. absurd (both_ways (fits k (x ∷ take m ys)) (fails m le) h))

char_stands : (ys : List ℕ) (r : QuoteEnd) → BeginsIn classes.Quote (39 ∷ ys) → EndsQuote 39 ys r → StandsFirst (39 ∷ ys) (quoted 39 r)
unfolding fits is_quote is_slash
char_stands ys (Closed n) b h =
    subst (λ k. StandsFirst (39 ∷ ys) (first.Piece (Token Char) k)) (sym (add-one n))
    (stands classes.Quote (39 ∷ ys) (Token Char) (suc n) b (closed classes.Quote (39 ∷ ys) b refl) (let k = h.0.within in omega arith)
    (char_char (take n ys) ∙ h.0.holds)
    (most1 (Token Char) 39 ys n (λ m le e. h.0.longest m le (sym (char_char (take m ys)) ∙ e)), (none_of (Token Str) 39 ys n (λ m le. string_char (take m ys)), (other_most 39 ys n refl h.1, tt))))
char_stands ys (Unclosed n) b h =
    subst (λ k. StandsFirst (39 ∷ ys) (first.Piece (Token Other) k)) (sym (add-one n))
    (stands classes.Quote (39 ∷ ys) (Token Other) (suc n) b (closed classes.Quote (39 ∷ ys) b refl) (let k = h.0.within in omega arith)
    (unclosed_other 39 (take n ys) refl ∙ h.0.holds)
    (none_of (Token Char) 39 ys n (λ m le. char_char (take m ys) ∙ h.1 m le), (none_of (Token Str) 39 ys n (λ m le. string_char (take m ys)), (other_most 39 ys n refl h.0.longest, tt))))

string_stands : (ys : List ℕ) (r : QuoteEnd) → BeginsIn classes.Quote (34 ∷ ys) → EndsQuote 34 ys r → StandsFirst (34 ∷ ys) (quoted 34 r)
unfolding fits is_quote is_slash
string_stands ys (Closed n) b h =
    subst (λ k. StandsFirst (34 ∷ ys) (first.Piece (Token Str) k)) (sym (add-one n))
    (stands classes.Quote (34 ∷ ys) (Token Str) (suc n) b (closed classes.Quote (34 ∷ ys) b refl) (let k = h.0.within in omega arith)
    (string_string (take n ys) ∙ h.0.holds)
    (none_of (Token Char) 34 ys n (λ m le. char_string (take m ys)), (most1 (Token Str) 34 ys n (λ m le e. h.0.longest m le (sym (string_string (take m ys)) ∙ e)), (other_most 34 ys n refl h.1, tt))))
string_stands ys (Unclosed n) b h =
    subst (λ k. StandsFirst (34 ∷ ys) (first.Piece (Token Other) k)) (sym (add-one n))
    (stands classes.Quote (34 ∷ ys) (Token Other) (suc n) b (closed classes.Quote (34 ∷ ys) b refl) (let k = h.0.within in omega arith)
    (unclosed_other 34 (take n ys) refl ∙ h.0.holds)
    (none_of (Token Char) 34 ys n (λ m le. char_string (take m ys)), (none_of (Token Str) 34 ys n (λ m le. string_string (take m ys) ∙ h.1 m le), (other_most 34 ys n refl h.0.longest, tt))))

pub is_quote_first : (xs : List ℕ) → BeginsIn classes.Quote xs → is_quote (get_or xs 0 0) ≡ true
unfolding fact
is_quote_first xs b = fact_of classes.Quote xs b

pub quote_stands : (xs : List ℕ) (r : QuoteEnd) → BeginsIn classes.Quote xs → EndsQuote (get_or xs 0 0) (drop 1 xs) r → StandsFirst xs (quoted (get_or xs 0 0) r)
quote_stands [] r b h = absurd (omega (arith, b.some))
quote_stands (q ∷ ys) r b h =
    let P : ℕ → Type 0 = λ q. BeginsIn classes.Quote (q ∷ ys) → EndsQuote q ys r → StandsFirst (q ∷ ys) (quoted q r) in
    ⊎_elim (λ e. subst P (sym e) (char_stands ys r) b h) (λ e. subst P (sym e) (string_stands ys r) b h) (quote_cases q (is_quote_first (q ∷ ys) b))
