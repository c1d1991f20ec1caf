-- What stands first, class by class.
use Rattle.std.proofs.Common.{◌≡◌, ℕ, suc, zero, ◌<◌, ◌≤◌, ◌==◌, Bool, true, false, not, ◌&&◌, ◌||◌, List, [], ◌∷◌, length, get_or, take, leb, eq-eqb, length-take-le, sym, refl, ap, ◌∙◌, subst, arith, ⊎_elim}
use Rattle.std.specs.List.{list_all, prefix_len}
use Rattle.std.specs.Char.{is_ascii_digit}
use Rattle.std.proofs.lemmas.Bool.{false≢true, both_ways, and_parts, and_from, and_left, or_cases, or_left, or_right, not-true, eqb-true, leb-true, agree_below, agree_below_at}
use Rattle.std.proofs.lemmas.Slice.Eq.{bytes_eq-Decides}
use Rattle.cb_tokens.specs.declared.token.TokenKind.TheVariants.{Identifier, Punct, Other}
use Rattle.cb_tokens.specs.declared.token.PieceKind.{PieceKind}
use Rattle.cb_tokens.specs.declared.token.PieceKind.TheVariants.{White, LineEnd, Token}
use Rattle.cb_tokens.specs.declared.first.First.TheVariants as first
use Rattle.cb_tokens.specs.declared.class.Class.{Class}
use Rattle.cb_tokens.specs.declared.class.Class.TheVariants as classes
use Rattle.cb_tokens.specs.Forms.{is_white, is_name_start, is_name_byte, is_quote, is_identifier, is_prefix_letter, is_punctuator, punctuators, is_unclosed, stays_unclosed, is_stray, is_white_run, begins_with, is_open_comment, fits}
use Rattle.cb_tokens.specs.Cut.{StandsFirst}
use Rattle.cb_tokens.specs.inner.Classes.{class_of, BeginsIn}
use Rattle.cb_tokens.specs.inner.Scan.{IsLongest}
use Rattle.cb_tokens.proofs.Prefixes.{prefix_yes, all_prefix, prefix_most, prefix_within}
use Rattle.cb_tokens.proofs.Punctuators.{among}
use Rattle.cb_tokens.proofs.Heads.{IsMost, stands}

-- no longer punctuator begins with the byte
pub alone : ℕ → Bool
alone b = list_all (λ p. not (get_or p 0 0 == b) || leb (length p) 1) punctuators

-- what is so of the bytes of a class
unfoldable pub fact : Class → ℕ → Bool
fact classes.White b = is_white b
fact classes.LineFeed b = b == 10
fact classes.Name b = is_name_start b
fact classes.Prefix b = is_prefix_letter b && is_name_start b
fact classes.Digit b = is_ascii_digit b
fact classes.Point b = b == 46
fact classes.Slash b = b == 47
fact classes.Quote b = is_quote b
fact classes.Single b = is_punctuator (b ∷ []) && alone b
fact classes.Operator b = is_punctuator (b ∷ [])
fact classes.Stray b = is_stray (b ∷ []) && not (is_quote b)

unfoldable pub is_slash : Class → Bool
is_slash classes.White = false
is_slash classes.LineFeed = false
is_slash classes.Name = false
is_slash classes.Prefix = false
is_slash classes.Digit = false
is_slash classes.Point = false
is_slash classes.Slash = true
is_slash classes.Quote = false
is_slash classes.Single = false
is_slash classes.Operator = false
is_slash classes.Stray = false

facts : agree_below (λ b. fact (class_of b) b) (λ _. true) 256 ≡ true
unfolding fact alone class_of is_white is_name_start is_prefix_letter is_quote is_punctuator punctuators is_stray
facts = refl

slashes : agree_below (λ b. is_slash (class_of b)) (λ b. b == 47) 256 ≡ true
unfolding is_slash class_of is_white is_name_start is_prefix_letter is_quote
slashes = refl

pub fact_of : (c : Class) (xs : List ℕ) → BeginsIn c xs → fact c (get_or xs 0 0) ≡ true
fact_of c xs b =
    subst (λ d. fact d (get_or xs 0 0) ≡ true) b.is (agree_below_at (λ b. fact (class_of b) b) (λ _. true) 256 (get_or xs 0 0) facts b.byte)

not_slash : (c : Class) (xs : List ℕ) → BeginsIn c xs → is_slash c ≡ false → (get_or xs 0 0 == 47) ≡ false
not_slash c xs b e =
    sym (agree_below_at (λ b. is_slash (class_of b)) (λ b. b == 47) 256 (get_or xs 0 0) slashes b.byte) ∙ ap is_slash b.is ∙ e

pub no_slash_closed : (xs : List ℕ) → (get_or xs 0 0 == 47) ≡ false → is_open_comment xs ≡ false
unfolding is_open_comment begins_with
no_slash_closed [] e = refl
no_slash_closed (x ∷ []) e = refl
no_slash_closed (x ∷ y ∷ ys) e = rw e refl

pub closed : (c : Class) (xs : List ℕ) → BeginsIn c xs → is_slash c ≡ false → is_open_comment xs ≡ false
closed c xs b e = no_slash_closed xs (not_slash c xs b e)

-- prefixes behind the first byte, and behind the first two
pub most1 : (k : PieceKind) (x : ℕ) (ys : List ℕ) (n : ℕ) → ((m : ℕ) → m ≤ length ys → fits k (x ∷ take m ys) ≡ true → m ≤ n) → IsMost (x ∷ ys) (suc n) k
most1 k x ys n h zero le e = omega arith
most1 k x ys n h (suc m) le e = let more : m ≤ n = h m (omega arith) e in omega arith

pub most2 : (k : PieceKind) (x y : ℕ) (zs : List ℕ) (n : ℕ) → ((m : ℕ) → m ≤ length zs → fits k (x ∷ y ∷ take m zs) ≡ true → m ≤ n) → IsMost (x ∷ y ∷ zs) (suc (suc n)) k
most2 k x y zs n h zero le e = omega arith
most2 k x y zs n h (suc zero) le e = omega arith
most2 k x y zs n h (suc (suc m)) le e = let more : m ≤ n = h m (omega arith) e in omega arith

-- a white run
white_runs : (l : List ℕ) → is_white_run l ≡ true → list_all is_white l ≡ true
unfolding is_white_run
white_runs [] h = refl
white_runs (x ∷ xs) h = h

run_whites : (l : List ℕ) → 0 < length l → list_all is_white l ≡ true → is_white_run l ≡ true
unfolding is_white_run
run_whites [] some h = absurd (omega arith)
run_whites (x ∷ xs) some h = h

some_taken : (p : ℕ → Bool) (xs : List ℕ) → 0 < length xs → p (get_or xs 0 0) ≡ true → 0 < prefix_len p xs
some_taken p [] some h = absurd (omega arith)
some_taken p (x ∷ xs) some h = omega (arith, prefix_yes p x xs h)

taken : (p : ℕ → Bool) (xs : List ℕ) → 0 < length xs → p (get_or xs 0 0) ≡ true → 0 < length (take (prefix_len p xs) xs)
taken p xs some h = omega (arith, length-take-le (prefix_len p xs) xs (prefix_within p xs), some_taken p xs some h)

pub white_stands : (xs : List ℕ) → BeginsIn classes.White xs → StandsFirst xs (first.Piece White (prefix_len is_white xs))
unfolding fact is_slash fits
white_stands xs b =
    stands classes.White xs White (prefix_len is_white xs) b (closed classes.White xs b refl) (prefix_within is_white xs)
    (run_whites (take (prefix_len is_white xs) xs) (taken is_white xs b.some (fact_of classes.White xs b)) (all_prefix is_white xs))
    (λ m le h. prefix_most is_white xs m le (white_runs (take m xs) h), tt)

-- an identifier
start_byte : (b : ℕ) → is_name_start b ≡ true → is_name_byte b ≡ true
unfolding is_name_byte
start_byte b h = or_left (is_name_start b) (is_ascii_digit b) h

name_bytes : (l : List ℕ) → is_identifier l ≡ true → list_all is_name_byte l ≡ true
unfolding is_identifier
name_bytes [] h = refl
name_bytes (x ∷ xs) h =
    let parts = and_parts (is_name_start x) (list_all is_name_byte xs) h in
    and_from (is_name_byte x) (list_all is_name_byte xs) (start_byte x parts.0) parts.1

identifiers : (n : ℕ) (xs : List ℕ) → 0 < length (take n xs) → is_name_start (get_or xs 0 0) ≡ true → list_all is_name_byte (take n xs) ≡ true → is_identifier (take n xs) ≡ true
unfolding is_identifier
identifiers zero xs some s h = absurd (omega arith)
identifiers (suc n) [] some s h = absurd (omega arith)
identifiers (suc n) (x ∷ xs) some s h = and_from (is_name_start x) (list_all is_name_byte (take n xs)) s (and_parts (is_name_byte x) (list_all is_name_byte (take n xs)) h).1

pub longest_name : (xs : List ℕ) → 0 < length xs → is_name_start (get_or xs 0 0) ≡ true → IsLongest is_identifier xs (prefix_len is_name_byte xs)
longest_name xs some s = record {
  within = prefix_within is_name_byte xs;
  holds = identifiers (prefix_len is_name_byte xs) xs (taken is_name_byte xs some (start_byte (get_or xs 0 0) s)) s (all_prefix is_name_byte xs);
  longest = λ m le h. prefix_most is_name_byte xs m le (name_bytes (take m xs) h);
}

pub name_stands : (xs : List ℕ) → BeginsIn classes.Name xs → StandsFirst xs (first.Piece (Token Identifier) (prefix_len is_name_byte xs))
unfolding fact is_slash fits
name_stands xs b =
    let l = longest_name xs b.some (fact_of classes.Name xs b) in
    stands classes.Name xs (Token Identifier) (prefix_len is_name_byte xs) b (closed classes.Name xs b refl) l.within l.holds
    (l.longest, tt)

-- a line end
pub line_end_stands : (xs : List ℕ) → BeginsIn classes.LineFeed xs → StandsFirst xs (first.Piece LineEnd 1)
unfolding fact is_slash fits
line_end_stands [] b = absurd (omega (arith, b.some))
line_end_stands (x ∷ xs) b =
    let feed : x ≡ 10 = eqb-true x 10 (fact_of classes.LineFeed (x ∷ xs) b) in
    stands classes.LineFeed (x ∷ xs) LineEnd 1 b (closed classes.LineFeed (x ∷ xs) b refl) (omega arith)
    ((bytes_eq-Decides (x ∷ []) (10 ∷ [])).1 (ap (λ v. v ∷ []) feed)) (
      λ m le h.
          let e = (bytes_eq-Decides (take m (x ∷ xs)) (10 ∷ [])).0 h in
          let one : length (take m (x ∷ xs)) ≡ 1 = ap length e in
          omega (arith, length-take-le m (x ∷ xs) le),
      tt,
    )

-- a punctuator of one byte
pub operator_stands : (xs : List ℕ) (n : ℕ) → BeginsIn classes.Operator xs → IsLongest is_punctuator xs n → StandsFirst xs (first.Piece (Token Punct) n)
unfolding is_slash fits
operator_stands xs n b l =
    stands classes.Operator xs (Token Punct) n b (closed classes.Operator xs b refl) l.within l.holds (l.longest, tt)

pub single_stands : (xs : List ℕ) → BeginsIn classes.Single xs → StandsFirst xs (first.Piece (Token Punct) 1)
unfolding fact alone is_slash fits is_punctuator
single_stands [] b = absurd (omega (arith, b.some))
single_stands (x ∷ xs) b =
    let parts = and_parts (is_punctuator (x ∷ [])) (alone x) (fact_of classes.Single (x ∷ xs) b) in
    stands classes.Single (x ∷ xs) (Token Punct) 1 b (closed classes.Single (x ∷ xs) b refl) (omega arith) parts.0 (
      most1 (Token Punct) x xs 0
          (λ m le h.
          let one = or_cases (not (x == x)) (leb (length (x ∷ take m xs)) 1) (among (λ p. not (get_or p 0 0 == x) || leb (length p) 1) (x ∷ take m xs) punctuators parts.1 h) in
          ⊎_elim (λ e. absurd (both_ways (x == x) (not-true (x == x) e) (eq-eqb x x refl)))
          (λ e. omega (arith, leb-true (length (x ∷ take m xs)) 1 e, length-take-le m xs le)) one),
      tt,
    )

-- a byte by itself
no_unclosed : (x : ℕ) (xs : List ℕ) → is_quote x ≡ false → is_unclosed (x ∷ xs) ≡ false
unfolding is_unclosed
no_unclosed x xs e = and_left (is_quote x) (stays_unclosed x xs) e

one_stray : (x : ℕ) (xs : List ℕ) (m : ℕ) → m ≤ length xs → is_stray (x ∷ take m xs) ≡ true → m ≤ 0
unfolding is_stray
one_stray x xs zero le h = omega arith
one_stray x [] (suc m) le h = omega arith
one_stray x (y ∷ ys) (suc m) le h = absurd (false≢true h)

pub stray_stands : (xs : List ℕ) → BeginsIn classes.Stray xs → StandsFirst xs (first.Piece (Token Other) 1)
unfolding fact is_slash fits is_stray
stray_stands [] b = absurd (omega (arith, b.some))
stray_stands (x ∷ xs) b =
    let parts = and_parts (is_stray (x ∷ [])) (not (is_quote x)) (fact_of classes.Stray (x ∷ xs) b) in
    let other = not-true (is_quote x) parts.1 in
    stands classes.Stray (x ∷ xs) (Token Other) 1 b (closed classes.Stray (x ∷ xs) b refl) (omega arith)
    (or_right (is_unclosed (x ∷ [])) (is_stray (x ∷ [])) parts.0) (
      most1 (Token Other) x xs 0
          (λ m le h.
          ⊎_elim (λ e. absurd (both_ways (is_unclosed (x ∷ take m xs)) (no_unclosed x (take m xs) other) e)) (one_stray x xs m le)
          (or_cases (is_unclosed (x ∷ take m xs)) (is_stray (x ∷ take m xs)) h)),
      tt,
    )
