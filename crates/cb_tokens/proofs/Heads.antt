-- Which pieces begin with a byte.
use Rattle.std.proofs.Common.{◌≡◌, ℕ, suc, zero, ◌<◌, ◌≤◌, ◌==◌, Bool, true, false, not, cond, ◌&&◌, ◌||◌, List, [], ◌∷◌, length, get_or, take, drop, eq-eqb, sym, refl, ap, ◌∙◌, subst, arith, ⊎_elim}
use Rattle.std.specs.List.{list_all, list_any}
use Rattle.std.specs.Char.{is_ascii_digit}
use Rattle.std.proofs.lemmas.Bool.{false≢true, and_parts, or_cases, or_left, or_right, eqb-true, agree_below, agree_below_at}
use Rattle.std.proofs.lemmas.Slice.Eq.{bytes_eq-Decides}
use Rattle.cb_lines.specs.Marks.{is_line_feed}
use Rattle.cb_tokens.specs.declared.token.TokenKind.TheVariants.{Identifier, Number, Char, Str, Punct, Other}
use Rattle.cb_tokens.specs.declared.token.PieceKind.{PieceKind}
use Rattle.cb_tokens.specs.declared.token.PieceKind.TheVariants.{White, Comment, LineEnd, Token}
use Rattle.cb_tokens.specs.declared.first.First.TheVariants as first
use Rattle.cb_tokens.specs.declared.class.Class.{Class}
use Rattle.cb_tokens.specs.declared.class.Class.TheVariants as classes
use Rattle.cb_tokens.specs.Forms.{is_white, is_name_start, is_name_byte, is_quote, is_identifier, is_number, is_number_rest, is_quoted, closes, is_prefix_letter, is_character, is_string, is_punctuator, punctuators, is_unclosed, stays_unclosed, is_stray, is_white_run, begins_with, ends_comment, is_comment, is_open_comment, fits}
use Rattle.cb_tokens.specs.Cut.{StandsFirst}
use Rattle.cb_tokens.specs.inner.Classes.{class_of, BeginsIn}
use Rattle.cb_tokens.proofs.Punctuators.{of_punctuators}

-- a piece of the kind may begin with the byte
unfoldable pub start : PieceKind → ℕ → Bool
start White b = is_white b
start Comment b = b == 47
start LineEnd b = b == 10
start (Token Identifier) b = is_name_start b
start (Token Number) b = is_ascii_digit b || (b == 46)
start (Token Char) b = (b == 39) || is_prefix_letter b
start (Token Str) b = (b == 34) || is_prefix_letter b || (b == 117)
start (Token Punct) b = is_punctuator (b ∷ [])
start (Token Other) b = is_quote b || is_stray (b ∷ [])

pub begins_first : (f s b : ℕ) (bs : List ℕ) → begins_with f s (b ∷ bs) ≡ true → (b == f) ≡ true
unfolding begins_with
begins_first f s b [] h = absurd (false≢true h)
begins_first f s b (c ∷ cs) h = (and_parts (b == f) (c == s) h).0

stray_alone : (b : ℕ) (bs : List ℕ) → is_stray (b ∷ bs) ≡ true → is_stray (b ∷ []) ≡ true
unfolding is_stray
stray_alone b [] h = h
stray_alone b (c ∷ cs) h = absurd (false≢true h)

punctuator_first : (b : ℕ) (bs : List ℕ) → is_punctuator (b ∷ bs) ≡ true → is_punctuator (b ∷ []) ≡ true
unfolding is_punctuator punctuators
punctuator_first b bs h = of_punctuators (λ l. is_punctuator (get_or l 0 0 ∷ [])) refl (b ∷ bs) h

two : (x y z w : Bool) → (x && y || z && w) ≡ true → (x || z) ≡ true
two true y z w h = refl
two false y true w h = refl
two false y false w h = h

three : (x y z w u v t : Bool) → (x && y || z && w || u && v && t) ≡ true → (x || z || u) ≡ true
three true y z w u v t h = refl
three false y true w u v t h = refl
three false y false w true v t h = refl
three false y false w false v t h = h

one_of : (x y z w : Bool) → ((x || y && z) && w) ≡ true → (x || y) ≡ true
one_of true y z w h = refl
one_of false true z w h = refl
one_of false false z w h = h

pub starts : (k : PieceKind) (b : ℕ) (bs : List ℕ) → fits k (b ∷ bs) ≡ true → start k b ≡ true
unfolding start fits is_white_run is_comment is_identifier is_number is_character is_string is_quoted is_unclosed
starts White b bs h = (and_parts (is_white b) (list_all is_white bs) h).0
starts Comment b bs h =
    let line : Bool = list_all (λ b. not (is_line_feed b)) (drop 1 bs) in
    ⊎_elim (begins_first 47 42 b bs) (begins_first 47 47 b bs)
    (or_cases (begins_with 47 42 (b ∷ bs)) (begins_with 47 47 (b ∷ bs)) (two (begins_with 47 42 (b ∷ bs)) (ends_comment (drop 1 bs)) (begins_with 47 47 (b ∷ bs)) line h))
starts LineEnd b bs h = let e = (bytes_eq-Decides (b ∷ bs) (10 ∷ [])).0 h in let f : b ≡ 10 = cc in eq-eqb b 10 f
starts (Token Identifier) b bs h = (and_parts (is_name_start b) (list_all is_name_byte bs) h).0
starts (Token Number) b bs h = one_of (is_ascii_digit b) (b == 46) (is_ascii_digit (get_or bs 0 0)) (is_number_rest b bs) h
starts (Token Char) b bs h = two (b == 39) (closes 39 bs) (is_prefix_letter b) (is_quoted 39 bs) h
starts (Token Str) b bs h =
    three (b == 34) (closes 34 bs) (is_prefix_letter b) (is_quoted 34 bs) (b == 117) (get_or bs 0 0 == 56) (is_quoted 34 (drop 1 bs)) h
starts (Token Punct) b bs h = punctuator_first b bs h
starts (Token Other) b bs h =
    ⊎_elim (λ e. or_left (is_quote b) (is_stray (b ∷ [])) (and_parts (is_quote b) (stays_unclosed b bs) e).0) (λ e. or_right (is_quote b) (is_stray (b ∷ [])) (stray_alone b bs e))
    (or_cases (is_quote b && stays_unclosed b bs) (is_stray (b ∷ bs)) h)

-- a number for each kind, and back
code : PieceKind → ℕ
code White = 0
code Comment = 1
code LineEnd = 2
code (Token Identifier) = 3
code (Token Number) = 4
code (Token Char) = 5
code (Token Str) = 6
code (Token Punct) = 7
code (Token Other) = 8

decode : ℕ → PieceKind
decode n =
    cond (n == 0) White (cond (n == 1) Comment (cond (n == 2) LineEnd (cond (n == 3) (Token Identifier) (cond (n == 4) (Token Number)
    (cond (n == 5) (Token Char) (cond (n == 6) (Token Str) (cond (n == 7) (Token Punct) (Token Other))))))))

decode-code : (k : PieceKind) → decode (code k) ≡ k
unfolding code decode
decode-code White = refl
decode-code Comment = refl
decode-code LineEnd = refl
decode-code (Token Identifier) = refl
decode-code (Token Number) = refl
decode-code (Token Char) = refl
decode-code (Token Str) = refl
decode-code (Token Punct) = refl
decode-code (Token Other) = refl

-- the kinds of the pieces that may begin with a byte of the class
abbrev pub kinds : Class → List PieceKind
kinds classes.White = White ∷ []
kinds classes.LineFeed = LineEnd ∷ []
kinds classes.Name = Token Identifier ∷ []
kinds classes.Prefix = Token Identifier ∷ Token Char ∷ Token Str ∷ []
kinds classes.Digit = Token Number ∷ []
kinds classes.Point = Token Number ∷ Token Punct ∷ []
kinds classes.Slash = Comment ∷ Token Punct ∷ []
kinds classes.Quote = Token Char ∷ Token Str ∷ Token Other ∷ []
kinds classes.Single = Token Punct ∷ []
kinds classes.Operator = Token Punct ∷ []
kinds classes.Stray = Token Other ∷ []

-- P holds of each of the kinds
abbrev pub Each : (PieceKind → Type 0) → List PieceKind → Type 0
Each P [] = Unit {0}
Each P (k ∷ ks) = P k × Each P ks

pub holds : PieceKind → List PieceKind → Bool
holds k ks = list_any (λ j. code j == code k) ks

pub each_at : (P : PieceKind → Type 0) (k : PieceKind) (ks : List PieceKind) → holds k ks ≡ true → Each P ks → P k
unfolding holds
each_at P k [] h e = absurd (false≢true h)
each_at P k (j ∷ js) h e =
    ⊎_elim (λ s. subst P (sym (decode-code j) ∙ ap decode (eqb-true (code j) (code k) s) ∙ decode-code k) e.0) (λ s. each_at P k js s e.1)
    (or_cases (code j == code k) (holds k js) h)

test : PieceKind → ℕ → Bool
test k b = not (start k b) || holds k (kinds (class_of b))

table : (k : PieceKind) → agree_below (test k) (λ _. true) 256 ≡ true
unfolding test start holds code class_of is_white is_name_start is_prefix_letter is_quote is_punctuator punctuators is_stray
table White = refl
table Comment = refl
table LineEnd = refl
table (Token Identifier) = refl
table (Token Number) = refl
table (Token Char) = refl
table (Token Str) = refl
table (Token Punct) = refl
table (Token Other) = refl

implied : (x y : Bool) → (not x || y) ≡ true → x ≡ true → y ≡ true
implied true y h e = h
implied false y h e = absurd (false≢true e)

pub head_kinds : (k : PieceKind) (b : ℕ) → b < 256 → start k b ≡ true → holds k (kinds (class_of b)) ≡ true
unfolding test
head_kinds k b lt h = implied (start k b) (holds k (kinds (class_of b))) (agree_below_at (test k) (λ _. true) 256 b (table k) lt) h

-- no prefix that is a piece of the kind is longer
abbrev pub IsMost : List ℕ → ℕ → PieceKind → Type 0
IsMost xs n k = (m : ℕ) → m ≤ length xs → fits k (take m xs) ≡ true → m ≤ n

most : (c : Class) (xs : List ℕ) (n : ℕ) → BeginsIn c xs → Each (IsMost xs n) (kinds c) → (k : PieceKind) → IsMost xs n k
most c [] n b e k m le h = omega arith
most c (x ∷ xs) n b e k zero le h = omega arith
most c (x ∷ xs) n b e k (suc m) le h =
    each_at (IsMost (x ∷ xs) n) k (kinds c) (subst (λ d. holds k (kinds d) ≡ true) b.is (head_kinds k x b.byte (starts k x (take m xs) h))) e (suc m) le h

pub stands : (c : Class) (xs : List ℕ) (kind : PieceKind) (n : ℕ) → BeginsIn c xs → is_open_comment xs ≡ false → n ≤ length xs → fits kind (take n xs) ≡ true → Each (IsMost xs n) (kinds c) → StandsFirst xs (first.Piece kind n)
stands c xs kind n b closed within h e = (closed, record { within = within; holds = h; longest = most c xs n b e })
