-- Quiet bytes are cut into white space and tokens, and no piece goes on behind the end of a line or of white space.
use Rattle.std.proofs.Common.{◌≡◌, ℕ, suc, zero, ◌+◌, ◌-◌, ◌<◌, ◌≤◌, ◌==◌, Bool, true, false, not, ◌&&◌, ◌||◌, List, [], ◌∷◌, ◌++◌, length, get_or, take, drop, length-take-le, length-drop, get_or-drop, sym, refl, ap, ◌∙◌, subst, arith, inl, inr, ⊎_elim}
use Rattle.std.specs.List.{list_all, flat_map, prefix_len}
use Rattle.std.specs.Char.{is_ascii_digit}
use Rattle.std.proofs.lemmas.Bool.{false≢true, both_ways, and_parts, and_from, or_cases, or_left, or_right, eqb-true, not-true, cases_Bool, cases_lt, cases_order}
use Rattle.std.proofs.lemmas.Bool.Decides.{nat_tests}
use Rattle.std.proofs.lemmas.List.Folds.{list_all-append}
use Rattle.std.proofs.lemmas.Grind.{flat_map-append}
use Rattle.std.proofs.lemmas.List.{get_or-take, drop-map, drop-drop, length-map}
use Rattle.cb_lines.specs.declared.mark.Mark.{Mark}
use Rattle.cb_lines.specs.Marks.{bytes_of, is_line_feed}
use Rattle.cb_lines.specs.Lines.{StandOn}
use Rattle.cb_tokens.specs.declared.token.TokenKind.{TokenKind}
use Rattle.cb_tokens.specs.declared.token.TokenKind.TheVariants.{Identifier, Number, Char, Str, Punct, Other}
use Rattle.cb_tokens.specs.declared.token.PieceKind.{PieceKind}
use Rattle.cb_tokens.specs.declared.token.PieceKind.TheVariants.{White, Comment, LineEnd, Token}
use Rattle.cb_tokens.specs.declared.first.First.TheVariants as first
use Rattle.cb_tokens.specs.Forms.{is_white, is_name_start, is_name_byte, is_quote, is_identifier, is_number, is_number_rest, continues_number, is_prefix_letter, is_character, is_string, is_punctuator, punctuators, is_unclosed, is_stray, is_white_run, is_open_comment, fits, stays_unclosed}
use Rattle.cb_tokens.specs.declared.class.Class.TheVariants as classes
use Rattle.cb_tokens.specs.inner.Classes.{class_of}
use Rattle.cb_tokens.specs.Cut.{StandsFirst, Piece, Cuts}
use Rattle.cb_tokens.specs.Logical.{token_marks}
use Rattle.cb_tokens.specs.Plain.{is_quiet, is_plain, CutsPlain}
use Rattle.cb_tokens.specs.inner.Breaks.{is_apart, IsBreak, IsPlainTo, IsPlainOf, IsTokenAt}
use Rattle.cb_tokens.proofs.Punctuators.{of_punctuators}
use Rattle.cb_tokens.proofs.Heads.{start, starts}
use Rattle.cb_tokens.proofs.Arms.{no_slash_closed, white_stands}
use Rattle.cb_tokens.proofs.Prefixes.{all_prefix, prefix_within}
use Rattle.cb_tokens.proofs.Alike.{char_parts, string_parts}
use Rattle.cb_tokens.proofs.Cutting.{piece_at, piece_some, cuts_one, cuts_append}

-- what a quiet byte is not
quiet_parts : (b : ℕ) → is_quiet b ≡ true → (is_line_feed b ≡ false) × (is_quote b ≡ false) × ((b == 47) ≡ false)
unfolding is_quiet
quiet_parts b h =
    let none = not-true (is_line_feed b || is_quote b || (b == 47)) h in
    grind (arith)

white_is_no_feed : is_white 10 ≡ false
unfolding is_white
white_is_no_feed = refl

-- neither white nor an LF
unfoldable pub is_solid : ℕ → Bool
is_solid b = not (is_white b || is_line_feed b)

name_solid : (b : ℕ) → is_name_byte b ≡ true → is_solid b ≡ true
unfolding is_name_byte is_name_start is_solid is_white
name_solid b h = grind (arith, nat_tests)

continues_solid : (before b after : ℕ) → continues_number before b after ≡ true → is_solid b ≡ true
unfolding continues_number is_name_byte is_name_start is_solid is_white
continues_solid before b after h = grind (arith, nat_tests)

number_head_solid : (b : ℕ) (e : Bool) → (is_ascii_digit b || ((b == 46) && e)) ≡ true → is_solid b ≡ true
unfolding is_solid is_white
number_head_solid b e h = grind (arith, nat_tests)

pub prefix_solid : (b : ℕ) → is_prefix_letter b ≡ true → is_solid b ≡ true
unfolding is_prefix_letter is_solid is_white
prefix_solid b h = grind (arith, nat_tests)

start_solid : (b : ℕ) → is_name_start b ≡ true → is_solid b ≡ true
unfolding is_name_start is_solid is_white
start_solid b h = grind (arith, nat_tests)

names_solid : (l : List ℕ) → list_all is_name_byte l ≡ true → list_all is_solid l ≡ true
names_solid [] h = refl
names_solid (b ∷ bs) h =
    let p = and_parts (is_name_byte b) (list_all is_name_byte bs) h in
    and_from (is_solid b) (list_all is_solid bs) (name_solid b p.0) (names_solid bs p.1)

rest_solid : (before : ℕ) (l : List ℕ) → is_number_rest before l ≡ true → list_all is_solid l ≡ true
unfolding is_number_rest
rest_solid before [] h = refl
rest_solid before (b ∷ bs) h =
    let p = and_parts (continues_number before b (get_or bs 0 0)) (is_number_rest b bs) h in
    and_from (is_solid b) (list_all is_solid bs) (continues_solid before b (get_or bs 0 0) p.0) (rest_solid b bs p.1)

pub identifier_solid : (l : List ℕ) → is_identifier l ≡ true → list_all is_solid l ≡ true
unfolding is_identifier
identifier_solid [] h = absurd (false≢true h)
identifier_solid (b ∷ bs) h =
    let p = and_parts (is_name_start b) (list_all is_name_byte bs) h in
    and_from (is_solid b) (list_all is_solid bs) (start_solid b p.0) (names_solid bs p.1)

pub number_solid : (l : List ℕ) → is_number l ≡ true → list_all is_solid l ≡ true
unfolding is_number
number_solid [] h = absurd (false≢true h)
number_solid (b ∷ bs) h =
    let p = and_parts (is_ascii_digit b || ((b == 46) && is_ascii_digit (get_or bs 0 0))) (is_number_rest b bs) h in
    and_from (is_solid b) (list_all is_solid bs) (number_head_solid b (is_ascii_digit (get_or bs 0 0)) p.0) (rest_solid b bs p.1)

pub punctuator_solid : (l : List ℕ) → is_punctuator l ≡ true → list_all is_solid l ≡ true
unfolding punctuators is_solid is_white
punctuator_solid l h = of_punctuators (list_all is_solid) refl l h

all_at : (p : ℕ → Bool) (l : List ℕ) (k : ℕ) → list_all p l ≡ true → k < length l → p (get_or l k 0) ≡ true
all_at p [] k h lt = absurd (omega arith)
all_at p (b ∷ bs) zero h lt = (and_parts (p b) (list_all p bs) h).0
all_at p (b ∷ bs) (suc k) h lt = all_at p bs k (and_parts (p b) (list_all p bs) h).1 (omega arith)

pub taken_at : (p : ℕ → Bool) (bs : List ℕ) (m k : ℕ) → m ≤ length bs → list_all p (take m bs) ≡ true → k < m → p (get_or bs k 0) ≡ true
taken_at p bs m k le h lt =
    ap p (sym (get_or-take m bs k 0 lt)) ∙ all_at p (take m bs) k h (let e = length-take-le m bs le in omega arith)

-- no byte stands apart from the one before it
unfoldable joined : List ℕ → Bool
joined [] = true
joined (a ∷ []) = true
joined (a ∷ b ∷ l) = not (is_apart a b) && joined (b ∷ l)

joined_at : (l : List ℕ) (k : ℕ) → joined l ≡ true → suc k < length l → is_apart (get_or l k 0) (get_or l (suc k) 0) ≡ false
unfolding joined
joined_at [] k h lt = absurd (omega arith)
joined_at (a ∷ []) k h lt = absurd (omega arith)
joined_at (a ∷ b ∷ l) zero h lt = not-true (is_apart a b) (and_parts (not (is_apart a b)) (joined (b ∷ l)) h).0
joined_at (a ∷ b ∷ l) (suc k) h lt = joined_at (b ∷ l) k (and_parts (not (is_apart a b)) (joined (b ∷ l)) h).1 (omega arith)

taken_joined : (bs : List ℕ) (m k : ℕ) → m ≤ length bs → joined (take m bs) ≡ true → suc k < m → is_apart (get_or bs k 0) (get_or bs (suc k) 0) ≡ false
taken_joined bs m k le h lt =
    let first : get_or (take m bs) k 0 ≡ get_or bs k 0 = get_or-take m bs k 0 (omega arith) in
    let second : get_or (take m bs) (suc k) 0 ≡ get_or bs (suc k) 0 = get_or-take m bs (suc k) 0 lt in
    ap (λ (x : ℕ). is_apart x (get_or bs (suc k) 0)) (sym first) ∙ ap (is_apart (get_or (take m bs) k 0)) (sym second)
    ∙ joined_at (take m bs) k h (let e = length-take-le m bs le in omega arith)

name_joined : (a b : ℕ) → is_name_byte b ≡ true → not (is_apart a b) ≡ true
unfolding is_apart is_name_byte is_name_start is_quote
name_joined a b h = grind (arith, nat_tests)

other_joined : (a b : ℕ) → ((b == 46) || ((b == 43) || (b == 45))) ≡ true → not (is_apart a b) ≡ true
unfolding is_apart is_quote
other_joined a b h = grind (arith, nat_tests)

mark_joined : (a b : ℕ) → (b == 39) ≡ true → is_name_byte a ≡ true → not (is_apart a b) ≡ true
unfolding is_apart is_quote
mark_joined a b h g = rw (eqb-true b 39 h, g) refl

continues_joined : (before b after : ℕ) → continues_number before b after ≡ true → not (is_apart before b) ≡ true
unfolding continues_number
continues_joined before b after h =
    let signs : Bool = (b == 43) || (b == 45) in
    let exponents : Bool = (before == 101) || (before == 69) || (before == 112) || (before == 80) in
    ⊎_elim
    (λ h.
    ⊎_elim
    (λ h. ⊎_elim (name_joined before b) (λ e. other_joined before b (or_left (b == 46) signs e)) (or_cases (is_name_byte b) (b == 46) h))
    (λ e. other_joined before b (or_right (b == 46) signs (and_parts signs exponents e).0))
    (or_cases (is_name_byte b || (b == 46)) (signs && exponents) h))
    (λ e.
    let p = and_parts ((b == 39) && is_name_byte before) (is_name_byte after) e in
    let q = and_parts (b == 39) (is_name_byte before) p.0 in
    mark_joined before b q.0 q.1)
    (or_cases (is_name_byte b || (b == 46) || (signs && exponents)) ((b == 39) && is_name_byte before && is_name_byte after) h)

names_joined : (a : ℕ) (l : List ℕ) → list_all is_name_byte l ≡ true → joined (a ∷ l) ≡ true
unfolding joined
names_joined a [] h = refl
names_joined a (b ∷ bs) h =
    let p = and_parts (is_name_byte b) (list_all is_name_byte bs) h in
    and_from (not (is_apart a b)) (joined (b ∷ bs)) (name_joined a b p.0) (names_joined b bs p.1)

rest_joined : (before : ℕ) (l : List ℕ) → is_number_rest before l ≡ true → joined (before ∷ l) ≡ true
unfolding is_number_rest joined
rest_joined before [] h = refl
rest_joined before (b ∷ bs) h =
    let p = and_parts (continues_number before b (get_or bs 0 0)) (is_number_rest b bs) h in
    and_from (not (is_apart before b)) (joined (b ∷ bs)) (continues_joined before b (get_or bs 0 0) p.0) (rest_joined b bs p.1)

identifier_joined : (l : List ℕ) → is_identifier l ≡ true → joined l ≡ true
unfolding is_identifier
identifier_joined [] h = absurd (false≢true h)
identifier_joined (b ∷ bs) h = names_joined b bs (and_parts (is_name_start b) (list_all is_name_byte bs) h).1

number_joined : (l : List ℕ) → is_number l ≡ true → joined l ≡ true
unfolding is_number
number_joined [] h = absurd (false≢true h)
number_joined (b ∷ bs) h = rest_joined b bs (and_parts (is_ascii_digit b || ((b == 46) && is_ascii_digit (get_or bs 0 0))) (is_number_rest b bs) h).1

punctuator_joined : (l : List ℕ) → is_punctuator l ≡ true → joined l ≡ true
unfolding punctuators joined is_apart is_quote is_name_byte is_name_start
punctuator_joined l h = of_punctuators joined refl l h

white_joined : (a b : ℕ) → is_white b ≡ true → is_apart a b ≡ false
unfolding is_white is_apart is_quote
white_joined a b h = grind (arith, nat_tests)

quote_no_slash : (q : ℕ) → is_quote q ≡ true → (q == 47) ≡ false
unfolding is_quote
quote_no_slash q h = grind (arith, nat_tests)

quote_joined : (a q : ℕ) → is_quote q ≡ true → is_name_byte a ≡ true → is_apart a q ≡ false
unfolding is_apart
quote_joined a q h g = let other = quote_no_slash q h in rw (other, h, g) refl

feed_not_solid : is_solid 10 ≡ false
unfolding is_solid is_white
feed_not_solid = refl

white_not_solid : (b : ℕ) → is_white b ≡ true → is_solid b ≡ false
unfolding is_solid
white_not_solid b h = rw h refl

-- solid bytes that stand not apart do not go over it, nor white ones
solid_stops : (bs : List ℕ) (n m : ℕ) → IsBreak bs n → m ≤ length bs → list_all is_solid (take m bs) ≡ true → joined (take m bs) ≡ true → n < m → ⊥
solid_stops bs n m b le h j lt =
    let some = b.some in
    ⊎_elim (λ e. both_ways (is_solid (get_or bs n 0)) (ap is_solid e ∙ feed_not_solid) (taken_at is_solid bs m n le h lt))
    (⊎_elim (λ e. both_ways (is_solid (get_or bs (n - 1) 0)) (white_not_solid (get_or bs (n - 1) 0) e.0) (taken_at is_solid bs m (n - 1) le h (omega arith)))
    (λ e.
    let back : suc (n - 1) ≡ n = omega arith in
    both_ways (is_apart (get_or bs (n - 1) 0) (get_or bs n 0))
    (subst (λ (i : ℕ). is_apart (get_or bs (n - 1) 0) (get_or bs i 0) ≡ false) back (taken_joined bs m (n - 1) le j (omega arith))) e)) b.ends

white_stops : (bs : List ℕ) (n m : ℕ) → IsBreak bs n → m ≤ length bs → list_all is_white (take m bs) ≡ true → n < m → ⊥
white_stops bs n m b le h lt =
    let white : is_white (get_or bs n 0) ≡ true = taken_at is_white bs m n le h lt in
    ⊎_elim (λ e. both_ways (is_white (get_or bs n 0)) (ap is_white e ∙ white_is_no_feed) white)
    (⊎_elim (λ e. both_ways (is_white (get_or bs n 0)) e.1 white)
    (λ e. both_ways (is_apart (get_or bs (n - 1) 0) (get_or bs n 0)) (white_joined (get_or bs (n - 1) 0) (get_or bs n 0) white) e)) b.ends

-- a quote does not stand before it, nor at it behind a name's byte
quote_stops : (bs : List ℕ) (n q k : ℕ) → IsBreak bs n → is_quote q ≡ true → (q ≡ 10 → ⊥) → get_or bs (k + 1) 0 ≡ q → is_name_byte (get_or bs k 0) ≡ true → k < n → ⊥
quote_stops bs n q k b quote other is name lt =
    elim (cases_order (k + 1) n) [
      | inl same ↦ (
          let here_ : get_or bs n 0 ≡ q = sym (ap (λ (i : ℕ). get_or bs i 0) same) ∙ is in
          let before : n - 1 ≡ k = omega arith in
          let named : is_name_byte (get_or bs (n - 1) 0) ≡ true = ap (λ (i : ℕ). is_name_byte (get_or bs i 0)) before ∙ name in
          ⊎_elim (λ e. other (sym here_ ∙ e))
          (⊎_elim (λ e. both_ways (is_solid (get_or bs (n - 1) 0)) (white_not_solid (get_or bs (n - 1) 0) e.0) (name_solid (get_or bs (n - 1) 0) named))
          (λ e. both_ways (is_apart (get_or bs (n - 1) 0) (get_or bs n 0)) (quote_joined (get_or bs (n - 1) 0) (get_or bs n 0) (ap is_quote here_ ∙ quote) named) e)) b.ends
          )
      | inr differ ↦ (let inside : k + 1 < n = omega (arith, differ) in both_ways (is_quote (get_or bs (k + 1) 0)) (quiet_parts (get_or bs (k + 1) 0) (b.quiet (k + 1) inside)).1 (ap is_quote is ∙ quote))
    ]

quote_39 : is_quote 39 ≡ true
unfolding is_quote
quote_39 = refl

quote_34 : is_quote 34 ≡ true
unfolding is_quote
quote_34 = refl

-- what is there in a part is there in the whole
taken_or : (m k q : ℕ) (xs : List ℕ) → get_or (take m xs) k 0 ≡ suc q → get_or xs k 0 ≡ suc q
taken_or zero k q xs h = absurd (omega arith)
taken_or (suc m) k q [] h = absurd (omega arith)
taken_or (suc m) zero q (x ∷ xs) h = h
taken_or (suc m) (suc k) q (x ∷ xs) h = taken_or m k q xs h

u_solid : is_solid 117 ≡ true
unfolding is_solid is_white
u_solid = refl

eight_named : is_name_byte 56 ≡ true
unfolding is_name_byte is_name_start
eight_named = refl

eight_joined : (a : ℕ) → is_apart a 56 ≡ false
unfolding is_apart is_quote
eight_joined a = refl

prefix_named : (b : ℕ) → is_prefix_letter b ≡ true → is_name_byte b ≡ true
unfolding is_prefix_letter is_name_byte is_name_start
prefix_named b h =
    ⊎_elim (λ h. ⊎_elim (λ e. ap is_name_byte (eqb-true b 76 e)) (λ e. ap is_name_byte (eqb-true b 117 e)) (or_cases (b == 76) (b == 117) h))
    (λ e. ap is_name_byte (eqb-true b 85 e)) (or_cases ((b == 76) || (b == 117)) (b == 85) h)

-- a character constant or a string that begins with a letter
letter_char : (bs : List ℕ) (n m : ℕ) → IsBreak bs n → m ≤ length bs → is_character (take m bs) ≡ true → n < m → ⊥
letter_char [] n m b le h lt = absurd (omega (arith, b.within))
letter_char (x ∷ xs) n zero b le h lt = absurd (omega arith)
letter_char (x ∷ xs) n (suc m) b le h lt =
    let some = b.some in
    let quiet = quiet_parts x (b.quiet 0 (omega arith)) in
    ⊎_elim (λ e. both_ways (is_quote x) quiet.1 (ap is_quote e.0 ∙ quote_39))
    (λ e. quote_stops (x ∷ xs) n 39 0 b quote_39 (λ i. omega arith) (taken_or m 0 38 xs e.2) (prefix_named x e.0) (omega arith)) (char_parts x (take m xs) h)

u8_string : (x : ℕ) (xs : List ℕ) (n m : ℕ) → IsBreak (x ∷ xs) n → x ≡ 117 → get_or xs 0 0 ≡ 56 → get_or (drop 1 (take m xs)) 0 0 ≡ 34 → ⊥
u8_string x xs n m b u eight quote =
    let some = b.some in
    let third : get_or (x ∷ xs) 2 0 ≡ 34 = taken_or m 1 33 xs (sym (get_or-drop 1 (take m xs) 0 0) ∙ quote) in
    elim (cases_order 1 n) [
      | inl same ↦ ⊎_elim (λ e. let f : get_or xs 0 0 ≡ 10 = ap (λ (i : ℕ). get_or (x ∷ xs) i 0) same ∙ e in omega arith)
          (⊎_elim (λ e. let before : n - 1 ≡ 0 = omega arith in both_ways (is_solid x) (white_not_solid x (subst (λ (i : ℕ). is_white (get_or (x ∷ xs) i 0) ≡ true) before e.0)) (ap is_solid u ∙ u_solid))
          (λ e.
          let here_ : get_or (x ∷ xs) n 0 ≡ 56 = sym (ap (λ (i : ℕ). get_or (x ∷ xs) i 0) same) ∙ eight in
          both_ways (is_apart (get_or (x ∷ xs) (n - 1) 0) (get_or (x ∷ xs) n 0)) (ap (is_apart (get_or (x ∷ xs) (n - 1) 0)) here_ ∙ eight_joined (get_or (x ∷ xs) (n - 1) 0)) e)) b.ends
      | inr differ ↦ quote_stops (x ∷ xs) n 34 1 b quote_34 (λ i. omega arith) third (ap is_name_byte eight ∙ eight_named) (omega (arith, differ))
    ]

letter_string : (bs : List ℕ) (n m : ℕ) → IsBreak bs n → m ≤ length bs → is_string (take m bs) ≡ true → n < m → ⊥
letter_string [] n m b le h lt = absurd (omega (arith, b.within))
letter_string (x ∷ xs) n zero b le h lt = absurd (omega arith)
letter_string (x ∷ xs) n (suc m) b le h lt =
    let some = b.some in
    let quiet = quiet_parts x (b.quiet 0 (omega arith)) in
    ⊎_elim (λ e. both_ways (is_quote x) quiet.1 (ap is_quote e.0 ∙ quote_34))
    (λ d.
    ⊎_elim (λ e. quote_stops (x ∷ xs) n 34 0 b quote_34 (λ i. omega arith) (taken_or m 0 33 xs e.2) (prefix_named x e.0) (omega arith))
    (λ e. u8_string x xs n m b e.0 (taken_or m 0 55 xs e.1) e.3) d)
    (string_parts x (take m xs) h)

-- no piece goes over it
unclosed_stops : (bs : List ℕ) (n m : ℕ) → IsBreak bs n → m ≤ length bs → is_unclosed (take m bs) ≡ true → n < m → ⊥
unfolding is_unclosed
unclosed_stops [] n m b le h lt = omega (arith, b.within)
unclosed_stops (x ∷ xs) n zero b le h lt = omega arith
unclosed_stops (x ∷ xs) n (suc m) b le h lt =
    let some = b.some in
    both_ways (is_quote x) (quiet_parts x (b.quiet 0 (omega arith))).1 (and_parts (is_quote x) (stays_unclosed x (take m xs)) h).0

stray_stops : (bs : List ℕ) (n m : ℕ) → IsBreak bs n → m ≤ length bs → is_stray (take m bs) ≡ true → n < m → ⊥
unfolding is_stray
stray_stops [] n m b le h lt = omega (arith, b.within)
stray_stops (x ∷ xs) n zero b le h lt = omega arith
stray_stops (x ∷ xs) n (suc zero) b le h lt = omega (arith, b.some)
stray_stops (x ∷ []) n (suc (suc m)) b le h lt = omega arith
stray_stops (x ∷ y ∷ xs) n (suc (suc m)) b le h lt = false≢true h

-- the piece at the front is white space or a token
front_plain_by : (k : PieceKind) (x : ℕ) → is_quiet x ≡ true → start k x ≡ true → is_plain k ≡ true
unfolding start
front_plain_by White x q h = refl
front_plain_by Comment x q h = absurd (both_ways (x == 47) (quiet_parts x q).2 h)
front_plain_by LineEnd x q h = absurd (both_ways (x == 10) (quiet_parts x q).0 h)
front_plain_by (Token k) x q h = refl

front_plain : (bs : List ℕ) (n m : ℕ) (k : PieceKind) → IsBreak bs n → 0 < m → fits k (take m bs) ≡ true → is_plain k ≡ true
front_plain [] n m k b some h = absurd (omega (arith, b.within))
front_plain (x ∷ xs) n zero k b some h = absurd (omega arith)
front_plain (x ∷ xs) n (suc m) k b some h =
    let more = b.some in front_plain_by k x (b.quiet 0 (omega arith)) (starts k x (take m xs) h)

white_all : (l : List ℕ) → is_white_run l ≡ true → list_all is_white l ≡ true
unfolding is_white_run
white_all [] h = refl
white_all (x ∷ xs) h = h

piece_stops : (bs : List ℕ) (n m : ℕ) (k : PieceKind) → IsBreak bs n → m ≤ length bs → is_plain k ≡ true → fits k (take m bs) ≡ true → n < m → ⊥
unfolding fits
piece_stops bs n m White b le plain h lt = white_stops bs n m b le (white_all (take m bs) h) lt
piece_stops bs n m Comment b le plain h lt = false≢true plain
piece_stops bs n m LineEnd b le plain h lt = false≢true plain
piece_stops bs n m (Token Identifier) b le plain h lt = solid_stops bs n m b le (identifier_solid (take m bs) h) (identifier_joined (take m bs) h) lt
piece_stops bs n m (Token Number) b le plain h lt = solid_stops bs n m b le (number_solid (take m bs) h) (number_joined (take m bs) h) lt
piece_stops bs n m (Token Char) b le plain h lt = letter_char bs n m b le h lt
piece_stops bs n m (Token Str) b le plain h lt = letter_string bs n m b le h lt
piece_stops bs n m (Token Punct) b le plain h lt = solid_stops bs n m b le (punctuator_solid (take m bs) h) (punctuator_joined (take m bs) h) lt
piece_stops bs n m (Token Other) b le plain h lt =
    ⊎_elim (λ e. unclosed_stops bs n m b le e lt) (λ e. stray_stops bs n m b le e lt) (or_cases (is_unclosed (take m bs)) (is_stray (take m bs)) h)

-- the longest of the prefixes that pass a test, where one does
record Best (f : List ℕ → Bool) (bs : List ℕ) (n : ℕ) : Type 0 where
  pub len : ℕ
  pub within : len ≤ n
  pub holds : f (take len bs) ≡ true
  pub longest : (j : ℕ) → j ≤ n → f (take j bs) ≡ true → j ≤ len

best : (f : List ℕ → Bool) (bs : List ℕ) (n j : ℕ) → j ≤ n → f (take j bs) ≡ true → Best f bs n
best f bs zero j le h =
    let none : j ≡ 0 = omega arith in
    record { len = 0; within = omega arith; holds = subst (λ (i : ℕ). f (take i bs) ≡ true) none h; longest = λ i l g. l }
best f bs (suc n) j le h =
    elim (cases_Bool (f (take (suc n) bs))) [
      | inl yes_ ↦ record { len = suc n; within = omega arith; holds = yes_; longest = λ i l g. l }
      | inr not_ ↦ (
          let below : (i : ℕ) → i ≤ suc n → f (take i bs) ≡ true → i ≤ n = λ i l g.
          elim (cases_order i (suc n)) [
            | inl same ↦ absurd (both_ways (f (take (suc n) bs)) not_ (subst (λ (k : ℕ). f (take k bs) ≡ true) same g))
            | inr differ ↦ omega (arith, differ)
          ] in
          let b = best f bs n j (below j le h) h in
          record { len = b.len; within = let w = b.within in omega arith; holds = b.holds; longest = λ i l g. b.longest i (below i l g) g }
          )
    ]

-- some form fits
abbrev kinds9 : List PieceKind
kinds9 = Token Other ∷ []

abbrev kinds8 : List PieceKind
kinds8 = Token Punct ∷ kinds9

abbrev kinds7 : List PieceKind
kinds7 = Token Str ∷ kinds8

abbrev kinds6 : List PieceKind
kinds6 = Token Char ∷ kinds7

abbrev kinds5 : List PieceKind
kinds5 = Token Number ∷ kinds6

abbrev kinds4 : List PieceKind
kinds4 = Token Identifier ∷ kinds5

abbrev kinds3 : List PieceKind
kinds3 = LineEnd ∷ kinds4

abbrev kinds2 : List PieceKind
kinds2 = Comment ∷ kinds3

abbrev kinds1 : List PieceKind
kinds1 = White ∷ kinds2

unfoldable fits_any : List PieceKind → List ℕ → Bool
fits_any [] l = false
fits_any (k ∷ ks) l = fits k l || fits_any ks l

here : (k : PieceKind) (ks : List PieceKind) (l : List ℕ) → fits k l ≡ true → fits_any (k ∷ ks) l ≡ true
unfolding fits_any
here k ks l h = or_left (fits k l) (fits_any ks l) h

there : (k : PieceKind) (ks : List PieceKind) (l : List ℕ) → fits_any ks l ≡ true → fits_any (k ∷ ks) l ≡ true
unfolding fits_any
there k ks l h = or_right (fits k l) (fits_any ks l) h

any_kind : (k : PieceKind) (l : List ℕ) → fits k l ≡ true → fits_any kinds1 l ≡ true
any_kind White l h = here White kinds2 l h
any_kind Comment l h = there White kinds2 l (here Comment kinds3 l h)
any_kind LineEnd l h = there White kinds2 l (there Comment kinds3 l (here LineEnd kinds4 l h))
any_kind (Token Identifier) l h = there White kinds2 l (there Comment kinds3 l (there LineEnd kinds4 l (here (Token Identifier) kinds5 l h)))
any_kind (Token Number) l h =
    there White kinds2 l (there Comment kinds3 l (there LineEnd kinds4 l (there (Token Identifier) kinds5 l (here (Token Number) kinds6 l h))))
any_kind (Token Char) l h =
    there White kinds2 l (there Comment kinds3 l (there LineEnd kinds4 l (there (Token Identifier) kinds5 l (there (Token Number) kinds6 l (here (Token Char) kinds7 l h)))))
any_kind (Token Str) l h =
    there White kinds2 l (there Comment kinds3 l (there LineEnd kinds4 l (there (Token Identifier) kinds5 l (there (Token Number) kinds6 l (there (Token Char) kinds7 l (here (Token Str) kinds8 l h))))))
any_kind (Token Punct) l h =
    there White kinds2 l (there Comment kinds3 l (there LineEnd kinds4 l (there (Token Identifier) kinds5 l (there (Token Number) kinds6 l (there (Token Char) kinds7 l (there (Token Str) kinds8 l (here (Token Punct) kinds9 l h)))))))
any_kind (Token Other) l h =
    there White kinds2 l (there Comment kinds3 l (there LineEnd kinds4 l (there (Token Identifier) kinds5 l (there (Token Number) kinds6 l (there (Token Char) kinds7 l (there (Token Str) kinds8 l (there (Token Punct) kinds9 l (here (Token Other) [] l h))))))))

some_kind : (ks : List PieceKind) (l : List ℕ) → fits_any ks l ≡ true → (k : PieceKind) × (fits k l ≡ true)
unfolding fits_any
some_kind [] l h = absurd (false≢true h)
some_kind (k ∷ ks) l h = ⊎_elim (λ e. (k, e)) (λ e. some_kind ks l e) (or_cases (fits k l) (fits_any ks l) h)

stray_fits : (x : ℕ) → is_white x ≡ false → is_line_feed x ≡ false → is_name_start x ≡ false → is_ascii_digit x ≡ false → is_quote x ≡ false → is_punctuator (x ∷ []) ≡ false → is_stray (x ∷ []) ≡ true
unfolding is_stray
stray_fits x w f s d q p = rw (w, f, s, d, q, p) refl

byte_fits : (x : ℕ) → is_quiet x ≡ true → fits_any kinds1 (x ∷ []) ≡ true
unfolding fits is_white_run is_identifier is_number is_number_rest
byte_fits x h =
    let quiet = quiet_parts x h in
    elim (cases_Bool (is_white x)) [
      | inl w ↦ any_kind White (x ∷ []) (and_from (is_white x) true w refl)
      | inr w ↦ elim (cases_Bool (is_name_start x)) [
        | inl s ↦ any_kind (Token Identifier) (x ∷ []) (and_from (is_name_start x) true s refl)
        | inr s ↦ elim (cases_Bool (is_ascii_digit x)) [
          | inl d ↦ any_kind (Token Number) (x ∷ []) (and_from (is_ascii_digit x || ((x == 46) && is_ascii_digit 0)) true (or_left (is_ascii_digit x) ((x == 46) && is_ascii_digit 0) d) refl)
          | inr d ↦ elim (cases_Bool (is_punctuator (x ∷ []))) [
            | inl p ↦ any_kind (Token Punct) (x ∷ []) p
            | inr p ↦ any_kind (Token Other) (x ∷ []) (or_right (is_unclosed (x ∷ [])) (is_stray (x ∷ [])) (stray_fits x w quiet.0 s d quiet.1 p))
          ]
        ]
      ]
    ]

-- the piece at the front of the bytes before a break
record Front (bs : List ℕ) (n : ℕ) : Type 0 where
  pub kind : PieceKind
  pub len : ℕ
  pub stands : StandsFirst bs (first.Piece kind len)
  pub plain : is_plain kind ≡ true
  pub within : len ≤ n

closed_front : (bs : List ℕ) (n : ℕ) → IsBreak bs n → is_open_comment bs ≡ false
closed_front bs n b = let some = b.some in no_slash_closed bs (quiet_parts (get_or bs 0 0) (b.quiet 0 (omega arith))).2

first_fits : (bs : List ℕ) (n : ℕ) → IsBreak bs n → fits_any kinds1 (take 1 bs) ≡ true
first_fits [] n b = absurd (omega (arith, b.within))
first_fits (x ∷ xs) n b = let some = b.some in byte_fits x (b.quiet 0 (omega arith))

front : (bs : List ℕ) (n : ℕ) → IsBreak bs n → Front bs n
front bs n b =
    let some = b.some in
    let within = b.within in
    let f : List ℕ → Bool = fits_any kinds1 in
    let most = best f bs (length bs) 1 (omega arith) (first_fits bs n b) in
    let one : 1 ≤ most.len = most.longest 1 (omega arith) (first_fits bs n b) in
    let kind = some_kind kinds1 (take most.len bs) most.holds in
    let plain = front_plain bs n most.len kind.0 b (omega arith) kind.1 in
    record {
      kind = kind.0;
      len = most.len;
      stands = (closed_front bs n b, record { within = most.within; holds = kind.1; longest = λ k m le h. most.longest m le (any_kind k (take m bs) h) });
      plain = plain;
      within = elim (cases_lt n most.len) [ inl lt ↦ absurd (piece_stops bs n most.len kind.0 b most.within plain kind.1 lt) | inr ge ↦ ge ];
    }

-- what is left behind a piece
behind_break : (bs : List ℕ) (n m : ℕ) → IsBreak bs n → m < n → IsBreak (drop m bs) (n - m)
behind_break bs n m b lt =
    let within = b.within in
    let at : (k : ℕ) → get_or (drop m bs) k 0 ≡ get_or bs (m + k) 0 = λ k. get_or-drop m bs k 0 in
    let e : m + (n - m) ≡ n = omega arith in
    let f : m + (n - m - 1) ≡ n - 1 = omega arith in
    let here_ : get_or (drop m bs) (n - m) 0 ≡ get_or bs n 0 = at (n - m) ∙ ap (λ (i : ℕ). get_or bs i 0) e in
    let before : get_or (drop m bs) (n - m - 1) 0 ≡ get_or bs (n - 1) 0 = at (n - m - 1) ∙ ap (λ (i : ℕ). get_or bs i 0) f in
    record {
      some = omega arith;
      within = omega (arith, length-drop m bs);
      quiet = λ k l. ap is_quiet (at k) ∙ b.quiet (m + k) (omega arith);
      ends = ⊎_elim (λ h. inl (here_ ∙ h))
          (⊎_elim (λ h. inr (inl (ap is_white before ∙ h.0, ap is_white here_ ∙ h.1)))
          (λ h. inr (inr (ap (λ (x : ℕ). is_apart x (get_or (drop m bs) (n - m) 0)) before ∙ ap (is_apart (get_or bs (n - 1) 0)) here_ ∙ h)))) b.ends;
    }

-- marks that stand on a line
StandOn-append : (line : ℕ) (xs ys : List Mark) → StandOn line xs → StandOn line ys → StandOn line (xs ++ ys)
StandOn-append line [] ys h g = g
StandOn-append line (x ∷ xs) ys h g = (h.0, StandOn-append line xs ys h.1 g)

StandOn-take : (line : ℕ) (m n : ℕ) (ms : List Mark) → m ≤ n → StandOn line (take n ms) → StandOn line (take m ms)
StandOn-take line zero n ms le h = tt
StandOn-take line (suc m) zero ms le h = absurd (omega arith)
StandOn-take line (suc m) (suc n) [] le h = tt
StandOn-take line (suc m) (suc n) (x ∷ ms) le h = (h.0, StandOn-take line m n ms (omega arith) h.1)

StandOn-drop : (line : ℕ) (m n : ℕ) (ms : List Mark) → StandOn line (take (m + n) ms) → StandOn line (take n (drop m ms))
StandOn-drop line zero n ms h = let e : 0 + n ≡ n = omega arith in subst (λ (k : ℕ). StandOn line (take k ms)) e h
StandOn-drop line (suc m) zero [] h = tt
StandOn-drop line (suc m) (suc n) [] h = tt
StandOn-drop line (suc m) n (x ∷ ms) h =
    let e : suc m + n ≡ suc (m + n) = omega arith in
    let g : StandOn line (take (suc (m + n)) (x ∷ ms)) = subst (λ (k : ℕ). StandOn line (take k (x ∷ ms))) e h in
    StandOn-drop line m n ms g.1

-- the marks of the tokens of pieces
abbrev solid : List Piece → List Mark
solid ps = flat_map (λ p. token_marks p.kind p.marks) ps

token_on_line : (k : PieceKind) (line : ℕ) (ms : List Mark) → StandOn line ms → StandOn line (token_marks k ms)
token_on_line White line ms h = tt
token_on_line Comment line ms h = tt
token_on_line LineEnd line ms h = tt
token_on_line (Token k) line ms h = h

same_bytes : (m : ℕ) (ms : List Mark) → bytes_of (drop m ms) ≡ drop m (bytes_of ms)
same_bytes m ms = sym (drop-map (λ (x : Mark). x.byte) m ms)

none_more : (ms : List Mark) (n : ℕ) → IsPlainTo (drop n ms) 0
none_more ms n = record { pieces = []; cut = refl; plain = refl; on_line = λ line h. tt }

one_more : (ms : List Mark) (n : ℕ) (f : Front (bytes_of ms) n) → IsPlainTo (drop f.len ms) (n - f.len) → IsPlainTo ms n
one_more ms n f r =
    let within = f.within in
    let p = piece_at f.kind f.len ms in
    let e : n - f.len + f.len ≡ n = omega arith in
    let e2 : f.len + (n - f.len) ≡ n = omega arith in
    let rest : drop (n - f.len) (drop f.len ms) ≡ drop n ms = drop-drop (n - f.len) f.len ms ∙ ap (λ (k : ℕ). drop k ms) e2 in
    record {
      pieces = p ∷ r.pieces;
      cut = cuts_append ms (p ∷ []) (drop f.len ms) r.pieces (drop n ms) (cuts_one ms f.kind f.len f.stands) (subst (λ (x : List Mark). Cuts (drop f.len ms) r.pieces x) rest r.cut);
      plain = and_from (is_plain f.kind) (list_all (λ (p : Piece). is_plain p.kind) r.pieces) f.plain r.plain;
      on_line = λ line h. StandOn-append line (token_marks f.kind (take f.len ms)) (solid r.pieces)
          (token_on_line f.kind line (take f.len ms) (StandOn-take line f.len n ms f.within h))
          (r.on_line line (StandOn-drop line f.len (n - f.len) ms (subst (λ (k : ℕ). StandOn line (take k ms)) (sym e2) h)));
    }

pieces_to : (fuel n : ℕ) (ms : List Mark) → n ≤ fuel → IsBreak (bytes_of ms) n → IsPlainTo ms n
pieces_to zero n ms le b = absurd (omega (arith, b.some))
pieces_to (suc fuel) n ms le b =
    let f = front (bytes_of ms) n b in
    let some : 0 < f.len = piece_some (bytes_of ms) f.kind f.len f.stands in
    elim (cases_lt f.len n) [
      | inl lt ↦ one_more ms n f (pieces_to fuel (n - f.len) (drop f.len ms) (omega arith) (subst (λ (bs : List ℕ). IsBreak bs (n - f.len)) (sym (same_bytes f.len ms)) (behind_break (bytes_of ms) n f.len b lt)))
      | inr ge ↦ (let w = f.within in let z : 0 ≡ n - f.len = omega arith in one_more ms n f (subst (λ (k : ℕ). IsPlainTo (drop f.len ms) k) z (none_more ms f.len)))
    ]

-- the first piece is a token
white_front : (bs : List ℕ) (m : ℕ) → 0 < m → fits White (take m bs) ≡ true → 0 < length bs → is_white (get_or bs 0 0) ≡ true
unfolding start
white_front bs zero some h full = absurd (omega arith)
white_front [] (suc m) some h full = absurd (omega arith)
white_front (x ∷ xs) (suc m) some h full = starts White x (take m xs) h

by_kind : (k : PieceKind) (marks : List Mark) (ms : List Mark) (n : ℕ) (ps : List Piece) → is_white (get_or (bytes_of ms) 0 0) ≡ false → 0 < length (bytes_of ms)
    → Cuts ms (record { kind = k; marks = marks } ∷ ps) (drop n ms) → (is_plain k && list_all (λ (p : Piece). is_plain p.kind) ps) ≡ true
    → ((line : ℕ) → StandOn line (take n ms) → StandOn line (solid (record { kind = k; marks = marks } ∷ ps))) → CutsPlain ms n
by_kind White marks ms n ps head full cut plain on_line =
    absurd (both_ways (is_white (get_or (bytes_of ms) 0 0)) head (white_front (bytes_of ms) (length marks) (piece_some (bytes_of ms) White (length marks) cut.0.first) cut.0.first.1.holds full))
by_kind Comment marks ms n ps head full cut plain on_line = absurd (false≢true plain)
by_kind LineEnd marks ms n ps head full cut plain on_line = absurd (false≢true plain)
by_kind (Token k) marks ms n ps head full cut plain on_line = record { kind = k; first = marks; pieces = ps; cut = cut; plain = plain; on_line = on_line }

token_first : (ms : List Mark) (n : ℕ) (ps : List Piece) → is_white (get_or (bytes_of ms) 0 0) ≡ false → 0 < n → n ≤ length (bytes_of ms)
    → Cuts ms ps (drop n ms) → list_all (λ (p : Piece). is_plain p.kind) ps ≡ true → ((line : ℕ) → StandOn line (take n ms) → StandOn line (solid ps)) → CutsPlain ms n
token_first ms n [] head some within cut plain on_line =
    absurd (omega (arith, ap length cut, length-drop n ms, length-map ms (λ (m : Mark). m.byte)))
token_first ms n (p ∷ ps) head some within cut plain on_line =
    by_kind p.kind p.marks ms n ps head (omega arith) cut plain on_line

-- what is cut so far, and then a part that is cut
plain_append : (ms : List Mark) (m n : ℕ) → IsPlainTo ms m → IsPlainTo (drop m ms) n → IsPlainTo ms (m + n)
plain_append ms m n a b = record {
  pieces = a.pieces ++ b.pieces;
  cut = cuts_append ms a.pieces (drop m ms) b.pieces (drop (m + n) ms) a.cut (subst (λ (x : List Mark). Cuts (drop m ms) b.pieces x) (drop-drop n m ms) b.cut);
  plain = list_all-append (λ (p : Piece). is_plain p.kind) a.pieces b.pieces
      ∙ and_from (list_all (λ (p : Piece). is_plain p.kind) a.pieces) (list_all (λ (p : Piece). is_plain p.kind) b.pieces) a.plain b.plain;
  on_line = λ line h.
      subst (λ (x : List Mark). StandOn line x) (sym (flat_map-append (λ (p : Piece). token_marks p.kind p.marks) a.pieces b.pieces))
      (StandOn-append line (solid a.pieces) (solid b.pieces) (a.on_line line (StandOn-take line m (m + n) ms (omega arith) h)) (b.on_line line (StandOn-drop line m n ms h)));
}

one_token : (ms : List Mark) (kind : TokenKind) (len : ℕ) → StandsFirst (bytes_of ms) (first.Piece (Token kind) len) → IsPlainTo ms len
one_token ms kind len h = record {
  pieces = piece_at (Token kind) len ms ∷ [];
  cut = cuts_one ms (Token kind) len h;
  plain = refl;
  on_line = λ line g. StandOn-append line (take len ms) [] g tt;
}

pub plain_none : (bs : List ℕ) → IsPlainOf bs 0
plain_none bs ms e = record { pieces = []; cut = refl; plain = refl; on_line = λ line h. tt }

pub plain_break : (bs : List ℕ) (at end : ℕ) → at ≤ end → (at < end → IsBreak (drop at bs) (end - at)) → IsPlainOf bs at → IsPlainOf bs end
plain_break bs at end le b before ms e =
    elim (cases_lt at end) [
      | inl lt ↦ (
          let there_ : at + (end - at) ≡ end = omega arith in
          let here_ : IsBreak (bytes_of (drop at ms)) (end - at) = subst (λ (l : List ℕ). IsBreak l (end - at)) (ap (drop at) e ∙ sym (same_bytes at ms)) (b lt) in
          subst (λ (k : ℕ). IsPlainTo ms k) there_ (plain_append ms at (end - at) (before ms e) (pieces_to (end - at) (end - at) (drop at ms) (omega arith) here_))
          )
      | inr ge ↦ (let same : at ≡ end = omega arith in subst (λ (k : ℕ). IsPlainTo ms k) same (before ms e))
    ]

pub plain_token : (bs : List ℕ) (at end : ℕ) → at < end → IsTokenAt bs at end → IsPlainOf bs at → IsPlainOf bs end
plain_token bs at end lt t before ms e =
    let there_ : at + (end - at) ≡ end = omega arith in
    let here_ : StandsFirst (bytes_of (drop at ms)) (first.Piece (Token t.0) (end - at)) = subst (λ (l : List ℕ). StandsFirst l (first.Piece (Token t.0) (end - at))) (ap (drop at) e ∙ sym (same_bytes at ms)) t.1 in
    subst (λ (k : ℕ). IsPlainTo ms k) there_ (plain_append ms at (end - at) (before ms e) (one_token (drop at ms) t.0 (end - at) here_))

pub cuts_plain : (bs : List ℕ) (n : ℕ) → 0 < n → n ≤ length bs → is_white (get_or bs 0 0) ≡ false → IsPlainOf bs n → (ms : List Mark) → bs ≡ bytes_of ms → CutsPlain ms n
cuts_plain bs n some within head plain ms e =
    let r = plain ms e in
    token_first ms n r.pieces (ap (λ (l : List ℕ). is_white (get_or l 0 0)) (sym e) ∙ head) some (omega (arith, ap length e)) r.cut r.plain r.on_line

-- no line ends before the end of quiet bytes, nor in a token
pub quiet_no_feed : (bs : List ℕ) (at end : ℕ) → ((k : ℕ) → k < at → (get_or bs k 0 == 10) ≡ false) → ((k : ℕ) → at ≤ k → k < end → is_quiet (get_or bs k 0) ≡ true)
    → (k : ℕ) → k < end → (get_or bs k 0 == 10) ≡ false
quiet_no_feed bs at end before quiet k lt =
    elim (cases_lt k at) [ inl l ↦ before k l | inr ge ↦ (quiet_parts (get_or bs k 0) (quiet k ge lt)).0 ]

-- white bytes at the front
white_class : (b : ℕ) → is_white b ≡ true → class_of b ≡ classes.White
unfolding is_white class_of is_prefix_letter is_name_start
white_class b h =
    ⊎_elim
    (λ h.
    ⊎_elim
    (λ h.
    ⊎_elim
    (λ h. ⊎_elim (λ e. ap class_of (eqb-true b 32 e)) (λ e. ap class_of (eqb-true b 9 e)) (or_cases (b == 32) (b == 9) h))
    (λ e. ap class_of (eqb-true b 11 e)) (or_cases ((b == 32) || (b == 9)) (b == 11) h))
    (λ e. ap class_of (eqb-true b 12 e)) (or_cases ((b == 32) || (b == 9) || (b == 11)) (b == 12) h))
    (λ e. ap class_of (eqb-true b 13 e)) (or_cases ((b == 32) || (b == 9) || (b == 11) || (b == 12)) (b == 13) h)

none_white : (xs : List ℕ) → 0 < prefix_len is_white xs → (0 < length xs) × (is_white (get_or xs 0 0) ≡ true)
none_white xs some =
    let within = prefix_within is_white xs in
    (omega arith, taken_at is_white xs (prefix_len is_white xs) 0 within (all_prefix is_white xs) some)

pub white_piece : (xs : List ℕ) → get_or xs 0 0 < 256 → 0 < prefix_len is_white xs → StandsFirst xs (first.Piece White (prefix_len is_white xs))
white_piece xs byte some =
    let h = none_white xs some in
    white_stands xs (record { some = h.0; byte = byte; is = white_class (get_or xs 0 0) h.1 })

pub white_no_feed_byte : (b : ℕ) → is_white b ≡ true → (b == 10) ≡ false
unfolding is_white
white_no_feed_byte b h = grind (arith, nat_tests)

pub white_no_feed : (xs : List ℕ) (k : ℕ) → k < prefix_len is_white xs → (get_or xs k 0 == 10) ≡ false
white_no_feed xs k lt =
    white_no_feed_byte (get_or xs k 0) (taken_at is_white xs (prefix_len is_white xs) k (prefix_within is_white xs) (all_prefix is_white xs) lt)
