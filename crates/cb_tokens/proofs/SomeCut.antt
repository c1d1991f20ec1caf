-- Something stands at the front of any bytes, and any marks have a cut or an open comment.
use Rattle.std.proofs.Common.{◌≡◌, ℕ, suc, zero, ◌<◌, ◌≤◌, Bool, true, false, not, ◌&&◌, ◌||◌, List, [], ◌∷◌, ◌++◌, length, take, drop, length-drop, sym, refl, ap, ◌∙◌, subst, arith, ◌⊎◌, inl, inr, ⊎_elim}
use Rattle.std.specs.List.{list_any}
use Rattle.std.specs.Char.{is_ascii_digit}
use Rattle.std.proofs.lemmas.Bool.{false≢true, both_ways, or_cases, or_left, or_right, eqb-true}
use Rattle.cb_lines.specs.declared.mark.Mark.{Mark}
use Rattle.cb_lines.specs.Marks.{bytes_of, first_line, is_line_feed}
use Rattle.cb_tokens.specs.declared.token.TokenKind.TheVariants.{Identifier, Number, Char, Str, Punct, Other}
use Rattle.cb_tokens.specs.declared.token.PieceKind.{PieceKind}
use Rattle.cb_tokens.specs.declared.token.PieceKind.TheVariants.{White, Comment, LineEnd, Token}
use Rattle.cb_tokens.specs.declared.first.First.{First}
use Rattle.cb_tokens.specs.declared.first.First.TheVariants as first
use Rattle.cb_tokens.specs.Forms.{is_white, is_name_start, is_quote, is_identifier, is_number, is_number_rest, is_punctuator, is_unclosed, quote_left, stays_unclosed, is_stray, is_white_run, is_open_comment, fits}
use Rattle.cb_tokens.specs.Cut.{StandsFirst, Piece, IsCut, HasOpenComment}
use Rattle.cb_tokens.proofs.Cutting.{piece_at, piece_some, cuts_append, cuts_one}

-- a test holds or not
holds_or_not : (b : Bool) → (b ≡ true) ⊎ (b ≡ false)
holds_or_not true = inl refl
holds_or_not false = inr refl

not_false : (b : Bool) → not b ≡ false → b ≡ true
not_false true h = refl
not_false false h = absurd (false≢true (sym h))

-- a byte by itself is a piece
line_end_alone : (b : ℕ) → is_line_feed b ≡ true → fits LineEnd (b ∷ []) ≡ true
unfolding fits
line_end_alone b h = subst (λ v. fits LineEnd (v ∷ []) ≡ true) (sym (eqb-true b 10 h)) refl

quote_alone : (b : ℕ) → is_quote b ≡ true → fits (Token Other) (b ∷ []) ≡ true
unfolding fits is_unclosed stays_unclosed quote_left
quote_alone b h = or_left (is_quote b && stays_unclosed b []) (is_stray (b ∷ [])) (simp h)

number_alone : (b : ℕ) → is_ascii_digit b ≡ true → fits (Token Number) (b ∷ []) ≡ true
unfolding fits is_number is_number_rest
number_alone b h = simp h

name_alone : (b : ℕ) → is_name_start b ≡ true → fits (Token Identifier) (b ∷ []) ≡ true
unfolding fits is_identifier
name_alone b h = simp h

white_alone : (b : ℕ) → is_white b ≡ true → fits White (b ∷ []) ≡ true
unfolding fits is_white_run
white_alone b h = simp h

stray_alone : (b : ℕ) → is_stray (b ∷ []) ≡ true → fits (Token Other) (b ∷ []) ≡ true
unfolding fits
stray_alone b h = or_right (is_unclosed (b ∷ [])) (is_stray (b ∷ [])) h

punctuator_alone : (b : ℕ) → is_punctuator (b ∷ []) ≡ true → fits (Token Punct) (b ∷ []) ≡ true
unfolding fits
punctuator_alone b h = h

begins_else : (b : ℕ) → is_stray (b ∷ []) ≡ false → (is_white b || is_line_feed b || is_name_start b || is_ascii_digit b || is_quote b || is_punctuator (b ∷ [])) ≡ true
unfolding is_stray
begins_else b h = not_false (is_white b || is_line_feed b || is_name_start b || is_ascii_digit b || is_quote b || is_punctuator (b ∷ [])) h

alone : (b : ℕ) → (k : PieceKind) × (fits k (b ∷ []) ≡ true)
alone b =
    let w : Bool = is_white b in
    let l : Bool = w || is_line_feed b in
    let n : Bool = l || is_name_start b in
    let d : Bool = n || is_ascii_digit b in
    let q : Bool = d || is_quote b in
    ⊎_elim (λ s. (Token Other, stray_alone b s))
    (λ s.
    ⊎_elim
    (λ h.
    ⊎_elim
    (λ h.
    ⊎_elim
    (λ h.
    ⊎_elim
    (λ h. ⊎_elim (λ h. (White, white_alone b h)) (λ h. (LineEnd, line_end_alone b h)) (or_cases w (is_line_feed b) h))
    (λ h. (Token Identifier, name_alone b h)) (or_cases l (is_name_start b) h))
    (λ h. (Token Number, number_alone b h)) (or_cases n (is_ascii_digit b) h))
    (λ h. (Token Other, quote_alone b h)) (or_cases d (is_quote b) h))
    (λ h. (Token Punct, punctuator_alone b h)) (or_cases q (is_punctuator (b ∷ [])) (begins_else b s)))
    (holds_or_not (is_stray (b ∷ [])))

-- all kinds of pieces
abbrev all_kinds : List PieceKind
all_kinds =
    White ∷ Comment ∷ LineEnd ∷ Token Identifier ∷ Token Number ∷ Token Char ∷ Token Str ∷ Token Punct ∷ Token Other ∷ []

-- bytes are a piece
unfoldable is_piece : List ℕ → Bool
is_piece bytes = list_any (λ k. fits k bytes) all_kinds

some_of : {A : Type 0} (p : A → Bool) (xs : List A) → list_any p xs ≡ true → (x : A) × (p x ≡ true)
some_of p [] h = absurd (false≢true h)
some_of p (x ∷ xs) h = ⊎_elim (λ e. (x, e)) (some_of p xs) (or_cases (p x) (list_any p xs) h)

kind_of_piece : (bytes : List ℕ) → is_piece bytes ≡ true → (k : PieceKind) × (fits k bytes ≡ true)
unfolding is_piece
kind_of_piece bytes h = some_of (λ k. fits k bytes) all_kinds h

any_at : {A : Type 0} (p : A → Bool) (before : List A) (x : A) (after : List A) → p x ≡ true → list_any p (before ++ (x ∷ after)) ≡ true
any_at p [] x after h = or_left (p x) (list_any p after) h
any_at p (b ∷ bs) x after h = or_right (p b) (list_any p (bs ++ (x ∷ after))) (any_at p bs x after h)

piece_of_kind : (k : PieceKind) (bytes : List ℕ) → fits k bytes ≡ true → is_piece bytes ≡ true
unfolding is_piece
piece_of_kind White bytes h = any_at (λ k. fits k bytes) [] White (drop 1 all_kinds) h
piece_of_kind Comment bytes h = any_at (λ k. fits k bytes) (take 1 all_kinds) Comment (drop 2 all_kinds) h
piece_of_kind LineEnd bytes h = any_at (λ k. fits k bytes) (take 2 all_kinds) LineEnd (drop 3 all_kinds) h
piece_of_kind (Token Identifier) bytes h = any_at (λ k. fits k bytes) (take 3 all_kinds) (Token Identifier) (drop 4 all_kinds) h
piece_of_kind (Token Number) bytes h = any_at (λ k. fits k bytes) (take 4 all_kinds) (Token Number) (drop 5 all_kinds) h
piece_of_kind (Token Char) bytes h = any_at (λ k. fits k bytes) (take 5 all_kinds) (Token Char) (drop 6 all_kinds) h
piece_of_kind (Token Str) bytes h = any_at (λ k. fits k bytes) (take 6 all_kinds) (Token Str) (drop 7 all_kinds) h
piece_of_kind (Token Punct) bytes h = any_at (λ k. fits k bytes) (take 7 all_kinds) (Token Punct) (drop 8 all_kinds) h
piece_of_kind (Token Other) bytes h = any_at (λ k. fits k bytes) (take 8 all_kinds) (Token Other) [] h

-- of the numbers up to one, for some of which a test holds, there is a greatest for which it does
greatest : (p : ℕ → Bool) (n : ℕ) → ((m : ℕ) × (m ≤ n) × (p m ≡ true)) → (k : ℕ) × (k ≤ n) × (p k ≡ true) × ((m : ℕ) → m ≤ n → p m ≡ true → m ≤ k)
greatest p zero some = (some.0, some.1, some.2, λ m le h. omega arith)
greatest p (suc n) some =
    ⊎_elim (λ h. (suc n, omega arith, h, λ m le e. le))
    (λ h.
    let below : (m : ℕ) → m ≤ suc n → p m ≡ true → m ≤ n =
    λ m le e. let other : m ≡ suc n → ⊥ = λ same. both_ways (p m) (ap p same ∙ h) e in omega arith in
    let r = greatest p n (some.0, below some.0 some.1 some.2, some.2) in (r.0, omega arith, r.2, λ m le e. r.3 m (below m le e) e))
    (holds_or_not (p (suc n)))

-- something stands at the front of bytes
pub some_first : (bytes : List ℕ) → 0 < length bytes → (f : First) × StandsFirst bytes f
some_first [] some = absurd (omega arith)
some_first (b ∷ bs) some =
    ⊎_elim (λ o. (first.OpenComment, o))
    (λ o.
    let one = alone b in
    let r = greatest (λ m. is_piece (take m (b ∷ bs))) (length (b ∷ bs)) (1, omega arith, piece_of_kind one.0 (b ∷ []) one.1) in
    let k = kind_of_piece (take r.0 (b ∷ bs)) r.2 in
    (first.Piece k.0 r.0, (o, record { within = r.1; holds = k.1; longest = λ j m le h. r.3 m le (piece_of_kind j (take m (b ∷ bs)) h) })))
    (holds_or_not (is_open_comment (b ∷ bs)))

-- marks have a cut or an open comment
abbrev Ends : List Mark → Type 0
Ends ms = ((ps : List Piece) × IsCut ms ps) ⊎ ((line : ℕ) × HasOpenComment ms line)

piece_before : (ms : List Mark) (k : PieceKind) (n : ℕ) → StandsFirst (bytes_of ms) (first.Piece k n) → Ends (drop n ms) → Ends ms
piece_before ms k n h e =
    ⊎_elim (λ c. inl (piece_at k n ms ∷ c.0, cuts_append ms (piece_at k n ms ∷ []) (drop n ms) c.0 [] (cuts_one ms k n h) c.1))
    (λ o.
    inr
    (o.0, (piece_at k n ms ∷ o.1.0, o.1.1, cuts_append ms (piece_at k n ms ∷ []) (drop n ms) o.1.0 o.1.1 (cuts_one ms k n h) o.1.2, o.1.3, o.1.4)))
    e

cut_of_first : (ms : List Mark) (f : First) → StandsFirst (bytes_of ms) f → ((k : PieceKind) (n : ℕ) → StandsFirst (bytes_of ms) (first.Piece k n) → Ends (drop n ms)) → Ends ms
cut_of_first ms first.OpenComment h rest = inr (first_line ms, ([], ms, refl, h, refl))
cut_of_first ms (first.Piece k n) h rest = piece_before ms k n h (rest k n h)

cut_up_to : (fuel : ℕ) (ms : List Mark) → length ms ≤ fuel → Ends ms
cut_up_to fuel [] few = inl ([], refl)
cut_up_to zero (m ∷ ms) few = absurd (omega arith)
cut_up_to (suc fuel) (m ∷ ms) few =
    let f = some_first (bytes_of (m ∷ ms)) (omega arith) in
    cut_of_first (m ∷ ms) f.0 f.1
    (λ k n h.
    let some = piece_some (bytes_of (m ∷ ms)) k n h in
    let shorter = length-drop n (m ∷ ms) in cut_up_to fuel (drop n (m ∷ ms)) (omega arith))

pub some_cut : (ms : List Mark) → ((ps : List Piece) × IsCut ms ps) ⊎ ((line : ℕ) × HasOpenComment ms line)
some_cut ms = cut_up_to (length ms) ms (omega arith)
