-- Cuts, piece by piece.
use Rattle.std.proofs.Common.{◌≡◌, ℕ, suc, zero, ◌<◌, ◌≤◌, true, false, List, [], ◌∷◌, ◌++◌, length, take, drop, length-take-le, sym, refl, ap, subst, arith}
use Rattle.std.proofs.lemmas.Bool.{both_ways}
use Rattle.std.proofs.lemmas.List.{length-map}
use Rattle.cb_lines.specs.declared.mark.Mark.{Mark}
use Rattle.cb_lines.specs.Marks.{bytes_of, first_line}
use Rattle.cb_tokens.specs.declared.token.TokenKind.TheVariants.{Identifier, Number, Char, Str, Punct, Other}
use Rattle.cb_tokens.specs.declared.token.PieceKind.{PieceKind}
use Rattle.cb_tokens.specs.declared.token.PieceKind.TheVariants.{White, Comment, LineEnd, Token}
use Rattle.cb_tokens.specs.declared.first.First.{First}
use Rattle.cb_tokens.specs.declared.first.First.TheVariants as first
use Rattle.cb_tokens.specs.Forms.{fits, is_white_run, is_comment, begins_with, is_identifier, is_number, is_character, is_string, is_quoted, is_prefix_letter, is_punctuator, punctuators, is_unclosed, is_stray, is_open_comment}
use Rattle.cb_tokens.specs.Cut.{StandsFirst, Piece, BeginsWith, Cuts, IsCut, HasOpenComment}

-- no piece is empty
pub no_piece : (k : PieceKind) → fits k [] ≡ false
unfolding fits is_white_run is_comment begins_with is_identifier is_number is_character is_string is_quoted is_prefix_letter is_punctuator punctuators is_unclosed is_stray
no_piece White = refl
no_piece Comment = refl
no_piece LineEnd = refl
no_piece (Token Identifier) = refl
no_piece (Token Number) = refl
no_piece (Token Char) = refl
no_piece (Token Str) = refl
no_piece (Token Punct) = refl
no_piece (Token Other) = refl

pub piece_some : (xs : List ℕ) (k : PieceKind) (n : ℕ) → StandsFirst xs (first.Piece k n) → 0 < n
piece_some xs k zero h = absurd (both_ways (fits k []) (no_piece k) h.1.holds)
piece_some xs k (suc n) h = omega arith

pub piece_within : (ms : List Mark) (k : PieceKind) (n : ℕ) → StandsFirst (bytes_of ms) (first.Piece k n) → n ≤ length ms
piece_within ms k n h = let within = h.1.within in omega (arith, length-map ms (λ (m : Mark). m.byte))

-- the piece that stands first
abbrev pub piece_at : PieceKind → ℕ → List Mark → Piece
piece_at k n ms = record { kind = k; marks = take n ms }

taken_len : (ms : List Mark) (k : PieceKind) (n : ℕ) → StandsFirst (bytes_of ms) (first.Piece k n) → length (take n ms) ≡ n
taken_len ms k n h = length-take-le n ms (piece_within ms k n h)

pub begins : (ms : List Mark) (k : PieceKind) (n : ℕ) → StandsFirst (bytes_of ms) (first.Piece k n) → BeginsWith ms (piece_at k n ms)
begins ms k n h = record {
  first = subst (λ j. StandsFirst (bytes_of ms) (first.Piece k j)) (sym (taken_len ms k n h)) h;
  marks = ap (λ j. take j ms) (sym (taken_len ms k n h));
}

-- cuts one after another
pub cuts_append : (ms : List Mark) (ps : List Piece) (mid : List Mark) (qs : List Piece) (rest : List Mark) → Cuts ms ps mid → Cuts mid qs rest → Cuts ms (ps ++ qs) rest
cuts_append ms [] mid qs rest c d = subst (λ ns. Cuts ns qs rest) (sym c) d
cuts_append ms (p ∷ ps) mid qs rest c d = (c.0, cuts_append (drop (length p.marks) ms) ps mid qs rest c.1 d)

pub cuts_one : (ms : List Mark) (k : PieceKind) (n : ℕ) → StandsFirst (bytes_of ms) (first.Piece k n) → Cuts ms (piece_at k n ms ∷ []) (drop n ms)
cuts_one ms k n h = (begins ms k n h, ap (λ j. drop j ms) (taken_len ms k n h))

pub cuts_push : (ms : List Mark) (ps : List Piece) (mid : List Mark) (k : PieceKind) (n : ℕ) → Cuts ms ps mid → StandsFirst (bytes_of mid) (first.Piece k n) → Cuts ms (ps ++ piece_at k n mid ∷ []) (drop n mid)
cuts_push ms ps mid k n c h = cuts_append ms ps mid (piece_at k n mid ∷ []) (drop n mid) c (cuts_one mid k n h)

taken_none : (n : ℕ) → take n (bytes_of []) ≡ []
taken_none zero = refl
taken_none (suc n) = refl

-- where nothing is left, there is no piece
pub nothing_left : (ps : List Piece) → IsCut [] ps → ps ≡ []
nothing_left [] c = refl
nothing_left (p ∷ ps) c = absurd (both_ways (fits p.kind []) (no_piece p.kind) (subst (λ l. fits p.kind l ≡ true) (taken_none (length p.marks)) c.0.first.1.holds))

-- a comment that is open behind a cut
pub open_behind : (ms : List Mark) (ps : List Piece) (mid : List Mark) (line : ℕ) → Cuts ms ps mid → HasOpenComment mid line → HasOpenComment ms line
open_behind ms ps mid line c h = (ps ++ h.0, h.1, cuts_append ms ps mid h.0 h.1 c h.2, h.3, h.4)

pub open_here : (ms : List Mark) (ps : List Piece) (mid : List Mark) → Cuts ms ps mid → is_open_comment (bytes_of mid) ≡ true → HasOpenComment ms (first_line mid)
open_here ms ps mid c h = (ps, mid, c, h, refl)

-- what stands at the front of these bytes, where it is this piece
pub stands_as : (xs : List ℕ) (ms : List Mark) (f : First) (k : PieceKind) (n : ℕ) → StandsFirst xs f → xs ≡ bytes_of ms → f ≡ first.Piece k n → StandsFirst (bytes_of ms) (first.Piece k n)
stands_as xs ms f k n h e i = subst (λ g. StandsFirst (bytes_of ms) g) i (subst (λ ys. StandsFirst ys f) e h)

-- where no byte is left, no mark is
pub none_left : (ms : List Mark) (xs : List ℕ) → xs ≡ bytes_of ms → length xs ≡ 0 → ms ≡ []
none_left [] xs e h = refl
none_left (m ∷ ms) xs e h = let more : length xs ≡ suc (length (bytes_of ms)) = ap length e in absurd (omega arith)
