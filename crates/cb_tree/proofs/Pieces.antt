-- Cuts of marks, piece by piece.
use Rattle.std.proofs.Common.{◌≡◌, ℕ, ◌<◌, ◌≤◌, false, List, [], ◌∷◌, ◌++◌, length, take, drop, refl, ap, sym, subst, arith, length-drop}
use Rattle.std.proofs.lemmas.List.{length-map, length-take-le}
use Prim.Native.Nat.{zero, suc}
use Rattle.cb_lines.specs.declared.mark.Mark.{Mark}
use Rattle.cb_lines.specs.Marks.{bytes_of}
use Rattle.cb_tokens.specs.declared.token.TokenKind.TheVariants.{Identifier, Number, Char, Str, Punct, Other}
use Rattle.cb_tokens.specs.declared.token.PieceKind.{PieceKind}
use Rattle.cb_tokens.specs.declared.token.PieceKind.TheVariants as kinds
use Rattle.cb_tokens.specs.declared.first.First.TheVariants as first
use Rattle.cb_tokens.specs.Forms.{fits, is_white_run, is_comment, begins_with, is_identifier, is_number, is_character, is_quoted, is_string, is_prefix_letter, is_punctuator, punctuators, is_unclosed, is_stray}
use Rattle.cb_tokens.specs.Cut.{Piece, IsFirst, StandsFirst, BeginsWith, Cuts, IsCut, HasOpenComment}

-- no piece is empty
fits_none : (k : PieceKind) → fits k [] ≡ false
unfolding fits is_white_run is_comment begins_with is_identifier is_number is_character is_quoted is_string is_prefix_letter is_punctuator punctuators is_unclosed is_stray
fits_none kinds.White = refl
fits_none kinds.Comment = refl
fits_none kinds.LineEnd = refl
fits_none (kinds.Token Identifier) = refl
fits_none (kinds.Token Number) = refl
fits_none (kinds.Token Char) = refl
fits_none (kinds.Token Str) = refl
fits_none (kinds.Token Punct) = refl
fits_none (kinds.Token Other) = refl

pub some_bytes : (bs : List ℕ) (k : PieceKind) (n : ℕ) → IsFirst bs k n → 0 < n
some_bytes bs k zero h = absurd (cc (fits_none k, h.holds))
some_bytes bs k (suc n) h = omega arith

taken : (ms : List Mark) (k : PieceKind) (n : ℕ) → StandsFirst (bytes_of ms) (first.Piece k n) → length (take n ms) ≡ n
taken ms k n h =
    let within : n ≤ length ms = omega (arith, h.1.within, length-map ms (λ (m : Mark). m.byte)) in
    length-take-le n ms within

-- the piece at the front
pub begins : (ms : List Mark) (k : PieceKind) (n : ℕ) → StandsFirst (bytes_of ms) (first.Piece k n)
    → BeginsWith ms (record { kind = k; marks = take n ms })
begins ms k n h =
    let e = taken ms k n h in
    record {
      first = (h.0, subst (λ x. IsFirst (bytes_of ms) k x) (sym e) h.1);
      marks = ap (λ x. take x ms) (sym e);
    }

pub passes : (ms : List Mark) (k : PieceKind) (n : ℕ) → StandsFirst (bytes_of ms) (first.Piece k n)
    → Cuts ms (record { kind = k; marks = take n ms } ∷ []) (drop n ms)
passes ms k n h = (begins ms k n h, ap (λ x. drop x ms) (taken ms k n h))

-- no mark, no piece
pub cut_of_none : (ps : List Piece) → IsCut [] ps → ps ≡ []
cut_of_none [] h = refl
cut_of_none (p ∷ ps) h =
    let f : IsFirst [] p.kind (length p.marks) = h.0.first.1 in
    absurd (omega (arith, some_bytes [] p.kind (length p.marks) f, f.within))

pub Cuts-trans : (ms : List Mark) (ps : List Piece) (rest : List Mark) (qs : List Piece) (end : List Mark)
    → Cuts ms ps rest → Cuts rest qs end → Cuts ms (ps ++ qs) end
Cuts-trans ms [] rest qs end h g = subst (λ x. Cuts x qs end) (sym h) g
Cuts-trans ms (p ∷ ps) rest qs end h g = (h.0, Cuts-trans (drop (length p.marks) ms) ps rest qs end h.1 g)

pub open_after : (ms : List Mark) (ps : List Piece) (rest : List Mark) (line : ℕ) → Cuts ms ps rest → HasOpenComment rest line → HasOpenComment ms line
open_after ms ps rest line h (qs, end, cut, is_open, line_is) = (ps ++ qs, end, Cuts-trans ms ps rest qs end h cut, is_open, line_is)

-- a piece leaves fewer marks
pub shorter : (ms : List Mark) (k : PieceKind) (n : ℕ) → StandsFirst (bytes_of ms) (first.Piece k n) → length (drop n ms) < length ms
shorter ms k n h =
    omega (arith, some_bytes (bytes_of ms) k n h.1, h.1.within, length-map ms (λ (m : Mark). m.byte), length-drop n ms)

pub within : (ms : List Mark) (k : PieceKind) (n : ℕ) → StandsFirst (bytes_of ms) (first.Piece k n) → n ≤ length ms
within ms k n h = omega (arith, h.1.within, length-map ms (λ (m : Mark). m.byte))
