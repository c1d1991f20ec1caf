-- Logical lines: the cut, split at its line ends.
use Rattle.std.specs.Prelude.{◌≡◌, ℕ, Bool, true, false, List, [], ◌∷◌, ◌++◌, map, if◌then◌else◌}
use Rattle.std.specs.List.{flat_map}
use Rattle.cb_lines.specs.declared.mark.Mark.{Mark}
use Rattle.cb_lines.specs.Marks.{bytes_of}
use Rattle.cb_lines.specs.Lines.{lines_of}
use Rattle.cb_tokens.specs.declared.token.TokenKind.{TokenKind}
use Rattle.cb_tokens.specs.declared.token.PieceKind.{PieceKind}
use Rattle.cb_tokens.specs.declared.token.PieceKind.TheVariants as kinds
use Rattle.cb_tokens.specs.declared.token.Token.{Token}
use Rattle.cb_tokens.specs.Cut.{Piece, IsCut}

-- a logical line: its tokens, and the set of the physical lines on which a byte of one of them stands (own)
pub record Line : Type 0 where
  pub tokens : List Token
  pub counted : List ℕ

-- the pieces with one more in the first part, which is made where there is none (own)
abbrev pub with_piece : Piece → List (List Piece) → List (List Piece)
with_piece p [] = (p ∷ []) ∷ []
with_piece p (part ∷ parts) = (p ∷ part) ∷ parts

-- the piece begins a new part where it ends a line, and else stands in the first part (own)
abbrev pub before_parts : PieceKind → Piece → List (List Piece) → List (List Piece)
before_parts kinds.LineEnd p parts = [] ∷ parts
before_parts _ p parts = with_piece p parts

-- the pieces between line ends, which stand outside comments, without an empty part after the last (5.1.1.2 phase 2; own)
abbrev pub split_lines : List Piece → List (List Piece)
split_lines [] = []
split_lines (p ∷ ps) = before_parts p.kind p (split_lines ps)

-- the marks of a token, and none of another piece (own)
abbrev pub token_marks : PieceKind → List Mark → List Mark
token_marks (kinds.Token kind) ms = ms
token_marks _ ms = []

-- the token that a piece is, or none (6.4 paragraph 1)
abbrev pub token_of : PieceKind → List Mark → Bool → List Token
token_of (kinds.Token kind) ms spaced = record { kind = kind; text = bytes_of ms; spaced = spaced } ∷ []
token_of _ ms spaced = []

-- whether white space or a comment stands between the last token and what follows a piece (6.4 paragraph 3)
abbrev pub spaced_after : PieceKind → Bool
spaced_after kinds.White = true
spaced_after kinds.Comment = true
spaced_after _ = false

-- the tokens of pieces behind a token of the same line (5.1.1.2 phase 3)
abbrev pub later_tokens : Bool → List Piece → List Token
later_tokens spaced [] = []
later_tokens spaced (p ∷ ps) = token_of p.kind p.marks spaced ++ later_tokens (spaced_after p.kind) ps

-- the piece is a token (6.4 paragraph 1)
abbrev pub is_token : PieceKind → Bool
is_token (kinds.Token kind) = true
is_token _ = false

-- the tokens of a logical line: the first is not spaced, whatever stands before it (own)
abbrev pub line_tokens : List Piece → List Token
line_tokens [] = []
line_tokens (p ∷ ps) = if is_token p.kind then later_tokens false (p ∷ ps) else line_tokens ps

-- the set of the lines on which a byte of a token of the pieces stands (own)
abbrev pub counted_lines : List Piece → List ℕ
counted_lines ps = lines_of (flat_map (λ p. token_marks p.kind p.marks) ps)

-- the logical line of its pieces (own)
abbrev pub line_of : List Piece → Line
line_of ps = record { tokens = line_tokens ps; counted = counted_lines ps }

-- the logical lines of a cut (5.1.1.2 phase 2)
abbrev pub logical_lines : List Piece → List Line
logical_lines ps = map line_of (split_lines ps)

-- these are the logical lines of the marks (5.1.1.2 phases 2 and 3)
abbrev pub AreLinesOf : List Mark → List Line → Type 0
AreLinesOf ms lines = (ps : List Piece) × IsCut ms ps × (lines ≡ logical_lines ps)

-- the marks are one token of the kind and nothing else (own)
abbrev pub IsOneToken : List Mark → TokenKind → Type 0
IsOneToken ms kind = (p : Piece) × IsCut ms (p ∷ []) × (p.kind ≡ kinds.Token kind)
