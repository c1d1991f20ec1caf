-- The cut of a source into pieces: from the left, each piece the longest that fits (5.1.1.2 phase 3, 6.4).
use Rattle.std.specs.Prelude.{◌≡◌, ℕ, ◌≤◌, Bool, true, false, List, [], ◌∷◌, length, take, drop}
use Rattle.cb_lines.specs.declared.mark.Mark.{Mark}
use Rattle.cb_lines.specs.Marks.{bytes_of, first_line}
use Rattle.cb_tokens.specs.Forms.{fits, is_open_comment}
use Rattle.cb_tokens.specs.declared.token.PieceKind.{PieceKind}
use Rattle.cb_tokens.specs.declared.first.First.{First}
use Rattle.cb_tokens.specs.declared.first.First.TheVariants as first

-- no prefix with the form is longer than n bytes (own)
abbrev pub NoneLonger : (List ℕ → Bool) → List ℕ → ℕ → Type 0
NoneLonger form bytes n = (m : ℕ) → m ≤ length bytes → form (take m bytes) ≡ true → m ≤ n

-- The first n bytes are a piece of the kind, and no longer prefix is a piece of any kind (6.4, paragraph 4).
pub record IsFirst (bytes : List ℕ) (kind : PieceKind) (n : ℕ) : Type 0 where
  pub within : n ≤ length bytes
  pub holds : fits kind (take n bytes) ≡ true
  pub longest : (k : PieceKind) → NoneLonger (fits k) bytes n

-- what stands at the front of bytes: an open comment, or else the longest piece (6.4 paragraph 4)
abbrev pub StandsFirst : List ℕ → First → Type 0
StandsFirst bytes first.OpenComment = is_open_comment bytes ≡ true
StandsFirst bytes (first.Piece kind len) = (is_open_comment bytes ≡ false) × IsFirst bytes kind len

-- a piece: its kind and its marks (5.1.1.2 phase 3)
pub record Piece : Type 0 where
  pub kind : PieceKind
  pub marks : List Mark

-- the marks begin with the piece (6.4 paragraph 4)
pub record BeginsWith (ms : List Mark) (p : Piece) : Type 0 where
  pub first : StandsFirst (bytes_of ms) (first.Piece p.kind (length p.marks))
  pub marks : p.marks ≡ take (length p.marks) ms

-- the marks are cut into the pieces, and then the rest is left (5.1.1.2 phase 3)
abbrev pub Cuts : List Mark → List Piece → List Mark → Type 0
Cuts ms [] rest = ms ≡ rest
Cuts ms (p ∷ ps) rest = BeginsWith ms p × Cuts (drop (length p.marks) ms) ps rest

-- the cut of marks (5.1.1.2 phase 3)
abbrev pub IsCut : List Mark → List Piece → Type 0
IsCut ms ps = Cuts ms ps []

-- the marks are cut up to a block comment that begins on the line and has no end (5.1.1.2 phase 3)
abbrev pub HasOpenComment : List Mark → ℕ → Type 0
HasOpenComment ms line =
    (ps : List Piece) × (rest : List Mark) × Cuts ms ps rest × (is_open_comment (bytes_of rest) ≡ true) × (line ≡ first_line rest)
