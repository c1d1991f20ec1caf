-- Cuts that begin with a logical line.
use Rattle.std.specs.Prelude.{◌≡◌, ℕ, List, ◌∷◌}
use Rattle.cb_lines.specs.declared.mark.Mark.{Mark}
use Rattle.cb_tokens.specs.Cut.{Piece, IsCut, HasOpenComment}
use Rattle.cb_tokens.specs.Logical.{split_lines}

-- the marks begin with a logical line of these pieces: any cut of the rest goes on from it to a cut of the marks, and a
-- comment that is open in the rest is open in the marks (own)
pub record BeginsWithLine (ms : List Mark) (part : List Piece) (rest : List Mark) : Type 0 where
  pub cut : (ps : List Piece) → IsCut rest ps → (qs : List Piece) × IsCut ms qs × (split_lines qs ≡ part ∷ split_lines ps)
  pub open_comment : (line : ℕ) → HasOpenComment rest line → HasOpenComment ms line
