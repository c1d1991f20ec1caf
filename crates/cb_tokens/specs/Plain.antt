-- Bytes that are cut into white space and tokens alone.
use Rattle.std.specs.Prelude.{◌≡◌, ℕ, ◌-◌, ◌<◌, ◌==◌, ◌||◌, Bool, true, false, not, List, ◌∷◌, take, drop, slice_index}
use Rattle.std.specs.List.{flat_map, list_all}
use Rattle.cb_lines.specs.declared.mark.Mark.{Mark}
use Rattle.cb_lines.specs.Lines.{StandOn}
use Rattle.cb_lines.specs.Marks.{is_line_feed}
use Rattle.cb_tokens.specs.Forms.{is_white, is_quote}
use Rattle.cb_tokens.specs.Cut.{Piece, Cuts}
use Rattle.cb_tokens.specs.Logical.{token_marks}
use Rattle.cb_tokens.specs.declared.token.TokenKind.{TokenKind}
use Rattle.cb_tokens.specs.declared.token.PieceKind.{PieceKind}
use Rattle.cb_tokens.specs.declared.token.PieceKind.TheVariants as kinds

-- no line end, no quote and no comment begins with the byte (own)
unfoldable pub is_quiet : ℕ → Bool
is_quiet byte = not (is_line_feed byte || is_quote byte || (byte == 47))

-- white space ends before a place (own)
abbrev pub EndsWhite : List ℕ → ℕ → Type 0
EndsWhite bytes n = (is_white (slice_index bytes (n - 1)) ≡ true) × (is_white (slice_index bytes n) ≡ false)

-- white space ends there behind quiet bytes alone (own)
pub record IsQuietEnd (bytes : List ℕ) (n : ℕ) : Type 0 where
  pub some : 0 < n
  pub quiet : (k : ℕ) → k < n → is_quiet (slice_index bytes k) ≡ true
  pub ends : EndsWhite bytes n

-- white space or a token (own)
abbrev pub is_plain : PieceKind → Bool
is_plain kinds.White = true
is_plain (kinds.Token kind) = true
is_plain _ = false

-- so many marks at the front are cut into a token, and then white space and tokens (own)
pub record CutsPlain (ms : List Mark) (n : ℕ) : Type 0 where
  pub kind : TokenKind
  pub first : List Mark
  pub pieces : List Piece
  pub cut : Cuts ms (record { kind = kinds.Token kind; marks = first } ∷ pieces) (drop n ms)
  pub plain : list_all (λ p. is_plain p.kind) pieces ≡ true
  pub on_line : (line : ℕ) → StandOn line (take n ms)
      → StandOn line (flat_map (λ p. token_marks p.kind p.marks) (record { kind = kinds.Token kind; marks = first } ∷ pieces))
