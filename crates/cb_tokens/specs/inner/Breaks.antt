-- Places that no piece goes over.
use Rattle.std.specs.Prelude.{◌≡◌, ◌⊎◌, ℕ, ◌-◌, ◌<◌, ◌==◌, ◌||◌, ◌&&◌, Bool, true, false, not, List, length, slice_index, take, drop}
use Rattle.std.specs.List.{flat_map, list_all}
use Rattle.cb_lines.specs.declared.mark.Mark.{Mark}
use Rattle.cb_lines.specs.Marks.{bytes_of}
use Rattle.cb_lines.specs.Lines.{StandOn}
use Rattle.cb_tokens.specs.Forms.{is_white, is_name_byte, is_quote}
use Rattle.cb_tokens.specs.Cut.{Piece, Cuts, StandsFirst}
use Rattle.cb_tokens.specs.Logical.{token_marks}
use Rattle.cb_tokens.specs.Plain.{is_quiet, is_plain}
use Rattle.cb_tokens.specs.declared.first.First.TheVariants as first
use Rattle.cb_tokens.specs.declared.token.TokenKind.{TokenKind}
use Rattle.cb_tokens.specs.declared.token.PieceKind.TheVariants as kinds

-- no piece but a comment goes on from the one byte to the other: a slash, or a quote behind what no name and no number goes on with (own)
unfoldable pub is_apart : ℕ → ℕ → Bool
is_apart before byte = (byte == 47) || (is_quote byte && not (is_name_byte before))

-- A place behind some quiet bytes that no piece goes over: the end of a line, or of white space, or a byte that stands apart (own)
pub record IsBreak (bytes : List ℕ) (n : ℕ) : Type 0 where
  pub some : 0 < n
  pub within : n < length bytes
  pub quiet : (k : ℕ) → k < n → is_quiet (slice_index bytes k) ≡ true
  pub ends : (slice_index bytes n ≡ 10) ⊎ (((is_white (slice_index bytes (n - 1)) ≡ true) × (is_white (slice_index bytes n) ≡ false))
      ⊎ (is_apart (slice_index bytes (n - 1)) (slice_index bytes n) ≡ true))

-- a token stands at a place, up to another one (own)
abbrev pub IsTokenAt : List ℕ → ℕ → ℕ → Type 0
IsTokenAt bytes at end = (kind : TokenKind) × StandsFirst (drop at bytes) (first.Piece (kinds.Token kind) (end - at))

-- so many marks at the front are cut into white space and tokens (own)
pub record IsPlainTo (ms : List Mark) (n : ℕ) : Type 0 where
  pub pieces : List Piece
  pub cut : Cuts ms pieces (drop n ms)
  pub plain : list_all (λ p. is_plain p.kind) pieces ≡ true
  pub on_line : (line : ℕ) → StandOn line (take n ms) → StandOn line (flat_map (λ p. token_marks p.kind p.marks) pieces)

-- the bytes are those of marks that are cut into white space and tokens up to a place (own)
abbrev pub IsPlainOf : List ℕ → ℕ → Type 0
IsPlainOf bytes n = (ms : List Mark) → bytes ≡ bytes_of ms → IsPlainTo ms n
