-- Rows of tokens whose last one is the next to be read, with the ends of arguments.
use Rattle.std.specs.Prelude.{◌≡◌, ℕ, zero, suc, ◌≤◌, Bool, true, false, List, length, take, drop, map, reverse}
use Rattle.std.specs.List.{slice_index_or}
use Rattle.cb_paste.specs.declared.work_token.WorkToken.{WorkToken}
use Rattle.cb_expand.specs.declared.sign.Sign.{Sign}
use Rattle.cb_expand.specs.declared.row.Ends.{Ends}
use Rattle.cb_expand.specs.Arguments.{sign, from_end}

-- what stands between two heights of a stack, in the order in which it is read: from the top down (own)
abbrev pub between : {T : Type 0} → ℕ → ℕ → List T → List T
between low high ts = reverse (drop low (take high ts))

-- what each token is to the arguments of a call (own)
abbrev pub signs : List WorkToken → List Sign
signs ts = map (λ t. sign t.kind t.text) ts

-- the height of the first token below a height that ends an argument there; 0 where there is none (own)
unfoldable pub end_height : Bool → List Sign → ℕ → ℕ
end_height commas ss height = length (from_end (λ s. s) commas 0 (between 0 height ss))

-- the height that is kept for a height (own)
abbrev pub kept : (Ends → ℕ) → List Ends → ℕ → ℕ
kept field es zero = 0
kept field es (suc i) = field (slice_index_or es i (record { close = 0; separator = 0 }))

-- these heights are those of tokens with such signs, as far as they are kept (own)
pub record AreEnds (ss : List Sign) (es : List Ends) : Type 0 where
  pub within : length es ≤ length ss
  pub close : (height : ℕ) → height ≤ length es → kept (λ e. e.close) es height ≡ end_height false ss height
  pub separator : (height : ℕ) → height ≤ length es → kept (λ e. e.separator) es height ≡ end_height true ss height

-- they are kept for all tokens (own)
pub record IsRow (ss : List Sign) (es : List Ends) : Type 0 where
  pub all : length es ≡ length ss
  pub ends : AreEnds ss es
