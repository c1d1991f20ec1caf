-- How the text of a command is split into words: it is the spelling of pieces, one behind the other (own, after
-- POSIX.1-2017, "Shell Command Language", 2.2).
use Rattle.std.specs.Prelude.{◌≡◌, ◌⊎◌, ℕ, ◌==◌, ◌&&◌, ◌||◌, not, Bool, true, List, [], ◌∷◌, ◌++◌, map, Option, Some, None}
use Rattle.std.specs.List.{list_all, flat_map}

-- a byte between double quotes: as it stands, or behind a backslash (own)
pub data Inner : Type 0 where
  itself : ℕ → Inner
  escaped : ℕ → Inner

-- a piece of a command: a gap between words, a byte of a word, a byte behind a backslash, a backslash at the very end,
-- and what stands between quotes (own)
pub data Piece : Type 0 where
  gap : ℕ → Piece
  plain : ℕ → Piece
  escape : ℕ → Piece
  lone : Piece
  single : List ℕ → Piece
  double : List Inner → Piece

-- how a byte between double quotes is written (own)
abbrev pub inner_spelling : Inner → List ℕ
inner_spelling (itself b) = b ∷ []
inner_spelling (escaped b) = 92 ∷ b ∷ []

-- how a piece is written (own)
abbrev pub spelling : Piece → List ℕ
spelling (gap b) = b ∷ []
spelling (plain b) = b ∷ []
spelling (escape b) = 92 ∷ b ∷ []
spelling lone = 92 ∷ []
spelling (single bytes) = 39 ∷ (bytes ++ 39 ∷ [])
spelling (double inners) = 34 ∷ (flat_map inner_spelling inners ++ 34 ∷ [])

-- the byte that it gives (own)
abbrev pub inner_byte : Inner → ℕ
inner_byte (itself b) = b
inner_byte (escaped b) = b

-- the bytes that a piece adds to a word; a gap adds none, and ends the word (own)
abbrev pub given : Piece → Option (List ℕ)
given (gap b) = None
given (plain b) = Some (b ∷ [])
given (escape b) = Some (b ∷ [])
given lone = Some (92 ∷ [])
given (single bytes) = Some bytes
given (double inners) = Some (map inner_byte inners)

-- space, HT, LF and CR part words (own)
unfoldable pub is_gap : ℕ → Bool
is_gap b = (b == 32) || (b == 9) || (b == 10) || (b == 13)

-- any other byte but a backslash and the quotes stands for itself (own)
unfoldable pub is_plain : ℕ → Bool
is_plain b = not (is_gap b) && not (b == 92) && not (b == 39) && not (b == 34)

-- between double quotes any byte but the quote and a backslash stands for itself (own)
abbrev pub is_inner_byte : ℕ → Bool
is_inner_byte b = not (b == 34) && not (b == 92)

-- what may stand between double quotes: such bytes, and any byte behind a backslash (own)
abbrev pub is_inner : Inner → Bool
is_inner (itself b) = is_inner_byte b
is_inner (escaped b) = true

-- whether a piece may stand in front of what is behind it (own)
abbrev pub Stands : Piece → List ℕ → Type 0
Stands (gap b) behind = is_gap b ≡ true
Stands (plain b) behind = is_plain b ≡ true
Stands (escape b) behind = Unit {0}
Stands lone behind = behind ≡ []
Stands (single bytes) behind = list_all (λ b. not (b == 39)) bytes ≡ true
Stands (double inners) behind = list_all is_inner inners ≡ true

-- a text is the spelling of these pieces, and then what is left (own)
abbrev pub Reads : List ℕ → List Piece → List ℕ → Type 0
Reads bytes [] left = bytes ≡ left
Reads bytes (piece ∷ pieces) left =
    (behind : List ℕ) × Stands piece behind × (bytes ≡ spelling piece ++ behind) × Reads behind pieces left

-- the words that are joined from what pieces give, behind a word that has begun or none (own)
abbrev pub joined : Option (List ℕ) → List (Option (List ℕ)) → List (List ℕ)
joined None [] = []
joined (Some word) [] = word ∷ []
joined None (None ∷ gives) = joined None gives
joined (Some word) (None ∷ gives) = word ∷ joined None gives
joined None (Some bytes ∷ gives) = joined (Some bytes) gives
joined (Some word) (Some bytes ∷ gives) = joined (Some (word ++ bytes)) gives

-- a command is split into these words (own)
abbrev pub HasWords : List ℕ → List (List ℕ) → Type 0
HasWords command words = (pieces : List Piece) × Reads command pieces [] × (words ≡ joined None (map given pieces))

-- a single quote without an end (own)
abbrev pub IsOpenSingle : List ℕ → Type 0
IsOpenSingle left = (bytes : List ℕ) × (list_all (λ b. not (b == 39)) bytes ≡ true) × (left ≡ 39 ∷ bytes)

-- a double quote without an end; the last byte may be a backslash (own)
abbrev pub IsOpenDouble : List ℕ → Type 0
IsOpenDouble left =
    (inners : List Inner) × (end : List ℕ) × (list_all is_inner inners ≡ true) × ((end ≡ []) ⊎ (end ≡ 92 ∷ []))
    × (left ≡ 34 ∷ (flat_map inner_spelling inners ++ end))

-- a quote without an end (own)
abbrev pub IsOpen : List ℕ → Type 0
IsOpen left = IsOpenSingle left ⊎ IsOpenDouble left

-- a command has a quote without an end (own)
abbrev pub HasOpenQuote : List ℕ → Type 0
HasOpenQuote command = (pieces : List Piece) × (left : List ℕ) × Reads command pieces left × IsOpen left
