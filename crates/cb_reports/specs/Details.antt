-- The details of notes as printable text.
use Rattle.std.specs.Prelude.{ℕ, ◌+◌, ◌/◌, ◌%◌, ◌==◌, ◌&&◌, nat_lt, nat_le, if◌then◌else◌, List, [], ◌∷◌, codes}
use Rattle.std.specs.List.{flat_map}

-- a hexadecimal digit in lower case (own)
abbrev pub hex_digit : ℕ → ℕ
hex_digit n = if nat_lt n 10 then 48 + n else 87 + n

-- a byte of a detail: itself from 0x20 to 0x7e, but a backslash twice, and any other byte as \x and two hexadecimal digits (own)
abbrev pub escaped : ℕ → List ℕ
escaped byte =
    if byte == 92 then 92 ∷ 92 ∷ []
    else (if nat_le 32 byte && nat_le byte 126 then byte ∷ []
    else 92 ∷ 120 ∷ hex_digit (byte / 16) ∷ hex_digit (byte % 16) ∷ [])

-- a detail; an empty one is a hyphen (own)
abbrev pub detail_text : List ℕ → List ℕ
detail_text [] = codes "-"
detail_text (b ∷ bs) = flat_map escaped (b ∷ bs)
