-- Character constants of one byte (6.4.4.4).
use Rattle.std.specs.Prelude.{ℕ, ◌==◌, ◌-◌, ◌&&◌, ◌||◌, Bool, false, not, nat_lt, nat_le, if◌then◌else◌, List, length, drop, slice_index, slice_range}
use Rattle.std.specs.List.{list_all}
use Rattle.cb_cond.specs.declared.symbol.Symbol.{Symbol}
use Rattle.cb_cond.specs.declared.symbol.Symbol.TheVariants.{Number, Stray}
use Rattle.cb_cond.specs.Integers.{is_digit, amount}

-- what an escape of one letter stands for (6.4.4.4, paragraphs 3 and 4; 5.2.2; the codes are those of ASCII)
unfoldable pub simple_escape : ℕ → Symbol
simple_escape letter =
    if (letter == 39) || (letter == 34) || (letter == 63) || (letter == 92) then Number letter false
    else (if letter == 97 then Number 7 false
    else (if letter == 98 then Number 8 false
    else (if letter == 102 then Number 12 false
    else (if letter == 110 then Number 10 false
    else (if letter == 114 then Number 13 false
    else (if letter == 116 then Number 9 false
    else (if letter == 118 then Number 11 false else Stray)))))))

-- a byte below 128 (own)
unfoldable pub small : ℕ → Symbol
small n = if nat_lt n 128 then Number n false else Stray

-- one to three octal digits (6.4.4.4)
unfoldable pub is_octal_escape : List ℕ → Bool
is_octal_escape bs = nat_le 1 (length bs) && nat_le (length bs) 3 && list_all (is_digit 8) bs

-- x and hexadecimal digits, at least one (6.4.4.4)
unfoldable pub is_hexadecimal_escape : List ℕ → Bool
is_hexadecimal_escape bs = (slice_index bs 0 == 120) && nat_le 2 (length bs) && list_all (is_digit 16) (drop 1 bs)

-- what an escape is, behind its backslash (6.4.4.4)
unfoldable pub escape : List ℕ → Symbol
escape bs =
    if is_octal_escape bs then small (amount 8 bs)
    else (if is_hexadecimal_escape bs then small (amount 16 (drop 1 bs))
    else (if length bs == 1 then simple_escape (slice_index bs 0) else Stray))

-- what stands between the quotes: a backslash and an escape, or one byte other than a quote (6.4.4.4; below 128 is own)
unfoldable pub quoted : List ℕ → Symbol
quoted bs =
    if slice_index bs 0 == 92 then escape (drop 1 bs)
    else (if (length bs == 1) && not (slice_index bs 0 == 39) then small (slice_index bs 0) else Stray)

-- what a character constant is to the grammar: one without a prefix and of one byte, which is signed (6.4.4.4; 6.10.1,
-- paragraph 4; own)
unfoldable pub character : List ℕ → Symbol
character text =
    if nat_le 2 (length text) && (slice_index text 0 == 39) && (slice_index text (length text - 1) == 39) then quoted (slice_range text 1 (length text - 1)) else Stray
