-- The marks of a source: what is left of it when each backslash before a line end is taken away with that line end.
use Rattle.std.specs.Prelude.{ℕ, ◌+◌, ◌-◌, ◌^◌, ◌==◌, ◌&&◌, ◌||◌, Bool, if◌then◌else◌}
use Rattle.std.specs.Prelude.{List, [], ◌∷◌, length, take, map, min, count_by, slice_index}
use Rattle.std.specs.List.{flat_map, range_with_len}
use Rattle.cb_lines.specs.declared.mark.Mark.{Mark}

-- the byte at a position of a source; past its end 0, which no test below looks for (own)
abbrev pub byte_at : List ℕ → ℕ → ℕ
byte_at source i = slice_index source i

-- LF (5.1.1.2, phase 1: the end-of-line indicator)
abbrev pub is_line_feed : ℕ → Bool
is_line_feed byte = byte == 10

-- the CR of a line end of two bytes, CR LF (own)
abbrev pub is_line_return : List ℕ → ℕ → Bool
is_line_return source i = (byte_at source i == 13) && is_line_feed (byte_at source (i + 1))

-- a line end begins here (5.1.1.2, phase 1)
abbrev pub begins_line_end : List ℕ → ℕ → Bool
begins_line_end source i = is_line_feed (byte_at source i) || is_line_return source i

-- a backslash directly before a line end (5.1.1.2, phase 2)
abbrev pub is_splice : List ℕ → ℕ → Bool
is_splice source i = (byte_at source i == 92) && begins_line_end source (i + 1)

-- the LF of a line end after such a backslash, which stands one byte or, with a CR between, two bytes before it
-- (5.1.1.2, phase 2)
abbrev pub is_spliced_feed : List ℕ → ℕ → Bool
is_spliced_feed source i =
    is_line_feed (byte_at source i)
    && ((byte_at source (i - 1) == 92) || ((byte_at source (i - 1) == 13) && (byte_at source (i - 2) == 92)))

-- the position is taken away (5.1.1.2, phases 1 and 2)
abbrev pub is_deleted : List ℕ → ℕ → Bool
is_deleted source i = is_line_return source i || is_splice source i || is_spliced_feed source i

-- the number of the physical line at a position, from 1; it stands at the greatest number of 32 bits (own)
abbrev pub line_at : List ℕ → ℕ → ℕ
line_at source i = min (2 ^ 32 - 1) (1 + count_by is_line_feed (take i source))

-- the mark at a position, or none (5.1.1.2, phase 2)
abbrev pub mark_at : List ℕ → ℕ → List Mark
mark_at source i =
    if is_deleted source i then [] else record { byte = byte_at source i; line = line_at source i } ∷ []

-- the marks from a position on (5.1.1.2, phase 2)
abbrev pub marks_from : List ℕ → ℕ → List Mark
marks_from source i = flat_map (mark_at source) (range_with_len i (length source - i))

-- the marks of a source (5.1.1.2, phase 2)
abbrev pub marks_of : List ℕ → List Mark
marks_of source = marks_from source 0

-- the bytes of marks (own)
abbrev pub bytes_of : List Mark → List ℕ
bytes_of ms = map (λ m. m.byte) ms

-- the line of the first of the marks; 0 where there is none (own)
abbrev pub first_line : List Mark → ℕ
first_line [] = 0
first_line (m ∷ ms) = m.line
