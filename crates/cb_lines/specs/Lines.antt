-- Sets of line numbers, as rising lists.
use Rattle.std.specs.Prelude.{◌≡◌, ℕ, ◌+◌, ◌-◌, ◌<◌, ◌≤◌, ◌==◌, ◌||◌}
use Rattle.std.specs.Prelude.{Bool, false, nat_lt, if◌then◌else◌, List, [], ◌∷◌, map}
use Rattle.std.specs.List.{range_with_len}
use Rattle.cb_lines.specs.declared.mark.Mark.{Mark}
use Rattle.cb_lines.specs.declared.line_set.Span.{Span}

-- a rising list with one more number, which it may hold already (own)
abbrev pub with_line : ℕ → List ℕ → List ℕ
with_line line [] = line ∷ []
with_line line (l ∷ ls) =
    if nat_lt line l then line ∷ l ∷ ls else (if line == l then l ∷ ls else l ∷ with_line line ls)

-- the union of two sets: the second with each number of the first added (own)
abbrev pub union_of : List ℕ → List ℕ → List ℕ
union_of [] set = set
union_of (l ∷ ls) set = union_of ls (with_line l set)

-- each of the marks stands on the line (own)
abbrev pub StandOn : ℕ → List Mark → Type 0
StandOn line [] = Unit {0}
StandOn line (m ∷ ms) = (m.line ≡ line) × StandOn line ms

-- a rising list with the lines of marks (own)
abbrev pub with_lines : List Mark → List ℕ → List ℕ
with_lines ms set = union_of (map (λ m. m.line) ms) set

-- the set of the lines on which marks stand (own)
abbrev pub lines_of : List Mark → List ℕ
lines_of ms = with_lines ms []

-- whether the set holds the number (own)
abbrev pub has_line : List ℕ → ℕ → Bool
has_line [] line = false
has_line (l ∷ ls) line = (l == line) || has_line ls line

-- the numbers of a span, from its first to its last (own)
abbrev pub span_lines : Span → List ℕ
span_lines span = range_with_len span.first (span.last + 1 - span.first)

-- spans that rise, none empty, with at least one number missing between two: none can be longer (own)
abbrev pub AreMaximal : List Span → Type 0
AreMaximal [] = Unit {0}
AreMaximal (s ∷ []) = s.first ≤ s.last
AreMaximal (s ∷ t ∷ ss) = (s.first ≤ s.last) × (s.last + 1 < t.first) × AreMaximal (t ∷ ss)
