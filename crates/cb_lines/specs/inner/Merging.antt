-- Two rising lists of spans, taken span by span in the order of their first lines.
use Rattle.std.specs.Prelude.{◌≡◌, ℕ, ◌≤◌, ◌⊎◌, List, [], ◌∷◌}
use Rattle.cb_lines.specs.declared.line_set.Span.{Span}

-- the first of the spans, where there is one, begins no earlier than a line (own)
abbrev pub BeginsFrom : ℕ → List Span → Type 0
BeginsFrom line [] = Unit {0}
BeginsFrom line (s ∷ ss) = line ≤ s.first

-- a span goes from the front of one of two lists, and the other begins no earlier (own)
abbrev pub TakesFirst : List Span → List Span → Span → List Span → List Span → Type 0
TakesFirst left right s new_left new_right =
    ((left ≡ s ∷ new_left) × (new_right ≡ right) × BeginsFrom s.first right)
    ⊎ ((right ≡ s ∷ new_right) × (new_left ≡ left) × BeginsFrom s.first left)

-- the first line of the last of the spans; 0 where there is none (own)
abbrev pub last_first : List Span → ℕ
last_first [] = 0
last_first (s ∷ []) = s.first
last_first (s ∷ t ∷ ss) = last_first (t ∷ ss)
