-- Marks kept as their bytes, with the places of the splices among them.
use Rattle.std.specs.Prelude.{ℕ, ◌+◌, ◌-◌, ◌^◌, ◌≤◌, ◌==◌, ◌||◌, nat_le, Bool, if◌then◌else◌, List, [], ◌∷◌, min}
use Rattle.cb_lines.specs.declared.mark.Mark.{Mark}
use Rattle.cb_lines.specs.Marks.{is_line_feed}

-- a byte at which a line end of two bytes or a splice may begin (own)
abbrev pub is_special : ℕ → Bool
is_special byte = (byte == 92) || (byte == 13)

-- a byte at which a line end may begin (own)
abbrev pub is_ending : ℕ → Bool
is_ending byte = (byte == 10) || (byte == 13)

-- how many splices stand at a mark or before it (own)
abbrev pub passed : ℕ → List ℕ → ℕ
passed at [] = 0
passed at (s ∷ ss) = (if nat_le s at then 1 else 0) + passed at ss

-- how many LF there are (own)
abbrev pub feeds : List ℕ → ℕ
feeds [] = 0
feeds (b ∷ bs) = (if is_line_feed b then 1 else 0) + feeds bs

-- the marks of bytes, the first of which is the mark `at`; it stands on the line, but for the splices that it passes
-- (own)
abbrev pub marks_held : ℕ → ℕ → List ℕ → List ℕ → List Mark
marks_held line at [] splices = []
marks_held line at (b ∷ bs) splices =
    record { byte = b; line = min (2 ^ 32 - 1) (line + passed at splices) }
    ∷ marks_held (line + (if is_line_feed b then 1 else 0)) (at + 1) bs splices

-- numbers that do not fall, none below a bound (own)
abbrev pub Rises : ℕ → List ℕ → Type 0
Rises low [] = Unit {0}
Rises low (s ∷ ss) = (low ≤ s) × Rises s ss
