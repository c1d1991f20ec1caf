-- The bounds of fractions.
use Rattle.std.specs.Prelude.{ℕ, ◌^◌, ◌<◌, ◌≤◌}

-- a numerator and a denominator of a fraction from 0 to 1; no more than 2 ^ 32 lines are counted (own)
abbrev pub IsProper : ℕ → ℕ → Type 0
IsProper n d = (n ≤ d) × (0 < d) × (d ≤ 2 ^ 32)
