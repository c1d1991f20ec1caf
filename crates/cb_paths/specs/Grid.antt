-- Exact shares on a grid of 10^-12, and the means of such values.
use Rattle.std.specs.Prelude.{ℕ, ◌+◌, ◌*◌, ◌/◌}

-- the units that make up 1 (own)
abbrev pub units : ℕ
units = 1_000_000_000_000

-- the share of a part in a whole, rounded half up (own)
abbrev pub share : ℕ → ℕ → ℕ
share part whole = (part * units + whole / 2) / whole

-- the mean of so many grid values with this sum, rounded half up (own)
abbrev pub mean : ℕ → ℕ → ℕ
mean total count = (total + count / 2) / count
