-- Counts of nodes (own).
use Rattle.std.specs.Prelude.{ℕ, ◌-◌, ◌^◌}

-- the last value of a count (own)
abbrev pub meter_limit : ℕ
meter_limit = 2 ^ 64 - 1
