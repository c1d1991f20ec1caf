-- Distances of platforms.
use Rattle.std.specs.Prelude.{ℕ, ◌*◌, Bool, nat_lt, List, length, sum_by}
use Rattle.cb_diverge.specs.declared.fraction.Fraction.{Fraction}
use Rattle.cb_paths.specs.Grid.{share, mean}

-- a fraction on the grid (own)
abbrev pub grid_of : Fraction → ℕ
grid_of f = share f.n f.d

-- one fraction is less than another, as values (own)
abbrev pub is_less : Fraction → Fraction → Bool
is_less a b = nat_lt (a.n * b.d) (b.n * a.d)

-- the mean of the distances of all pairs, each on the grid (Code Base Investigator's divergence; own rounding)
abbrev pub divergence_of : List Fraction → ℕ
divergence_of pairs = mean (sum_by grid_of pairs) (length pairs)
