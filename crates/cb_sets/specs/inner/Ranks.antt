-- The order of reports as an order of numbers.
use Rattle.std.specs.Prelude.{ℕ, ◌+◌, ◌-◌, ◌*◌, ◌^◌, ◌%◌, count_ones}
use Rattle.cb_sets.specs.declared.platform_set.PlatformSet.{PlatformSet}

-- the number of members first, then the bits, of which the first platform has the highest (own)
unfoldable pub rank_of : PlatformSet → ℕ
rank_of set = count_ones (set.bits % 2 ^ 32) * 2 ^ 32 + (2 ^ 32 - 1 - set.bits % 2 ^ 32)
