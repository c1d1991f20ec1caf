-- Sets of platforms, as the rising lists of their numbers.
use Rattle.std.specs.Prelude.{ℕ, zero, suc, ◌-◌, ◌^◌, ◌%◌, ◌==◌, ◌&&◌, ◌||◌}
use Rattle.std.specs.Prelude.{Bool, true, false, nat_lt, nat_le, if◌then◌else◌, List, [], ◌∷◌, length}
use Rattle.cb_sets.specs.declared.platform_set.PlatformSet.{PlatformSet}

-- the greatest number that a platform may have (own)
abbrev pub platform_limit : ℕ
platform_limit = 32

-- the platforms of the lowest bits of a number: platform p has bit 32 - p, so that the first platform has the highest
-- bit (own)
unfoldable pub members_below : ℕ → ℕ → List ℕ
members_below zero bits = []
members_below (suc k) bits =
    if nat_le (2 ^ k) bits then (platform_limit - k) ∷ members_below k (bits - 2 ^ k) else members_below k bits

-- the platforms of a set, rising (own)
unfoldable pub members : PlatformSet → List ℕ
members set = members_below platform_limit (set.bits % 2 ^ platform_limit)

-- of two lists of numbers, the first stands before the second as words do in a dictionary (own)
abbrev pub stands_before : List ℕ → List ℕ → Bool
stands_before xs [] = false
stands_before [] (y ∷ ys) = true
stands_before (x ∷ xs) (y ∷ ys) = nat_lt x y || ((x == y) && stands_before xs ys)

-- the order of reports: sets with fewer members first, and then by the lists of their members (own)
abbrev pub precedes : List ℕ → List ℕ → Bool
precedes a b = nat_lt (length a) (length b) || ((length a == length b) && stands_before a b)
