-- Tests of sets of platforms.
use Rattle.std.specs.Prelude.{ℕ, ◌<◌, ◌≤◌, ◌&&◌, ◌||◌, Bool, List}
use Rattle.std.specs.Str.{bytes_eq}
use Rattle.cb_lines.specs.Lines.{has_line}
use Rattle.cb_sets.specs.declared.counting.Test.{Test}
use Rattle.cb_sets.specs.declared.counting.Test.TheVariants.{Any, Used, Is, Has, Both, Either}
use Rattle.cb_sets.specs.Sets.{members, platform_limit}
use Rattle.cb_sets.specs.Tallies.{is_any, is_used}

-- the list of a set's members passes (own)
abbrev pub passes : Test → List ℕ → Bool
passes Any = is_any
passes Used = is_used
passes (Is set) = bytes_eq (members set)
passes (Has platform) = λ set. has_line set platform
passes (Both i j) = λ set. has_line set i && has_line set j
passes (Either i j) = λ set. has_line set i || has_line set j

-- the platforms that are asked for have numbers that platforms may have (own)
abbrev pub IsPlatform : ℕ → Type 0
IsPlatform platform = (0 < platform) × (platform ≤ platform_limit)

abbrev pub AreKnown : Test → Type 0
AreKnown Any = Unit {0}
AreKnown Used = Unit {0}
AreKnown (Is set) = Unit {0}
AreKnown (Has platform) = IsPlatform platform
AreKnown (Both i j) = IsPlatform i × IsPlatform j
AreKnown (Either i j) = IsPlatform i × IsPlatform j
