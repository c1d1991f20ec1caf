use Rattle.std.proofs.Common.{◌≡◌, ℕ, ◌+◌, List, ◌++◌, length}
use Rattle.std.specs.Option.{option_map_or}
use Rattle.cb_paths.specs.Parts.{parts_of}
use Rattle.cb_paths.specs.inner.Trails.{Stands}
use Rattle.cb_paths.proofs.Splitting.{parts_left}
use Rattle.cb_paths.proofs.trail.Trail.walk.Given as goal

abbrev pub invariant-parts : goal.invariant-parts
invariant-parts l =
    (so_far : List (List ℕ)) → Stands so_far l.fn.self
    → (now : List (List ℕ)) × Stands now l.self × (now ++ parts_left l.rest ≡ so_far ++ parts_of l.fn.text)

abbrev pub decreases-parts : goal.decreases-parts
decreases-parts l = option_map_or (λ text. length text.now + 1) l.rest 0
