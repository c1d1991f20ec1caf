-- What a search does over some candidates.
use Rattle.std.specs.Prelude.{◌≡◌, ℕ, Bool, List, Option}
use Rattle.std.specs.List.{find}
use Rattle.cb_include.specs.Seen.{with_paths, up_to}

-- it answers the first of these paths that is present, and adds those up to it to the probes
pub record Finds (present : List ℕ → Bool) (old paths : List (List ℕ)) (found : Option (List ℕ)) (new : List (List ℕ))
    : Type 0 where
  pub first : found ≡ find present paths
  pub added : new ≡ with_paths old (up_to present paths)
