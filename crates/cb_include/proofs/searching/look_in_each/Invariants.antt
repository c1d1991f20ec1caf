use Rattle.std.proofs.Common.{ℕ, List, drop, Option}
use Rattle.std.specs.List.{filter_map}
use Rattle.cb_paths.specs.Paths.{file_at}
use Rattle.cb_include.specs.inner.Finding.{Finds}
use Rattle.cb_include.proofs.searching.look_in_each.Given as goal

-- what the folders that are left find, they all find
abbrev pub invariant-folders : goal.invariant-folders
invariant-folders g l =
    (found : Option (List ℕ)) (new : List (List ℕ))
    → Finds (g.F.Present.holds l.files) l.probes (filter_map (λ folder. file_at l.text folder l.root) (drop l.folder-index l.folder-items)) found new
    → Finds (g.F.Present.holds l.files) l.initial.probes (filter_map (λ folder. file_at l.text folder l.root) l.folders) found new
