-- Files in memory (own).
use Rattle.std.specs.Prelude.{◌≡◌, ℕ, List, Option, Some, None, bytes_eq, refl}
use Rattle.std.specs.Option.{option_map, is_some}
use Rattle.std.specs.Map.{lookup}
use Rattle.cb_tree.specs.Nodes.{Node}
use Rattle.cb_tree.specs.Skeleton.{skeleton}

-- the file at a path (own)
abbrev pub tree_at : List (List ℕ × List Node) → List ℕ → Option (List Node)
tree_at files path = lookup (bytes_eq path) files

-- where there are nodes there is a skeleton (own)
some_bones : (nodes : Option (List Node)) → is_some nodes ≡ is_some (option_map skeleton nodes)
some_bones None = refl
some_bones (Some nodes) = refl

-- a file has a skeleton (own)
pub some_skeleton : (files : List (List ℕ × List Node)) (path : List ℕ)
    → is_some (tree_at files path) ≡ is_some (option_map skeleton (tree_at files path))
some_skeleton files path = some_bones (tree_at files path)
