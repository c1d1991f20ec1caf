-- One source as the files of a pass. No public clause names these words.
use Rattle.std.specs.Prelude.{◌≡◌, ℕ, if◌then◌else◌, Bool, true, false, List, Some, None, bytes_eq, refl}
use Rattle.std.specs.Option.{is_some}
use Rattle.cb_tree.specs.Nodes.{Node}
use Rattle.cb_tree.specs.Skeleton.{Bone, skeleton}
use Rattle.codebasin.specs.Specialise.{source_path, only}

some_where : (here : Bool) (bones : List Bone) → here ≡ is_some (if here then Some bones else None)
some_where true bones = refl
some_where false bones = refl

-- the source is present, and no other file
pub only_has_tree : (nodes : List Node) (path : List ℕ) → bytes_eq path source_path ≡ is_some (only nodes path)
only_has_tree nodes path = some_where (bytes_eq path source_path) (skeleton nodes)
