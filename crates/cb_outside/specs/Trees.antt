-- Files by their paths, and the names in a folder.
use Rattle.std.specs.Prelude.{◌≡◌, ℕ, ◌==◌, not, if◌then◌else◌, List, [], ◌∷◌, ◌++◌, length, map, take, drop, bytes_eq, codes, Option, Some, None, is_some, option_map}
use Rattle.std.specs.Option.{option_and_then}
use Rattle.std.specs.List.{All, filter, filter_map, position}
use Rattle.std.specs.Map.{keys_of}
use Rattle.cb_paths.specs.Paths.{path_of}
use Rattle.cb_outside.specs.Tables.{Texts, Rise}
use Rattle.cb_outside.specs.declared.names.Name.{Name}
use Rattle.cb_outside.specs.declared.names.NameKind.{NameKind}
use Rattle.cb_outside.specs.declared.names.NameKind.TheVariants.{File, Folder}

-- files by their paths, which are normal (own)
pub record AreFiles (files : Texts) : Type 0 where
  pub rise : Rise files
  pub normal : All (λ path. path_of path ≡ Some path) (keys_of files)

-- what stands behind a front, where bytes begin with it (own)
abbrev pub behind : List ℕ → List ℕ → Option (List ℕ)
behind front bytes = if bytes_eq (take (length front) bytes) front then Some (drop (length front) bytes) else None

-- what of a path lies below a folder: all of it below the top, which is the empty text, and else what stands behind the folder and a slash (own)
abbrev pub below : List ℕ → List ℕ → Option (List ℕ)
below [] path = Some path
below (b ∷ bs) path = option_and_then (behind (codes "/")) (behind (b ∷ bs) path)

-- the first slash (own)
abbrev pub slash_in : List ℕ → Option ℕ
slash_in bytes = position (λ b. b == 47) bytes

-- the name that a path has in a folder, if it stands directly in it (own)
abbrev pub file_in : List ℕ → List ℕ → Option (List ℕ)
file_in folder path = option_and_then (λ rest. if is_some (slash_in rest) then None else Some rest) (below folder path)

-- the folder in a folder through which a path goes on, if it does (own)
abbrev pub folder_in : List ℕ → List ℕ → Option (List ℕ)
folder_in folder path = option_and_then (λ rest. option_map (λ at. take at rest) (slash_in rest)) (below folder path)

-- texts, each once (own)
abbrev pub each_once : List (List ℕ) → List (List ℕ)
each_once [] = []
each_once (x ∷ xs) = x ∷ filter (λ y. not (bytes_eq x y)) (each_once xs)

-- a name of a kind (own)
abbrev pub named : NameKind → List ℕ → Name
named kind text = record { text = text; kind = kind }

-- the names in a folder: of each file that stands directly in it, and each once of the folders through which paths go on (own)
unfoldable pub names_in : List ℕ → Texts → List Name
names_in folder files =
    map (named File) (filter_map (file_in folder) (keys_of files))
    ++ map (named Folder) (each_once (filter_map (folder_in folder) (keys_of files)))
