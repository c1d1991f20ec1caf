-- Paths below the top, and folders.
use Rattle.std.specs.Prelude.{◌≡◌, ℕ, ◌==◌, ◌||◌, nat_lt, if◌then◌else◌, Bool, false, List, [], ◌∷◌, ◌++◌, length, drop, bytes_eq, codes, Option, Some, None}
use Rattle.std.specs.List.{list_any}
use Rattle.cb_paths.specs.Parts.{is_up, parts_of, normal, without_ups, rooted}
use Rattle.cb_paths.specs.declared.bad_path.BadPath.{BadPath}
use Rattle.cb_paths.specs.declared.bad_path.PathFault.{PathFault}
use Rattle.cb_paths.specs.declared.bad_path.PathFault.TheVariants.{Bad, NoMemory}
use Rattle.cb_paths.specs.declared.bad_path.BadPath.TheVariants.{Empty, TooLong, Outside, Control}

-- a byte that may stand in no path: below 0x20, or 0x7f (own)
abbrev pub is_control : ℕ → Bool
is_control byte = nat_lt byte 32 || (byte == 127)

-- a text that begins with a slash (own)
abbrev pub is_absolute : List ℕ → Bool
is_absolute [] = false
is_absolute (b ∷ bs) = b == 47

-- parts that begin with a `..`, which no part before it takes away (own)
abbrev pub climbs : List (List ℕ) → Bool
climbs [] = false
climbs (p ∷ ps) = is_up p

-- the text of parts below the top: with a slash between them (own)
abbrev pub path_text : List (List ℕ) → List ℕ
path_text parts = drop 1 (rooted parts)

-- the first thing that keeps a text from being a path (own)
unfoldable pub path_fault : List ℕ → Option BadPath
path_fault text =
    if nat_lt 1024 (length text) then Some TooLong
    else (if list_any is_control text then Some Control
    else (if is_absolute text || climbs (normal (parts_of text)) then Some Outside
    else (if length (normal (parts_of text)) == 0 then Some Empty else None)))

-- a value where there is no fault (own)
abbrev pub unless_faulty : Option BadPath → List ℕ → Option (List ℕ)
unless_faulty (Some bad) value = None
unless_faulty None value = Some value

-- the normal path that a text names below the top, if it names one (own)
unfoldable pub path_of : List ℕ → Option (List ℕ)
path_of text = unless_faulty (path_fault text) (path_text (normal (parts_of text)))

-- the parts of the folder or file that a text names: from the top where it begins with a slash, else from a folder (own)
abbrev pub parts_from : List ℕ → List ℕ → List (List ℕ)
parts_from text base = without_ups (normal ((if is_absolute text then [] else parts_of base) ++ parts_of text))

-- the text of a folder of these parts (own)
abbrev pub folder_text : List (List ℕ) → List ℕ
folder_text [] = codes "/"
folder_text (p ∷ ps) = rooted (p ∷ ps)

-- the first thing that keeps a text from naming a folder (own)
unfoldable pub folder_fault : List ℕ → List ℕ → Option BadPath
folder_fault text base =
    if nat_lt 4096 (length text) || nat_lt 4096 (length (folder_text (parts_from text base))) then Some TooLong
    else (if list_any is_control text then Some Control else None)

-- the folder that a text names from a folder, if it names one (own)
unfoldable pub folder_at : List ℕ → List ℕ → Option (List ℕ)
folder_at text base = unless_faulty (folder_fault text base) (folder_text (parts_from text base))

-- what stands behind the parts of a folder (own)
abbrev pub behind : List (List ℕ) → List (List ℕ) → Option (List (List ℕ))
behind [] parts = Some parts
behind (r ∷ rs) [] = None
behind (r ∷ rs) (p ∷ ps) = if bytes_eq r p then behind rs ps else None

-- a path, unless it is too long or has a control byte (own)
abbrev pub fitting : List ℕ → Option (List ℕ)
fitting path = if nat_lt 1024 (length path) || list_any is_control path then None else Some path

-- the path of parts below a root, if there are some (own)
abbrev pub path_below : Option (List (List ℕ)) → Option (List ℕ)
path_below None = None
path_below (Some []) = None
path_below (Some (p ∷ ps)) = fitting (path_text (p ∷ ps))

-- the path below a root that a text names from a folder, if it names one (own)
unfoldable pub file_at : List ℕ → List ℕ → List ℕ → Option (List ℕ)
file_at text base root = path_below (behind (parts_of root) (parts_from text base))

-- the text of the folder of a path below a root (own)
unfoldable pub folder_holding : List ℕ → List ℕ → List ℕ
folder_holding root path = folder_text (without_ups (normal (parts_of root ++ parts_of path ++ parts_of (codes ".."))))

-- the fault of the folder of a path below a root: that it is too long (own)
abbrev pub holding_fault : List ℕ → List ℕ → Option BadPath
holding_fault root path = if nat_lt 4096 (length (folder_holding root path)) then Some TooLong else None

-- that folder, unless it is too long (own)
abbrev pub folder_of : List ℕ → List ℕ → Option (List ℕ)
folder_of root path = unless_faulty (holding_fault root path) (folder_holding root path)

-- a refusal for another cause than memory gives this fault (own)
abbrev pub Tells : PathFault → Option BadPath → Type 0
Tells (Bad bad) fault = fault ≡ Some bad
Tells NoMemory fault = Unit {0}

-- the number of a fault, as answers give it (own)
abbrev pub fault_number : BadPath → ℕ
fault_number Empty = 1
fault_number TooLong = 2
fault_number Outside = 3
fault_number Control = 4

-- the name of a fault, as answers give it (own)
abbrev pub fault_name : BadPath → List ℕ
fault_name Empty = codes "Empty"
fault_name TooLong = codes "TooLong"
fault_name Outside = codes "Outside"
fault_name Control = codes "Control"
