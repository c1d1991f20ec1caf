-- What stands where in the table of an analysis, which is a table of TOML 1.1.
use Rattle.std.specs.Prelude.{ℕ, Bool, true, false, List, [], ◌∷◌, Option, is_some, codes, option_and_then}
use Rattle.std.specs.List.{list_all, filter_map}
use Rattle.std.specs.Option.{option_map_or}
use Rattle.toml.specs.Data.{Data, Items, no_items, item, Members, no_members, member, get, get_member, as_str, as_array, as_table}

-- the items of a list in order (TOML 1.1, "Array")
abbrev pub list_of : Items → List Data
list_of no_items = []
list_of (item d ds) = d ∷ list_of ds

-- the keys of a table with their values, by the bytes of the keys (TOML 1.1, "Table", where they have no order)
abbrev pub entries_of : Members → List (List ℕ × Data)
entries_of no_members = []
entries_of (member key d ms) = (key, d) ∷ entries_of ms

-- what stands at a key of what may be a table (own)
abbrev pub at_key : List ℕ → Option Data → Option Data
at_key key value = option_and_then (get key) value

-- a value is a text (TOML 1.1, "String")
abbrev pub is_text : Data → Bool
is_text d = is_some (as_str d)

-- a value is a table (TOML 1.1, "Table")
abbrev pub is_table : Data → Bool
is_table d = is_some (as_table d)

-- a value is a list of texts (own)
abbrev pub is_text_list : Data → Bool
is_text_list d = option_map_or (λ items. list_all is_text (list_of items)) (as_array d) false

-- nothing, or a value that passes a test (own)
abbrev pub is_absent_or : (Data → Bool) → Option Data → Bool
is_absent_or test value = option_map_or test value true

-- the texts of a list (own)
abbrev pub texts_of : Data → List (List ℕ)
texts_of d = option_map_or (λ items. filter_map as_str (list_of items)) (as_array d) []

-- the texts of a list that may be there (own)
abbrev pub texts_in : Option Data → List (List ℕ)
texts_in value = option_map_or texts_of value []

-- what stands at `platform` (own)
abbrev pub platform_at : Members → Option Data
platform_at t = get_member (codes "platform") t

-- the entries of what may be a table (own)
abbrev pub entries_in : Option Data → List (List ℕ × Data)
entries_in value = option_map_or entries_of (option_and_then as_table value) []

-- what stands at `codebase` (own)
abbrev pub codebase_at : Members → Option Data
codebase_at t = get_member (codes "codebase") t
