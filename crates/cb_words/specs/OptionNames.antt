-- The options of the commands.
use Rattle.std.specs.Prelude.{ℕ, Bool, List, [], ◌∷◌, codes, bytes_eq}
use Rattle.cb_words.specs.declared.option_name.OptionName.{OptionName}
use Rattle.cb_words.specs.declared.option_name.OptionName.TheVariants.{Kind, Root, Workers, Measurements, Port, Connections}

-- the name of an option (own)
abbrev pub name_of : OptionName → List ℕ
name_of Kind = codes "--kind"
name_of Root = codes "--root"
name_of Workers = codes "--workers"
name_of Measurements = codes "--measurements"
name_of Port = codes "--port"
name_of Connections = codes "--connections"

-- the two options have one name (own)
abbrev pub is_same : OptionName → OptionName → Bool
is_same one other = bytes_eq (name_of one) (name_of other)

-- the options of the command `report` (own)
abbrev pub report_options : List OptionName
report_options = Kind ∷ Root ∷ Workers ∷ Measurements ∷ []

-- the options of the command `stdio` (own)
abbrev pub stdio_options : List OptionName
stdio_options = Workers ∷ []

-- the options of the command `serve` (own)
abbrev pub serve_options : List OptionName
serve_options = Port ∷ Connections ∷ Workers ∷ []

-- the options of the command `generate` (own)
abbrev pub generate_options : List OptionName
generate_options = []
