-- What a macro keeps beside its definition.
use Rattle.std.specs.Prelude.{◌≡◌, ℕ, ◌<◌, List, length}
use Rattle.std.specs.List.{slice_index_or}
use Rattle.cb_paste.specs.declared.part.Part.{Part}
use Rattle.cb_macro.specs.declared.uses.Use.{Use}
use Rattle.cb_macro.specs.Definitions.{Definition, all_parameters}
use Rattle.cb_macro.specs.Parts.{parts, use_of}

-- these are the uses of the parameters, from place 0 on (own)
abbrev pub AreUsesOf : List Use → List Part → Type 0
AreUsesOf uses ps = (i : ℕ) (other : Use) → i < length uses → slice_index_or uses i other ≡ use_of i ps

-- these are the parts of a definition, and the uses of all its parameters (own)
pub record AreKeptOf (d : Definition) (ps : List Part) (uses : List Use) : Type 0 where
  pub all_parts : ps ≡ parts d
  pub count : length uses ≡ length (all_parameters d)
  pub all_uses : AreUsesOf uses ps
