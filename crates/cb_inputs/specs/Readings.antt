-- What inputs say, by the readings of their formats.
use Rattle.std.specs.Prelude.{◌≡◌, ℕ, List, Option, Some, None, Ok}
use Rattle.std.specs.List.{AllZip}
use Rattle.cb_outside.specs.Tables.{Texts}
use Rattle.cb_tree.specs.Nodes.{Node}
use Rattle.cb_tree.specs.Sound.{IsRead, Sound}
use Rattle.cb_analysis.specs.Analyses.{Contents, analysis}
use Rattle.cb_compdb.specs.declared.entry.Entry.{Entry}
use Rattle.cb_compdb.specs.Databases.{IsDatabase}
use Rattle.cb_measure.specs.declared.row.Row.{Row}
use Rattle.cb_measure.specs.Reading.{measurements}
use Rattle.cb_inputs.specs.Inputs.{Inputs}
use Rattle.cb_inputs.specs.Texts.{ByPath}

-- the inputs as they are read (own)
pub record Known : Type 0 where
  pub analysis : Option Contents
  pub databases : ByPath (List Entry)
  pub sources : ByPath (List Node)
  pub measurements : Option (List Row)

-- an input that may be missing is read as something that may be missing (own)
abbrev pub IsMaybe : {A : Type 0} → (List ℕ → A → Type 0) → Option (List ℕ) → Option A → Type 0
IsMaybe R None None = Unit {0}
IsMaybe R None (Some x) = ⊥
IsMaybe R (Some bytes) None = ⊥
IsMaybe R (Some bytes) (Some x) = R bytes x

-- each text is read as what stands at the same path (own)
abbrev pub AreAt : {A : Type 0} → (List ℕ → A → Type 0) → Texts → ByPath A → Type 0
AreAt R texts values = AllZip (λ text value. (text.0 ≡ value.0) × R text.1 value.1) texts values

-- what the analysis, the databases, the sources and the measurements say (own)
pub record IsKnown (i : Inputs) (k : Known) : Type 0 where
  pub analysis : IsMaybe (λ bytes contents. analysis bytes ≡ Ok contents) i.analysis k.analysis
  pub databases : AreAt IsDatabase i.databases k.databases
  pub sources : AreAt (λ bytes nodes. IsRead bytes (Sound nodes)) i.sources k.sources
  pub measurements : IsMaybe (λ bytes rows. measurements bytes ≡ Ok rows) i.measurements k.measurements
