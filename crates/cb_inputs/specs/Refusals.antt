-- Why a put is refused.
use Rattle.std.specs.Prelude.{◌≡◌, ℕ, List, Some, Err}
use Rattle.cb_tree.specs.Sound.{IsRead, Unsound}
use Rattle.cb_measure.specs.Reading.{measurements}
use Rattle.cb_analysis.specs.Analyses.{analysis}
use Rattle.cb_compdb.specs.Databases.{HasFault}
use Rattle.cb_inputs.specs.declared.refused.BodyFault.{BodyFault}
use Rattle.cb_inputs.specs.declared.refused.BodyFault.TheVariants as body
use Rattle.cb_inputs.specs.declared.refused.Refused.{Refused}
use Rattle.cb_inputs.specs.declared.refused.Refused.TheVariants.{Body, Limit, Store, NoMemory}
use Rattle.cb_inputs.specs.declared.refused.LimitName.{LimitName}
use Rattle.cb_inputs.specs.Texts.{first_over}

-- the first fault of bytes as a database (own)
abbrev pub IsDatabaseFault : List ℕ → BodyFault → Type 0
IsDatabaseFault bytes (body.Database bad) = HasFault bytes bad
IsDatabaseFault bytes fault = ⊥

-- the first fault of bytes as a source (own)
abbrev pub IsSourceFault : List ℕ → BodyFault → Type 0
IsSourceFault bytes (body.Source bad) = IsRead bytes (Unsound bad)
IsSourceFault bytes fault = ⊥

-- the first fault of bytes as an analysis (own)
abbrev pub IsAnalysisFault : List ℕ → BodyFault → Type 0
IsAnalysisFault bytes (body.Analysis bad) = analysis bytes ≡ Err bad
IsAnalysisFault bytes fault = ⊥

-- the first fault of bytes as measurements (own)
abbrev pub IsMeasurementsFault : List ℕ → BodyFault → Type 0
IsMeasurementsFault bytes (body.Csv bad) = measurements bytes ≡ Err bad
IsMeasurementsFault bytes fault = ⊥

-- why a put is refused: for the fault of its bytes, and else for the first of the amounts after it that is over its
-- limit (own)
abbrev pub IsDenied : (BodyFault → Type 0) → List (LimitName × ℕ) → Refused → Type 0
IsDenied HasFault amounts (Body fault) = HasFault fault
IsDenied HasFault amounts (Limit name n) = ((fault : BodyFault) → HasFault fault → ⊥) × (first_over amounts ≡ Some (name, n))
IsDenied HasFault amounts refused = ⊥

-- a refusal that no input causes: the keeper failed, or memory ran out (own)
abbrev pub IsOutside : Refused → Type 0
IsOutside Store = Unit {0}
IsOutside NoMemory = Unit {0}
IsOutside refused = ⊥
