-- What comes of an edit.
use Rattle.std.specs.Prelude.{◌≡◌, ℕ, ◌++◌, Bool, true, false, List, [], ◌∷◌, Some, None}
use Rattle.cb_outside.specs.Tables.{text_at}
use Rattle.cb_inputs.specs.declared.refused.BodyFault.{BodyFault}
use Rattle.cb_inputs.specs.declared.refused.LimitName.{LimitName}
use Rattle.cb_inputs.specs.declared.refused.LimitName.TheVariants as limit
use Rattle.cb_inputs.specs.declared.refused.Refused.{Refused}
use Rattle.cb_inputs.specs.declared.refused.Refused.TheVariants as refused
use Rattle.cb_inputs.specs.Texts.{first_over, source_amounts, database_amounts}
use Rattle.cb_inputs.specs.Refusals.{IsAnalysisFault, IsDatabaseFault, IsMeasurementsFault, IsSourceFault}
use Rattle.cb_inputs.specs.Inputs.{Inputs, Edit, PutAnalysis, PutMeasurements, PutDatabase, PutSource, RemoveDatabase, RemoveSource, after}
use Rattle.cb_inputs.specs.Readings.{Known, IsKnown}
use Rattle.cb_inputs.specs.Commands.{command_count}

-- the bytes that an edit puts have this fault; a removal puts none (own)
abbrev pub HasBodyFault : Edit → BodyFault → Type 0
HasBodyFault (PutAnalysis bytes) fault = IsAnalysisFault bytes fault
HasBodyFault (PutMeasurements bytes) fault = IsMeasurementsFault bytes fault
HasBodyFault (PutDatabase path bytes) fault = IsDatabaseFault bytes fault
HasBodyFault (PutSource path bytes) fault = IsSourceFault bytes fault
HasBodyFault (RemoveDatabase path) fault = ⊥
HasBodyFault (RemoveSource path) fault = ⊥

-- whether an edit puts something (own)
abbrev pub is_put : Edit → Bool
is_put (RemoveDatabase path) = false
is_put (RemoveSource path) = false
is_put edit = true

-- what a removal names is not there (own)
abbrev pub RemovesNothing : Edit → Inputs → Type 0
RemovesNothing (RemoveDatabase path) i = text_at path i.databases ≡ None
RemovesNothing (RemoveSource path) i = text_at path i.sources ≡ None
RemovesNothing edit i = ⊥

-- how much there is of everything that has a limit, in the order in which limits are looked at (own)
abbrev pub amounts : Inputs → Known → List (LimitName × ℕ)
amounts i k = source_amounts i.sources ++ database_amounts i.databases ++ (limit.Commands, command_count k) ∷ []

-- the bytes that an edit puts have no fault (own)
abbrev pub IsGood : Edit → Type 0
IsGood edit = (is_put edit ≡ true) × ((fault : BodyFault) → HasBodyFault edit fault → ⊥)

-- an edit is accepted, with the inputs that stand then, or refused, and then the inputs stay (own)
pub data Outcome : Type 0 where
  Accepts : Inputs → Outcome
  Denies : Refused → Outcome

-- what comes of an edit: a removal is refused where it removes nothing; of what is put first the bytes decide, then the
-- first limit that the inputs after it pass (own)
pub data IsOutcome (i : Inputs) (edit : Edit) : Outcome → Type 0 where
  absent : RemovesNothing edit i → IsOutcome i edit (Denies refused.Absent)
  removes : is_put edit ≡ false → (RemovesNothing edit i → ⊥) → IsOutcome i edit (Accepts (after edit i))
  faulty : (fault : BodyFault) → HasBodyFault edit fault → IsOutcome i edit (Denies (refused.Body fault))
  over : (k : Known) (name : LimitName) (n : ℕ) → IsGood edit → IsKnown (after edit i) k
      → first_over (amounts (after edit i) k) ≡ Some (name, n)
      → IsOutcome i edit (Denies (refused.Limit name n))
  puts : (k : Known) → IsGood edit → IsKnown (after edit i) k
      → first_over (amounts (after edit i) k) ≡ None → IsOutcome i edit (Accepts (after edit i))
