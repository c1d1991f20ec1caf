-- Measurements have at most one first fault, and none where they have rows.
use Rattle.std.proofs.Common.{◌≡◌, ◌⊎◌, ℕ, List, [], Ok, refl, ap, inl, inr}
use Rattle.cb_measure.specs.declared.row.Row.{Row}
use Rattle.cb_measure.specs.Reading.{measurements}
use Rattle.cb_inputs.specs.declared.refused.BodyFault.{BodyFault}
use Rattle.cb_inputs.specs.declared.refused.BodyFault.TheVariants as body
use Rattle.cb_inputs.specs.declared.refused.Refused.{Refused}
use Rattle.cb_inputs.specs.declared.refused.Refused.TheVariants.{Body, Absent, Limit, Store, NoMemory}
use Rattle.cb_inputs.specs.Refusals.{IsMeasurementsFault}
use Rattle.cb_inputs.specs.inner.Kept.{TellsPut}

pub rows_have_none : (bytes : List ℕ) (rows : List Row) → measurements bytes ≡ Ok rows
    → (fault : BodyFault) → IsMeasurementsFault bytes fault → ⊥
rows_have_none bytes rows h (body.Source bad) k = k
rows_have_none bytes rows h (body.Analysis bad) k = k
rows_have_none bytes rows h (body.Database bad) k = k
rows_have_none bytes rows h (body.Csv bad) k = cc

pub only_body : (bytes : List ℕ) (fault other : BodyFault) → IsMeasurementsFault bytes fault → IsMeasurementsFault bytes other → fault ≡ other
only_body bytes (body.Source bad) other h k = absurd h
only_body bytes (body.Database bad) other h k = absurd h
only_body bytes (body.Analysis bad) other h k = absurd h
only_body bytes (body.Csv bad) (body.Source other) h k = absurd k
only_body bytes (body.Csv bad) (body.Database other) h k = absurd k
only_body bytes (body.Csv bad) (body.Analysis other) h k = absurd k
only_body bytes (body.Csv bad) (body.Csv other) h k = let same : bad ≡ other = cc in ap body.Csv same

pub only_fault : (bytes : List ℕ) (told : Refused) → TellsPut (IsMeasurementsFault bytes) [] told → (fault : BodyFault) → IsMeasurementsFault bytes fault
    → (told ≡ Body fault) ⊎ (told ≡ NoMemory)
only_fault bytes (Body bad) h fault k = inl (ap Body (only_body bytes bad fault h k))
only_fault bytes Absent h fault k = absurd h
only_fault bytes (Limit name n) h fault k = absurd (h.0 fault k)
only_fault bytes Store h fault k = absurd h
only_fault bytes NoMemory h fault k = inr refl
