-- A database has at most one first fault, and none where it has entries.
use Rattle.std.proofs.Common.{◌≡◌, ◌⊎◌, ℕ, List, [], refl, ap, inl, inr}
use Rattle.cb_compdb.specs.Databases.{IsDatabase, HasFault}
use Rattle.cb_compdb.specs.declared.entry.Entry.{Entry}
use Rattle.cb_compdb.specs.declared.fault.BadDatabase.{BadDatabase}
use Rattle.cb_inputs.specs.declared.refused.BodyFault.{BodyFault}
use Rattle.cb_inputs.specs.declared.refused.BodyFault.TheVariants as body
use Rattle.cb_inputs.specs.declared.refused.Refused.{Refused}
use Rattle.cb_inputs.specs.declared.refused.Refused.TheVariants.{Body, Absent, Limit, Store, NoMemory}
use Rattle.cb_inputs.specs.Refusals.{IsDatabaseFault}
use Rattle.cb_inputs.specs.inner.Kept.{TellsPut}

pub sound_has_none : ((bytes : List ℕ) (entries : List Entry) (bad : BadDatabase) → IsDatabase bytes entries → HasFault bytes bad → ⊥)
    → (bytes : List ℕ) (entries : List Entry) → IsDatabase bytes entries → (fault : BodyFault) → IsDatabaseFault bytes fault → ⊥
sound_has_none law bytes entries h (body.Source bad) k = k
sound_has_none law bytes entries h (body.Analysis bad) k = k
sound_has_none law bytes entries h (body.Database bad) k = law bytes entries bad h k
sound_has_none law bytes entries h (body.Csv bad) k = k

pub only_body : ((bytes : List ℕ) (bad other : BadDatabase) → HasFault bytes bad → HasFault bytes other → bad ≡ other)
    → (bytes : List ℕ) (fault other : BodyFault) → IsDatabaseFault bytes fault → IsDatabaseFault bytes other → fault ≡ other
only_body law bytes (body.Source bad) other h k = absurd h
only_body law bytes (body.Analysis bad) other h k = absurd h
only_body law bytes (body.Csv bad) other h k = absurd h
only_body law bytes (body.Database bad) (body.Source other) h k = absurd k
only_body law bytes (body.Database bad) (body.Analysis other) h k = absurd k
only_body law bytes (body.Database bad) (body.Csv other) h k = absurd k
only_body law bytes (body.Database bad) (body.Database other) h k = ap body.Database (law bytes bad other h k)

pub only_fault : ((bytes : List ℕ) (bad other : BadDatabase) → HasFault bytes bad → HasFault bytes other → bad ≡ other)
    → (bytes : List ℕ) (told : Refused) → TellsPut (IsDatabaseFault bytes) [] told → (fault : BodyFault) → IsDatabaseFault bytes fault
    → (told ≡ Body fault) ⊎ (told ≡ NoMemory)
only_fault law bytes (Body bad) h fault k = inl (ap Body (only_body law bytes bad fault h k))
only_fault law bytes Absent h fault k = absurd h
only_fault law bytes (Limit name n) h fault k = absurd (h.0 fault k)
only_fault law bytes Store h fault k = absurd h
only_fault law bytes NoMemory h fault k = inr refl
