-- An analysis has at most one first fault, and none where it has contents.
use Rattle.std.proofs.Common.{◌≡◌, ◌⊎◌, ℕ, List, [], Ok, refl, ap, inl, inr}
use Rattle.cb_analysis.specs.Analyses.{Contents, analysis}
use Rattle.cb_inputs.specs.declared.refused.BodyFault.{BodyFault}
use Rattle.cb_inputs.specs.declared.refused.BodyFault.TheVariants as body
use Rattle.cb_inputs.specs.declared.refused.Refused.{Refused}
use Rattle.cb_inputs.specs.declared.refused.Refused.TheVariants.{Body, Absent, Limit, Store, NoMemory}
use Rattle.cb_inputs.specs.Refusals.{IsAnalysisFault}
use Rattle.cb_inputs.specs.inner.Kept.{TellsPut}

pub contents_have_none : (bytes : List ℕ) (contents : Contents) → analysis bytes ≡ Ok contents
    → (fault : BodyFault) → IsAnalysisFault bytes fault → ⊥
contents_have_none bytes contents h (body.Source bad) k = k
contents_have_none bytes contents h (body.Csv bad) k = k
contents_have_none bytes contents h (body.Database bad) k = k
contents_have_none bytes contents h (body.Analysis bad) k = cc

pub only_body : (bytes : List ℕ) (fault other : BodyFault) → IsAnalysisFault bytes fault → IsAnalysisFault bytes other → fault ≡ other
only_body bytes (body.Source bad) other h k = absurd h
only_body bytes (body.Database bad) other h k = absurd h
only_body bytes (body.Csv bad) other h k = absurd h
only_body bytes (body.Analysis bad) (body.Source other) h k = absurd k
only_body bytes (body.Analysis bad) (body.Database other) h k = absurd k
only_body bytes (body.Analysis bad) (body.Csv other) h k = absurd k
only_body bytes (body.Analysis bad) (body.Analysis other) h k = let same : bad ≡ other = cc in ap body.Analysis same

pub only_fault : (bytes : List ℕ) (told : Refused) → TellsPut (IsAnalysisFault bytes) [] told → (fault : BodyFault) → IsAnalysisFault bytes fault
    → (told ≡ Body fault) ⊎ (told ≡ NoMemory)
only_fault bytes (Body bad) h fault k = inl (ap Body (only_body bytes bad fault h k))
only_fault bytes Absent h fault k = absurd h
only_fault bytes (Limit name n) h fault k = absurd (h.0 fault k)
only_fault bytes Store h fault k = absurd h
only_fault bytes NoMemory h fault k = inr refl
