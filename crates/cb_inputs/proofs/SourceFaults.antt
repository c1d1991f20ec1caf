-- A source has at most one first fault, and none where it has a tree.
use Rattle.std.proofs.Common.{◌≡◌, ◌⊎◌, ℕ, List, [], refl, ap, inl, inr}
use Rattle.cb_tree.specs.Nodes.{Node}
use Rattle.cb_tree.specs.Sound.{IsRead, Reading, Sound, Unsound}
use Rattle.cb_inputs.specs.declared.refused.BodyFault.{BodyFault}
use Rattle.cb_inputs.specs.declared.refused.BodyFault.TheVariants as body
use Rattle.cb_inputs.specs.declared.refused.Refused.{Refused}
use Rattle.cb_inputs.specs.declared.refused.Refused.TheVariants.{Body, Absent, Limit, Store, NoMemory}
use Rattle.cb_inputs.specs.Refusals.{IsSourceFault}
use Rattle.cb_inputs.specs.inner.Kept.{TellsPut}

pub sound_has_none : ((bytes : List ℕ) (a b : Reading) → IsRead bytes a → IsRead bytes b → a ≡ b)
    → (bytes : List ℕ) (nodes : List Node) → IsRead bytes (Sound nodes) → (fault : BodyFault) → IsSourceFault bytes fault → ⊥
sound_has_none law bytes nodes h (body.Source bad) k = let e : Sound nodes ≡ Unsound bad = law bytes (Sound nodes) (Unsound bad) h k in cc
sound_has_none law bytes nodes h (body.Analysis bad) k = k
sound_has_none law bytes nodes h (body.Database bad) k = k
sound_has_none law bytes nodes h (body.Csv bad) k = k

pub only_body : ((bytes : List ℕ) (a b : Reading) → IsRead bytes a → IsRead bytes b → a ≡ b)
    → (bytes : List ℕ) (fault other : BodyFault) → IsSourceFault bytes fault → IsSourceFault bytes other → fault ≡ other
only_body law bytes (body.Analysis bad) other h k = absurd h
only_body law bytes (body.Database bad) other h k = absurd h
only_body law bytes (body.Csv bad) other h k = absurd h
only_body law bytes (body.Source bad) (body.Analysis other) h k = absurd k
only_body law bytes (body.Source bad) (body.Database other) h k = absurd k
only_body law bytes (body.Source bad) (body.Csv other) h k = absurd k
only_body law bytes (body.Source bad) (body.Source other) h k =
    let e : Unsound bad ≡ Unsound other = law bytes (Unsound bad) (Unsound other) h k in
    let same : bad ≡ other = cc in
    ap body.Source same

pub only_fault : ((bytes : List ℕ) (a b : Reading) → IsRead bytes a → IsRead bytes b → a ≡ b)
    → (bytes : List ℕ) (told : Refused) → TellsPut (IsSourceFault bytes) [] told → (fault : BodyFault) → IsSourceFault bytes fault
    → (told ≡ Body fault) ⊎ (told ≡ NoMemory)
only_fault law bytes (Body bad) h fault k = inl (ap Body (only_body law bytes bad fault h k))
only_fault law bytes Absent h fault k = absurd h
only_fault law bytes (Limit name n) h fault k = absurd (h.0 fault k)
only_fault law bytes Store h fault k = absurd h
only_fault law bytes NoMemory h fault k = inr refl
