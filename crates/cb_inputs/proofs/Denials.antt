-- What a put is refused for, by the step that refuses it.
use Rattle.std.proofs.Common.{◌≡◌, ◌⊎◌, ◌∙◌, ℕ, List, [], Option, Some, None, Result, Err, refl, sym, ap, inl, inr}
use Rattle.cb_inputs.specs.declared.refused.BodyFault.{BodyFault}
use Rattle.cb_inputs.specs.declared.refused.LimitName.{LimitName}
use Rattle.cb_inputs.specs.declared.refused.Refused.{Refused}
use Rattle.cb_inputs.specs.declared.refused.Refused.TheVariants.{Body, Absent, Limit, Store, NoMemory}
use Rattle.cb_inputs.specs.Texts.{first_over}
use Rattle.cb_inputs.specs.Refusals.{IsDenied}
use Rattle.cb_inputs.specs.inner.Kept.{TellsPut}

-- the refusal for a limit that is passed
abbrev pub told_of : Option (LimitName × ℕ) → Refused
told_of None = Absent
told_of (Some over) = Limit over.0 over.1

module _ (HasFault : BodyFault → Type 0) (amounts : List (LimitName × ℕ)) where
  none_told : (told refused : Refused) → TellsPut HasFault [] told → ((fault : BodyFault) → HasFault fault → ⊥) → (told ≡ refused) ⊎ (told ≡ NoMemory)
  none_told (Body fault) refused t none = absurd (none fault t)
  none_told Absent refused t none = absurd t
  none_told (Limit name n) refused t none = cc
  none_told Store refused t none = absurd t
  none_told NoMemory refused t none = inr refl

  -- a limit that is passed is not told before limits are looked at
  pub no_limit : {T : Type 0} (result : Result T Refused) (told : Refused) → result ≡ Err told → TellsPut HasFault [] told
      → (name : LimitName) (n : ℕ) → result ≡ Err (Limit name n) → ⊥
  no_limit result (Body fault) e t name n h = cc
  no_limit result Absent e t name n h = t
  no_limit result (Limit other m) e t name n h = let first : first_over [] ≡ Some (other, m) = t.1 in cc
  no_limit result Store e t name n h = t
  no_limit result NoMemory e t name n h = cc

  -- the bytes are refused
  pub body_decides : (told : Refused) → TellsPut HasFault [] told → ((fault : BodyFault) → HasFault fault → (told ≡ Body fault) ⊎ (told ≡ NoMemory))
      → (refused : Refused) → IsDenied HasFault amounts refused → (told ≡ refused) ⊎ (told ≡ NoMemory)
  body_decides told t only (Body fault) h = only fault h
  body_decides told t only Absent h = absurd h
  body_decides told t only (Limit name n) h = none_told told (Limit name n) t h.0
  body_decides told t only Store h = absurd h
  body_decides told t only NoMemory h = absurd h

  -- a limit would be passed
  pub limit_decides : ((fault : BodyFault) → HasFault fault → ⊥) → (name : LimitName) (n : ℕ) → first_over amounts ≡ Some (name, n)
      → (refused : Refused) → IsDenied HasFault amounts refused → (Limit name n ≡ refused) ⊎ (Limit name n ≡ NoMemory)
  limit_decides none name n over (Body fault) h = absurd (none fault h)
  limit_decides none name n over Absent h = absurd h
  limit_decides none name n over (Limit other m) h =
      let first : first_over amounts ≡ Some (other, m) = h.1 in
      inl (ap told_of (sym over ∙ first))
  limit_decides none name n over Store h = absurd h
  limit_decides none name n over NoMemory h = absurd h

  -- nothing refuses it
  pub none_denied : ((fault : BodyFault) → HasFault fault → ⊥) → first_over amounts ≡ None → (refused : Refused) → IsDenied HasFault amounts refused → ⊥
  none_denied none within (Body fault) h = none fault h
  none_denied none within Absent h = h
  none_denied none within (Limit name n) h = let first : first_over amounts ≡ Some (name, n) = h.1 in cc
  none_denied none within Store h = h
  none_denied none within NoMemory h = h
