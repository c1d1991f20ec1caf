-- The arguments of a call that are taken apart.
use Rattle.std.specs.Prelude.{◌≡◌, ℕ, zero, suc, ◌-◌, List, [], ◌∷◌, slice_index_or, if◌then◌else◌}
use Rattle.cb_paste.specs.declared.work_token.WorkToken.{WorkToken}
use Rattle.cb_macro.specs.Definitions.{Definition}
use Rattle.cb_macro.specs.Parts.{parts, is_shown, is_raw}
use Rattle.cb_expand.specs.declared.work.Left.{Left}
use Rattle.cb_expand.specs.inner.Rows.{between}

-- it is the argument of the parameter in a place, between two heights of a row (own)
pub record IsLeft (d : Definition) (ts : List WorkToken) (place end from : ℕ) (l : Left) : Type 0 where
  pub ends_at : l.end ≡ end
  pub shown : l.is_shown ≡ is_shown place (parts d)
  pub raw : l.raw.items ≡ (if is_raw place (parts d) then between end from ts else [])

-- they are the arguments of the parameters from a place on, between the ends below a height (own)
abbrev pub AreLefts : Definition → List WorkToken → ℕ → ℕ → List ℕ → List Left → Type 0
AreLefts d ts place from [] [] = Unit {0}
AreLefts d ts place from (e ∷ es) (l ∷ ls) = IsLeft d ts place e from l × AreLefts d ts (suc place) (e - 1) es ls
AreLefts d ts place from _ _ = ⊥

-- the height below which the argument in a place begins (own)
abbrev pub begin_of : ℕ → List ℕ → ℕ → ℕ
begin_of height ends zero = height
begin_of height ends (suc i) = slice_index_or ends i 0 - 1
