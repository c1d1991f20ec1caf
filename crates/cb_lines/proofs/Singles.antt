-- Lists of one.
use Rattle.std.proofs.Common.{◌≡◌, ◌<◌, ℕ, zero, suc, List, [], ◌∷◌, length, remove, refl, arith}
use Rattle.cb_lines.specs.declared.line_set.Span.{Span}

-- nothing is left of a single span
pub none_left : (spans : List Span) (at : ℕ) → length spans ≡ 1 → at < length spans → [] ≡ remove spans at
none_left [] at h l = absurd (omega arith)
none_left (r ∷ []) zero h l = refl
none_left (r ∷ []) (suc at) h l = absurd (omega arith)
none_left (r ∷ s ∷ spans) at h l = absurd (omega arith)
