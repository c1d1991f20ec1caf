-- What is said, by its status and its text.
use Rattle.std.proofs.Common.{◌≡◌, ℕ, List, sym, subst}

pub from_parts : (P : ℕ → List ℕ → Type 0) (s s' : ℕ) (t t' : List ℕ) → s' ≡ s → t' ≡ t → P s t → P s' t'
from_parts P s s' t t' status_is text_is p =
    let Q : ℕ → Type 0 = λ n. P n t' in
    let R : List ℕ → Type 0 = λ bs. P s bs in
    subst Q (sym status_is) (subst R (sym text_is) p)
