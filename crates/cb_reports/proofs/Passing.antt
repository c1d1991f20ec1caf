-- The names that pass a test, one more at a time.
use Rattle.std.proofs.Common.{◌≡◌, ℕ, ◌+◌, ◌<◌, Bool, true, false, List, [], ◌∷◌, ◌++◌, length, filter, take, get_or, refl, ◌∙◌}
use Rattle.std.proofs.lemmas.List.{append-nil}
use Rattle.std.proofs.lemmas.List.Elements.{filter_more}

pub passes_more : (q : List ℕ → Bool) (ps : List (List ℕ)) (i : ℕ) (x : List ℕ) → i < length ps → x ≡ get_or ps i x → q x ≡ true → filter q (take (i + 1) ps) ≡ filter q (take i ps) ++ x ∷ []
passes_more q ps i x within e t = filter_more q ps i x within ∙ rw (← e, t) refl

pub passes_over : (q : List ℕ → Bool) (ps : List (List ℕ)) (i : ℕ) (x : List ℕ) → i < length ps → x ≡ get_or ps i x → q x ≡ false → filter q (take (i + 1) ps) ≡ filter q (take i ps)
passes_over q ps i x within e t = filter_more q ps i x within ∙ rw (← e, t) (append-nil (filter q (take i ps)))

pub ruleset passing = (passes_more, passes_over)
