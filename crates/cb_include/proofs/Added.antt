-- What a list of paths holds after others have been added.
use Rattle.std.proofs.Common.{◌≡◌, ℕ, Bool, true, false, cond, ◌||◌, List, [], ◌∷◌, ◌++◌, refl, sym, ap, ◌∙◌, append_assoc, append-nil}
use Rattle.std.specs.Prelude.{bytes_eq}
use Rattle.std.specs.Cmp.Lexicographic.{bytes_decides}
use Rattle.std.proofs.lemmas.List.Folds.{list_any-append}
use Rattle.std.proofs.Math.Bool.{or_assoc}
use Rattle.cb_include.specs.Seen.{has_path, with_path, with_paths}

-- a path equal to one that is there is there
kept : (paths : List (List ℕ)) (p q : List ℕ) (b : Bool) → bytes_eq q p ≡ b → has_path paths p ≡ true
    → has_path paths q ≡ (has_path paths q || b)
kept paths p q true e h = ap (has_path paths) ((bytes_decides q p).0 e) ∙ h
    ∙ ap (λ c. c || true) (sym (ap (has_path paths) ((bytes_decides q p).0 e) ∙ h))
kept paths p q false e h = or_none (has_path paths q)
  where
    or_none : (c : Bool) → c ≡ (c || false)
    or_none true = refl
    or_none false = refl

has_by : (paths : List (List ℕ)) (p q : List ℕ) (b : Bool) → has_path paths p ≡ b
    → has_path (cond b paths (paths ++ p ∷ [])) q ≡ (has_path paths q || has_path (p ∷ []) q)
has_by paths p q true e = kept paths p q (bytes_eq q p || false) (one (bytes_eq q p)) e
  where
    one : (c : Bool) → c ≡ (c || false)
    one true = refl
    one false = refl
has_by paths p q false e = list_any-append (bytes_eq q) paths (p ∷ [])

pub has-with_path : (paths : List (List ℕ)) (p q : List ℕ) → has_path (with_path paths p) q ≡ (has_path paths q || bytes_eq q p)
has-with_path paths p q = has_by paths p q (has_path paths p) refl ∙ ap (λ c. has_path paths q || c) (one (bytes_eq q p))
  where
    one : (c : Bool) → (c || false) ≡ c
    one true = refl
    one false = refl

pub has-with_paths : (paths others : List (List ℕ)) (q : List ℕ) → has_path (with_paths paths others) q ≡ (has_path paths q || has_path others q)
has-with_paths paths [] q = one (has_path paths q)
  where
    one : (c : Bool) → c ≡ (c || false)
    one true = refl
    one false = refl
has-with_paths paths (p ∷ ps) q =
    has-with_paths (with_path paths p) ps q
    ∙ ap (λ c. c || has_path ps q) (has-with_path paths p q)
    ∙ or_assoc (has_path paths q) (bytes_eq q p) (has_path ps q)

longer_by : (paths : List (List ℕ)) (p : List ℕ) (b : Bool) → (more : List (List ℕ)) × (cond b paths (paths ++ p ∷ []) ≡ paths ++ more)
longer_by paths p true = ([], sym (append-nil paths))
longer_by paths p false = (p ∷ [], refl)

-- the paths that are there stay at the front
pub longer : (paths others : List (List ℕ)) → (more : List (List ℕ)) × (with_paths paths others ≡ paths ++ more)
longer paths [] = ([], sym (append-nil paths))
longer paths (p ∷ ps) =
    let first = longer_by paths p (has_path paths p) in
    let rest = longer (with_path paths p) ps in
    (first.0 ++ rest.0, rest.1 ∙ ap (λ l. l ++ rest.0) first.1 ∙ append_assoc paths first.0 rest.0)
