-- Two tests that agree on the paths which one of them asks for.
use Rattle.std.proofs.Common.{◌≡◌, ℕ, Bool, true, false, cond, ◌||◌, List, [], ◌∷◌, refl, sym, ap, ◌∙◌, Some}
use Rattle.std.specs.Prelude.{bytes_eq}
use Rattle.std.specs.List.{find, list_any}
use Rattle.std.specs.Cmp.Lexicographic.{bytes_decides}
use Rattle.cb_include.specs.Seen.{has_path, up_to}

-- a path is among those that begin with it
own : (p : List ℕ) (ps : List (List ℕ)) → has_path (p ∷ ps) p ≡ true
own p ps = ap (λ b. b || list_any (bytes_eq p) ps) ((bytes_decides p p).1 refl)

-- and one of the others is among them too
behind : (p q : List ℕ) (ps : List (List ℕ)) → has_path ps q ≡ true → has_path (p ∷ ps) q ≡ true
behind p q ps h = by (bytes_eq q p)
  where
    by : (b : Bool) → (b || list_any (bytes_eq q) ps) ≡ true
    by true = refl
    by false = h

-- at each path that the first test asks for
abbrev pub AgreeUpTo : (List ℕ → Bool) → (List ℕ → Bool) → List (List ℕ) → Type 0
AgreeUpTo some other paths = (path : List ℕ) → has_path (up_to some paths) path ≡ true → some path ≡ other path

abbrev Same : (List ℕ → Bool) → (List ℕ → Bool) → List (List ℕ) → Type 0
Same some other paths = (find other paths ≡ find some paths) × (up_to other paths ≡ up_to some paths)

-- the first of more paths, where the first test gives b
same_by : (some other : List ℕ → Bool) (p : List ℕ) (ps : List (List ℕ)) (b : Bool) → some p ≡ b
    → ((path : List ℕ) → has_path (cond b (p ∷ []) (p ∷ up_to some ps)) path ≡ true → some path ≡ other path)
    → (AgreeUpTo some other ps → Same some other ps)
    → (find other (p ∷ ps) ≡ cond b (Some p) (find some ps)) × (up_to other (p ∷ ps) ≡ cond b (p ∷ []) (p ∷ up_to some ps))
same_by some other p ps true e agree rest =
    let passes : other p ≡ true = sym (agree p (own p [])) ∙ e in
    (rw passes refl, rw passes refl)
same_by some other p ps false e agree rest =
    let fails : other p ≡ false = sym (agree p (own p (up_to some ps))) ∙ e in
    let same = rest (λ path h. agree path (behind p path (up_to some ps) h)) in
    (rw fails same.0, rw fails (ap (λ (l : List (List ℕ)). p ∷ l) same.1))

same : (some other : List ℕ → Bool) (paths : List (List ℕ)) → AgreeUpTo some other paths → Same some other paths
same some other [] agree = (refl, refl)
same some other (p ∷ ps) agree = same_by some other p ps (some p) refl agree (same some other ps)

pub same_found : (some other : List ℕ → Bool) (paths : List (List ℕ)) → AgreeUpTo some other paths → find other paths ≡ find some paths
same_found some other paths agree = (same some other paths agree).0

pub same_asked : (some other : List ℕ → Bool) (paths : List (List ℕ)) → AgreeUpTo some other paths → up_to other paths ≡ up_to some paths
same_asked some other paths agree = (same some other paths agree).1

-- the first of more paths, where the test gives b
found_by : (test : List ℕ → Bool) (p found : List ℕ) (ps : List (List ℕ)) (b : Bool) → test p ≡ b
    → (find test ps ≡ Some found → (test found ≡ true) × (has_path (up_to test ps) found ≡ true))
    → cond b (Some p) (find test ps) ≡ Some found
    → (test found ≡ true) × (has_path (cond b (p ∷ []) (p ∷ up_to test ps)) found ≡ true)
found_by test p found ps true e rest h =
    let same : p ≡ found = cc in
    (ap test (sym same) ∙ e, ap (λ q. has_path (p ∷ []) q) (sym same) ∙ own p [])
found_by test p found ps false e rest h = ((rest h).0, behind p found (up_to test ps) (rest h).1)

-- what is found passes the test and is asked for
pub found_asked : (test : List ℕ → Bool) (found : List ℕ) (paths : List (List ℕ)) → find test paths ≡ Some found
    → (test found ≡ true) × (has_path (up_to test paths) found ≡ true)
found_asked test found [] h = absurd (cc)
found_asked test found (p ∷ ps) h = found_by test p found ps (test p) refl (found_asked test found ps) h
