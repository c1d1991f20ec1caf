-- Numbers of names, one name more at a time.
use Rattle.std.proofs.Common.{◌≡◌, ℕ, ◌+◌, ◌<◌, ◌≤◌, Bool, true, false, cond, Option, Some, None, unwrap_or, List, [], ◌∷◌, ◌++◌, length, refl, sym, ap, ◌∙◌, arith, zero, suc, inl, inr, ◌⊎◌, subst}
use Rattle.std.specs.Prelude.{IsSome, is_some}
use Rattle.std.specs.Str.{bytes_eq}
use Rattle.std.specs.Global.{Vec}
use Rattle.std.specs.HashMap.{HashMap, hash_map_len, Updates}
use Rattle.std.specs.Map.{KeepsOthers}
use Rattle.std.specs.Cmp.Lexicographic.{nat_list_eq_equiv}
use Rattle.std.proofs.lemmas.Bool.{cases_Bool, false≢true, cond-true, cond-false}
use Rattle.cb_measure.specs.inner.Numbers.{number_found, number_in, AreApart, IsKnown, AreKnown, IsNumbering}
use Rattle.cb_measure.specs.declared.row.Row.{Row}
use Rattle.cb_measure.proofs.Numbered.{bytes_same, bytes_one}

apart_from : (bs cs ks : List ℕ) → bytes_eq bs cs ≡ false → bytes_eq bs ks ≡ true → bytes_eq cs ks ≡ false
apart_from bs cs ks n y = nat_list_eq_equiv.symm cs ks ∙ sym (nat_list_eq_equiv.congr bs ks cs y) ∙ n

-- what is found after a name was put in
pub found_after : {S : Type 0} (m n : HashMap (Vec ℕ) ℕ S) (k : Vec ℕ) (v : ℕ) → Updates (λ x y. bytes_eq x.items y.items) m n k (Some v)
    → (q : List ℕ) → number_found n q ≡ cond (bytes_eq k.items q) (Some v) (number_found m q)
unfolding KeepsOthers
found_after m n k v h q = elim (cases_Bool (bytes_eq k.items q)) [
  | inl t ↦ (let P : List ℕ → Type 0 = λ l. number_found n l ≡ Some v in subst P (bytes_one k.items q t) h.1 ∙ sym (cond-true (bytes_eq k.items q) (Some v) (number_found m q) t))
  | inr f ↦ h.3 (λ y. bytes_eq q y.items) (λ x y. nat_list_eq_equiv.congr q x.items y.items) (λ y. apart_from k.items q y.items f)
      ∙ sym (cond-false (bytes_eq k.items q) (Some v) (number_found m q) f)
]

pub not_some : (o : Option ℕ) → is_some o ≡ false → o ≡ None
not_some None e = refl
not_some (Some n) e = absurd (false≢true (sym e))

-- the numbers of names, as functions: g is f with the number v of the name x, which had none
pub record IsAdded (f g : List ℕ → Option ℕ) (x : List ℕ) (v : ℕ) : Type 0 where
  pub after : (q : List ℕ) → g q ≡ cond (bytes_eq x q) (Some v) (f q)
  pub none : f x ≡ None

pub added_here : (f g : List ℕ → Option ℕ) (x : List ℕ) (v : ℕ) → IsAdded f g x v → g x ≡ Some v
added_here f g x v h = h.after x ∙ rw (bytes_same x) refl

pub added_kept : (f g : List ℕ → Option ℕ) (x : List ℕ) (v : ℕ) → IsAdded f g x v → (q : List ℕ) (n : ℕ) → f q ≡ Some n → g q ≡ Some n
added_kept f g x v h q n e = elim (cases_Bool (bytes_eq x q)) [
  | inl t ↦ (let c : None ≡ Some n = sym h.none ∙ ap f (bytes_one x q t) ∙ e in cc)
  | inr no' ↦ h.after q ∙ rw no' e
]

-- a number that is found is the new one or an old one
found_either : (f g : List ℕ → Option ℕ) (x : List ℕ) (v : ℕ) → IsAdded f g x v → (q : List ℕ) (n : ℕ) → g q ≡ Some n → ((x ≡ q) × (v ≡ n)) ⊎ (f q ≡ Some n)
found_either f g x v h q n e = elim (cases_Bool (bytes_eq x q)) [
  | inl t ↦ (let c : Some v ≡ Some n = sym (h.after q ∙ rw t refl) ∙ e in inl (bytes_one x q t, cc))
  | inr no' ↦ inr (sym (h.after q ∙ rw no' refl) ∙ e)
]

pub added_apart : (f g : List ℕ → Option ℕ) (x : List ℕ) (v : ℕ) → IsAdded f g x v → v < 4294967295 → AreApart f v → AreApart g (v + 1)
added_apart f g x v h few a = record {
  apart = λ p q n e o. both p q n (found_either f g x v h p n e) (found_either f g x v h q n o);
  below = λ p n e. under p n (found_either f g x v h p n e);
  few = omega arith;
}
  where
    both : (p q : List ℕ) (n : ℕ) → ((x ≡ p) × (v ≡ n)) ⊎ (f p ≡ Some n) → ((x ≡ q) × (v ≡ n)) ⊎ (f q ≡ Some n) → p ≡ q
    both p q n (inl s) (inl t) = sym s.0 ∙ t.0
    both p q n (inl s) (inr t) = let b = a.below q n t in let e = s.1 in absurd (omega arith)
    both p q n (inr s) (inl t) = let b = a.below p n s in let e = t.1 in absurd (omega arith)
    both p q n (inr s) (inr t) = a.apart p q n s t

    under : (p : List ℕ) (n : ℕ) → ((x ≡ p) × (v ≡ n)) ⊎ (f p ≡ Some n) → n < v + 1
    under p n (inl s) = let e = s.1 in omega arith
    under p n (inr s) = let b = a.below p n s in omega arith

-- names that are found, where those found before stay
found_kept : (f g : List ℕ → Option ℕ) → ((q : List ℕ) (n : ℕ) → f q ≡ Some n → g q ≡ Some n) → (q : List ℕ) → IsSome (f q) → IsSome (g q)
found_kept f g kept q h = by (f q) refl h
  where
    by : (o : Option ℕ) → f q ≡ o → IsSome o → IsSome (g q)
    by (Some n) e s = rw (kept q n e) s
    by None e s = absurd (false≢true s)

-- the names of rows are found
abbrev pub AreFound : (List ℕ → Option ℕ) → List Row → Type 0
AreFound find [] = Unit {0}
AreFound find (row ∷ rows) = (IsSome (find row.problem) × IsSome (find row.platform) × IsSome (find row.application)) × AreFound find rows

rows_kept : (f g : List ℕ → Option ℕ) → ((q : List ℕ) (n : ℕ) → f q ≡ Some n → g q ≡ Some n) → (rows : List Row) → AreFound f rows → AreFound g rows
rows_kept f g kept [] h = tt
rows_kept f g kept (row ∷ rows) h =
    ((found_kept f g kept row.problem h.0.0, found_kept f g kept row.platform h.0.1, found_kept f g kept row.application h.0.2), rows_kept f g kept rows h.1)

found_push : (f : List ℕ → Option ℕ) (rows : List Row) (row : Row) → AreFound f rows → IsSome (f row.problem) × IsSome (f row.platform) × IsSome (f row.application) → AreFound f (rows ++ row ∷ [])
found_push f [] row h s = (s, tt)
found_push f (r ∷ rs) row h s = (h.0, found_push f rs row h.1 s)

-- the names of one more row, put in one after the other
pub rows_found : (f0 f1 f2 f3 : List ℕ → Option ℕ) (rows : List Row) (row : Row) → AreFound f0 rows
    → ((q : List ℕ) (n : ℕ) → f0 q ≡ Some n → f1 q ≡ Some n) → ((q : List ℕ) (n : ℕ) → f1 q ≡ Some n → f2 q ≡ Some n) → ((q : List ℕ) (n : ℕ) → f2 q ≡ Some n → f3 q ≡ Some n)
    → IsSome (f1 row.problem) → IsSome (f2 row.platform) → IsSome (f3 row.application) → AreFound f3 (rows ++ row ∷ [])
rows_found f0 f1 f2 f3 rows row h k1 k2 k3 p q r =
    found_push f3 rows row (rows_kept f0 f3 (λ x n e. k3 x n (k2 x n (k1 x n e))) rows h)
    (found_kept f1 f3 (λ x n e. k3 x n (k2 x n e)) row.problem p, found_kept f2 f3 k3 row.platform q, r)

-- numbers that are read: those that are found are below the one that stands for none
below_absent : (find : List ℕ → Option ℕ) (count : ℕ) → AreApart find count → (a : List ℕ) → IsSome (find a) → unwrap_or (find a) 4294967295 < 4294967295
below_absent find count h a s = by (find a) refl s
  where
    by : (o : Option ℕ) → find a ≡ o → IsSome o → unwrap_or o 4294967295 < 4294967295
    by (Some n) e s = let b = h.below a n e in let few = h.few in omega arith
    by None e s = absurd (false≢true s)

one_name : (find : List ℕ → Option ℕ) (count : ℕ) → AreApart find count → (a b : List ℕ) → unwrap_or (find a) 4294967295 < 4294967295
    → unwrap_or (find a) 4294967295 ≡ unwrap_or (find b) 4294967295 → a ≡ b
one_name find count h a b few same = by (find a) (find b) refl refl few same
  where
    by : (o p : Option ℕ) → find a ≡ o → find b ≡ p → unwrap_or o 4294967295 < 4294967295 → unwrap_or o 4294967295 ≡ unwrap_or p 4294967295 → a ≡ b
    by (Some n) (Some m) e f few same = h.apart a b n e (f ∙ ap Some (sym same))
    by (Some n) None e f few same = absurd (omega arith)
    by None p e f few same = absurd (omega arith)

known_rows : (find : List ℕ → Option ℕ) (count : ℕ) → AreApart find count → (rows : List Row) → AreFound find rows → AreKnown (λ name. unwrap_or (find name) 4294967295) rows
known_rows find count h [] s = tt
known_rows find count h (row ∷ rows) s =
    (record { problem = below_absent find count h row.problem s.0.0; platform = below_absent find count h row.platform s.0.1; application = below_absent find count h row.application s.0.2 }, known_rows find count h rows s.1)

pub numbering : (find : List ℕ → Option ℕ) (count : ℕ) (rows : List Row) → AreApart find count → AreFound find rows → IsNumbering (λ name. unwrap_or (find name) 4294967295) rows
numbering find count rows h s = record { apart = one_name find count h; known = known_rows find count h rows s }

-- no name has a number
pub none_apart : {S : Type 0} (m : HashMap (Vec ℕ) ℕ S) → m.entries ≡ [] → AreApart (number_found m) (hash_map_len m)
none_apart m e = record {
  apart = λ a b n f g. absurd (nothing a n f);
  below = λ a n f. absurd (nothing a n f);
  few = rw e (omega arith);
}
  where
    nothing : (a : List ℕ) (n : ℕ) → number_found m a ≡ Some n → ⊥
    nothing a n f = let c : None ≡ Some n = rw e at f in cc
