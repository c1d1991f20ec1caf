-- Each merge leaves fewer links between clusters.
use Rattle.std.proofs.Common.{◌≡◌, ℕ, ◌<◌, ◌≤◌, Bool, true, false, cond, ltb, List, [], ◌∷◌, length, get_or, min, max, refl, sym, ap, ◌∙◌, inl, inr, zero, suc, arith, count_by}
use Rattle.std.proofs.lemmas.Bool.{cases_Bool, cond-true, cond-false, ltb-false, lt-ltb, le-ltb, false≢true}
use Rattle.std.proofs.lemmas.List.Sums.{sum_by-cons, sum_by-le-sum_by}
use Rattle.cb_diverge.specs.declared.fraction.Fraction.{Fraction}
use Rattle.cb_cluster.specs.declared.link.Link.{Link}
use Rattle.cb_cluster.specs.Names.{name_of, joined, left_name, right_name}
use Rattle.cb_cluster.specs.Merging.{AreClosest}
use Rattle.cb_cluster.proofs.Joins.{renamed, renamed-right, renamed-other, name_of-joined, ends}

abbrev pub is_between : List ℕ → Link → Bool
is_between names l = ltb (left_name names l) (right_name names l)

-- the links that stand between two clusters
abbrev pub open_links : List ℕ → List Link → ℕ
open_links names links = count_by (is_between names) links

no_more : (q p : Bool) → (q ≡ true → p ≡ true) → cond {A = ℕ} q 1 0 ≤ cond {A = ℕ} p 1 0
no_more true true h = omega arith
no_more true false h = absurd (false≢true (h refl))
no_more false true h = omega arith
no_more false false h = omega arith

count_less : (p q : Link → Bool) → ((l : Link) → q l ≡ true → p l ≡ true) → (links : List Link) (k : ℕ) (l : Link) → k < length links → get_or links k l ≡ l
    → p l ≡ true → q l ≡ false → count_by q links < count_by p links
count_less p q weaker [] k l at is was gone = absurd (omega arith)
count_less p q weaker (x ∷ xs) zero l at is was gone =
    let one : cond {A = ℕ} (q x) 1 0 ≡ 0 = cond-false (q x) 1 0 (ap q is ∙ gone) in
    let two : cond {A = ℕ} (p x) 1 0 ≡ 1 = cond-true (p x) 1 0 (ap p is ∙ was) in
    omega (
      arith,
      sum_by-cons (λ y. cond {A = ℕ} (q y) 1 0) x xs,
      sum_by-cons (λ y. cond {A = ℕ} (p y) 1 0) x xs,
      sum_by-le-sum_by (λ y. cond {A = ℕ} (q y) 1 0) (λ y. cond {A = ℕ} (p y) 1 0) xs (λ y. no_more (q y) (p y) (weaker y)),
    )
count_less p q weaker (x ∷ xs) (suc k) l at is was gone =
    let rest = count_less p q weaker xs k l (omega arith) is was gone in
    let here = no_more (q x) (p x) (weaker x) in
    omega (arith, rest, here, sum_by-cons (λ y. cond {A = ℕ} (q y) 1 0) x xs, sum_by-cons (λ y. cond {A = ℕ} (p y) 1 0) x xs)

joined_same : (names : List ℕ) (left right : ℕ) (l : Link) → 0 < right → renamed left right (name_of names l.left) ≡ renamed left right (name_of names l.right)
    → is_between (joined names left right) l ≡ false
joined_same names left right l pos e =
    let one = name_of-joined names left right l.left pos in
    let two = name_of-joined names left right l.right pos in
    le-ltb (left_name (joined names left right) l) (right_name (joined names left right) l) (omega arith)

-- what is between clusters after a merge was so before
pub between_before : (names : List ℕ) (left right : ℕ) (l : Link) → 0 < right → is_between (joined names left right) l ≡ true → is_between names l ≡ true
between_before names left right l pos h =
    elim (cases_Bool (is_between names l)) [
      | inl t ↦ t
      | inr f ↦ (
          let ge = ltb-false (left_name names l) (right_name names l) f in
          let e : name_of names l.left ≡ name_of names l.right = omega arith in
          absurd (false≢true (sym (joined_same names left right l pos (ap (renamed left right) e)) ∙ h)))
    ]

renamed_same : (left right x y : ℕ) → left < right → min x y ≡ left → max x y ≡ right → renamed left right x ≡ renamed left right y
renamed_same left right x y lt e f =
    elim (ends x y left right e f) [
      | inl s ↦ (ap (renamed left right) s.0 ∙ renamed-other left right left (λ h. omega arith)) ∙ sym (renamed-right left right y s.1)
      | inr s ↦ renamed-right left right x s.0 ∙ sym (ap (renamed left right) s.1 ∙ renamed-other left right left (λ h. omega arith))
    ]

pub fewer : (names : List ℕ) (links : List Link) (left right : ℕ) (height : Fraction) → AreClosest links names left right height
    → open_links (joined names left right) links < open_links names links
fewer names links left right height c =
    let d = c.distance in
    let lt = c.apart in
    let pos : 0 < right = omega arith in
    let l = d.link in
    let was : is_between names l ≡ true = lt-ltb (left_name names l) (right_name names l) (let e = d.joins.0 in let f = d.joins.1 in omega arith) in
    count_less (is_between names) (is_between (joined names left right)) (λ m. between_before names left right m pos) links d.at l d.stands.0 d.stands.1 was
    (joined_same names left right l pos (renamed_same left right (name_of names l.left) (name_of names l.right) lt d.joins.0 d.joins.1))
