-- What a node has, by what lies below it.
use Rattle.std.proofs.Common.{◌≡◌, ℕ, ◌-◌, ◌/◌, ◌%◌, ◌==◌, ◌||◌, ◌&&◌, ◌≤◌, Bool, true, false, List, length, refl, sym, subst, ◌∙◌, ap, inl, inr, arith}
use Rattle.std.proofs.lemmas.Bool.{cases_eq, eq-eqb, ne_eqb, cond-true, cond-false}
use Rattle.cb_paste.specs.declared.hides.Cell.{Cell}
use Rattle.cb_paste.specs.Sets.{hides, Extends}
use Rattle.cb_paste.specs.inner.Nodes.{side_of, with_side, in_cell, IsOver}
use Rattle.cb_paste.proofs.Arenas.{hides_kept, hides_none, side_le}
use Rattle.cb_paste.proofs.Nodes.{same_test, or_false}

pub side_odd : (c : Cell) (n : ℕ) → n % 2 ≡ 1 → side_of c n ≡ c.odd
unfolding side_of
side_odd c n h = cond-true (n % 2 == 1) c.odd c.even (eq-eqb (n % 2) 1 h)

pub side_even : (c : Cell) (n : ℕ) → (n % 2 ≡ 1 → ⊥) → side_of c n ≡ c.even
unfolding side_of
side_even c n h = cond-false (n % 2 == 1) c.odd c.even (ne_eqb (n % 2) 1 h)

pub with_odd : (c : Cell) (n below : ℕ) → n % 2 ≡ 1 → with_side c n below ≡ record c { odd = below }
unfolding with_side
with_odd c n below h = cond-true (n % 2 == 1) _ _ (eq-eqb (n % 2) 1 h)

pub with_even : (c : Cell) (n below : ℕ) → (n % 2 ≡ 1 → ⊥) → with_side c n below ≡ record c { even = below }
unfolding with_side
with_even c n below h = cond-false (n % 2 == 1) _ _ (ne_eqb (n % 2) 1 h)

pub in_cell_here : (sets : List (List ℕ)) (c : Cell) (n : ℕ) → n ≡ 0 → in_cell sets c n ≡ c.here
unfolding in_cell
in_cell_here sets c n h = cond-true (n == 0) _ _ (eq-eqb n 0 h)

pub in_cell_side : (sets : List (List ℕ)) (c : Cell) (n : ℕ) → (n ≡ 0 → ⊥) → in_cell sets c n ≡ hides sets (side_of c n) ((n - 1) / 2)
unfolding in_cell
in_cell_side sets c n h = cond-false (n == 0) _ _ (ne_eqb n 0 h)

no_side : (c : Cell) (n : ℕ) → c.odd ≡ 0 → c.even ≡ 0 → side_of c n ≡ 0
no_side c n odd even =
    elim (cases_eq (n % 2) 1) [ inl h ↦ side_odd c n h ∙ odd | inr h ↦ side_even c n h ∙ even ]

-- the node of the empty set
pub none_has : (sets : List (List ℕ)) (c : Cell) → c ≡ record { here = false; odd = 0; even = 0 } → (n : ℕ) → hides sets 0 n ≡ in_cell sets c n
none_has sets c e n =
    hides_none sets n
    ∙ elim (cases_eq n 0) [
      | inl z ↦ sym (in_cell_here sets c n z ∙ ap (λ d. d.here) e)
      | inr nz ↦ sym
          (in_cell_side sets c n nz
          ∙ (ap (λ s. hides sets s ((n - 1) / 2)) (no_side c n (ap (λ d. d.odd) e) (ap (λ d. d.even) e)) ∙ hides_none sets ((n - 1) / 2)))
    ]

-- the node with the place 0
pub zero_has : (sets : List (List ℕ)) (c : Cell) (place n : ℕ) → place ≡ 0 → in_cell sets (record { here = true; odd = c.odd; even = c.even }) n ≡ ((n == place) || in_cell sets c n)
unfolding in_cell side_of
zero_has sets c place n z =
    elim (cases_eq n 0) [
      | inl e ↦ rw (eq-eqb n 0 e, eq-eqb n place (omega arith))
      | inr e ↦ rw (ne_eqb n 0 e, ne_eqb n place (λ f. omega arith))
    ]

-- the node with one more place below a side
same_side : (a b : List (List ℕ)) (c : Cell) (place below n : ℕ) → ((k : ℕ) → hides b below k ≡ ((k == (place - 1) / 2) || hides a (side_of c place) k)) → (n ≡ 0 → ⊥) → (place ≡ 0 → ⊥) → side_of c place ≡ side_of c n → side_of (with_side c place below) n ≡ below → n % 2 ≡ place % 2 → in_cell b (with_side c place below) n ≡ ((n == place) || in_cell a c n)
same_side a b c place below n grown nz pz side new parity =
    in_cell_side b (with_side c place below) n nz
    ∙ (ap (λ s. hides b s ((n - 1) / 2)) new
    ∙ (grown ((n - 1) / 2)
    ∙ rw
    (same_test ((n - 1) / 2) ((place - 1) / 2) n place (λ f. omega arith) (λ f. ap (λ k. (k - 1) / 2) f), side, in_cell_side a c n nz)))

other_side : {a b : List (List ℕ)} → Extends a b → (c : Cell) → IsOver (length a) c → (place below n : ℕ) → (n ≡ 0 → ⊥) → side_of (with_side c place below) n ≡ side_of c n → (n ≡ place → ⊥) → in_cell b (with_side c place below) n ≡ ((n == place) || in_cell a c n)
other_side {a} {b} e c o place below n nz new ne =
    in_cell_side b (with_side c place below) n nz
    ∙ (ap (λ s. hides b s ((n - 1) / 2)) new
    ∙ (hides_kept e (side_of c n) (side_le c (length a) n o) ((n - 1) / 2)
    ∙ rw (ne_eqb n place ne, in_cell_side a c n nz)))

new_here : (c : Cell) (place below : ℕ) → (with_side c place below).here ≡ c.here
new_here c place below =
    elim (cases_eq (place % 2) 1) [
      | inl h ↦ ap (λ d. d.here) (with_odd c place below h)
      | inr h ↦ ap (λ d. d.here) (with_even c place below h)
    ]

side_has : {a b : List (List ℕ)} → Extends a b → (c : Cell) → IsOver (length a) c → (place below : ℕ) → (place ≡ 0 → ⊥) → ((k : ℕ) → hides b below k ≡ ((k == (place - 1) / 2) || hides a (side_of c place) k)) → (n : ℕ) → (n ≡ 0 → ⊥) → in_cell b (with_side c place below) n ≡ ((n == place) || in_cell a c n)
side_has {a} {b} e c o place below pz grown n nz =
    elim (cases_eq (place % 2) 1) [
      | inl p ↦ elim (cases_eq (n % 2) 1) [
        | inl q ↦ same_side a b c place below n grown nz pz (side_odd c place p ∙ sym (side_odd c n q)) (ap (λ d. side_of d n) (with_odd c place below p) ∙ side_odd _ n q) (omega arith)
        | inr q ↦ other_side e c o place below n nz (ap (λ d. side_of d n) (with_odd c place below p) ∙ (side_even _ n q ∙ sym (side_even c n q))) (λ f. q (ap (λ k. k % 2) f ∙ p))
      ]
      | inr p ↦ elim (cases_eq (n % 2) 1) [
        | inl q ↦ other_side e c o place below n nz (ap (λ d. side_of d n) (with_even c place below p) ∙ (side_odd _ n q ∙ sym (side_odd c n q))) (λ f. p (ap (λ k. k % 2) (sym f) ∙ q))
        | inr q ↦ same_side a b c place below n grown nz pz (side_even c place p ∙ sym (side_even c n q)) (ap (λ d. side_of d n) (with_even c place below p) ∙ side_even _ n q) (omega arith)
      ]
    ]

pub with_has : {a b : List (List ℕ)} → Extends a b → (c : Cell) → IsOver (length a) c → (place below : ℕ) → (place ≡ 0 → ⊥) → ((k : ℕ) → hides b below k ≡ ((k == (place - 1) / 2) || hides a (side_of c place) k)) → (n : ℕ) → in_cell b (with_side c place below) n ≡ ((n == place) || in_cell a c n)
with_has {a} {b} e c o place below pz grown n =
    elim (cases_eq n 0) [
      | inl z ↦ in_cell_here b (with_side c place below) n z
          ∙ (new_here c place below ∙ rw (ne_eqb n place (λ f. pz (sym f ∙ z)), in_cell_here a c n z))
      | inr nz ↦ side_has e c o place below pz grown n nz
    ]

pub with_side_over : (count : ℕ) (c : Cell) (place below : ℕ) → IsOver count c → below ≤ count → IsOver count (with_side c place below)
with_side_over count c place below o le =
    elim (cases_eq (place % 2) 1) [
      | inl h ↦ subst (λ d. IsOver count d) (sym (with_odd c place below h)) (record { odd = le; even = o.even })
      | inr h ↦ subst (λ d. IsOver count d) (sym (with_even c place below h)) (record { odd = o.odd; even = le })
    ]

-- the node that combines two others, place by place
pub combined : {a m b : List (List ℕ)} (f : Bool → Bool → Bool) → Extends a m → Extends m b → (l r : Cell) → IsOver (length a) l → IsOver (length a) r → (odd even : ℕ) → odd ≤ length m → ((k : ℕ) → hides m odd k ≡ f (hides a l.odd k) (hides a r.odd k)) → ((k : ℕ) → hides b even k ≡ f (hides m l.even k) (hides m r.even k)) → (n : ℕ) → in_cell b (record { here = f l.here r.here; odd = odd; even = even }) n ≡ f (in_cell a l n) (in_cell a r n)
unfolding in_cell side_of
combined {a} {m} {b} f e g l r ol or odd even le odds evens n =
    elim (cases_eq n 0) [
      | inl z ↦ rw (eq-eqb n 0 z)
      | inr nz ↦ elim (cases_eq (n % 2) 1) [
        | inl p ↦ rw (ne_eqb n 0 nz, eq-eqb (n % 2) 1 p) (hides_kept g odd le ((n - 1) / 2) ∙ odds ((n - 1) / 2))
        | inr p ↦ rw (ne_eqb n 0 nz, ne_eqb (n % 2) 1 p)
            (evens ((n - 1) / 2) ∙ rw (hides_kept e l.even ol.even ((n - 1) / 2), hides_kept e r.even or.even ((n - 1) / 2)))
      ]
    ]

side_none : (c : Cell) (n : ℕ) → c ≡ record { here = false; odd = 0; even = 0 } → side_of c n ≡ 0
side_none c n e = no_side c n (ap (λ d. d.odd) e) (ap (λ d. d.even) e)

-- the fork with the place 0 alone
pub zero_alone : (sets : List (List ℕ)) (place n : ℕ) → place ≡ 0 → in_cell sets (record { here = true; odd = 0; even = 0 }) n ≡ (n == place)
zero_alone sets place n z =
    let none : Cell = record { here = false; odd = 0; even = 0 } in
    zero_has sets none place n z
    ∙ (ap (λ v. (n == place) || v) (sym (none_has sets none refl n) ∙ hides_none sets n) ∙ or_false (n == place))

-- the fork with another place alone
pub place_alone : {a b : List (List ℕ)} → Extends a b → (place below : ℕ) → (place ≡ 0 → ⊥) → ((k : ℕ) → hides b below k ≡ (k == (place - 1) / 2)) → (n : ℕ) → in_cell b (with_side (record { here = false; odd = 0; even = 0 }) place below) n ≡ (n == place)
place_alone {a} {b} e place below pz is n =
    let none : Cell = record { here = false; odd = 0; even = 0 } in
    with_has e none (record { odd = omega arith; even = omega arith }) place below pz
    (λ k. is k ∙ sym (ap (λ v. (k == (place - 1) / 2) || v) (ap (λ s. hides a s k) (side_none none place refl) ∙ hides_none a k) ∙ or_false (k == (place - 1) / 2))) n
    ∙ (ap (λ v. (n == place) || v) (sym (none_has a none refl n) ∙ hides_none a n) ∙ or_false (n == place))

-- what is in both where the one is within the other, or apart from it
pub common_all : (x y : Bool) → (x ≡ true → y ≡ true) → x ≡ (x && y)
common_all true y f = sym (f refl)
common_all false y f = refl

pub common_none : (x y : Bool) → (x ≡ true → y ≡ false) → false ≡ (x && y)
common_none true y f = sym (f refl)
common_none false y f = refl

pub and_swap : (x y : Bool) → (x && y) ≡ (y && x)
and_swap true true = refl
and_swap true false = refl
and_swap false true = refl
and_swap false false = refl

pub or_swap : (x y : Bool) → (x || y) ≡ (y || x)
or_swap true true = refl
or_swap true false = refl
or_swap false true = refl
or_swap false false = refl

pub or_self : (b : Bool) → (b || b) ≡ b
or_self true = refl
or_self false = refl
