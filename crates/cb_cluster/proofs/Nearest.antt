-- The first link of the order gives the closest two clusters.
use Rattle.std.proofs.Common.{◌≡◌, ℕ, ◌+◌, ◌<◌, Bool, true, false, eqb, ltb, ◌||◌, ◌&&◌, not, List, length, get_or, min, max, refl, sym, ap, ◌∙◌, inl, inr, arith}
use Rattle.std.specs.List.{IsFirstBest}
use Rattle.std.proofs.lemmas.Bool.{cases_eq, cond-true, cond-false, ne_eqb, eq-eqb, or_parts, or_from, or_cases, and_parts, and_right, le-ltb, false≢true}
use Rattle.std.proofs.lemmas.List.{get_or_default}
use Rattle.cb_diverge.specs.declared.fraction.Fraction.{Fraction}
use Rattle.cb_diverge.specs.Distances.{is_less}
use Rattle.cb_cluster.specs.declared.link.Link.{Link}
use Rattle.cb_cluster.specs.Links.{IsAt}
use Rattle.cb_cluster.specs.Names.{name_of, left_name, right_name}
use Rattle.cb_cluster.specs.Merging.{comes_first, AreClosest, IsOneCluster}
use Rattle.cb_cluster.specs.Inner.{within_rank, precedes}
use Rattle.cb_cluster.proofs.Orders.{precedes-order}
use Rattle.std.proofs.lemmas.List.MinMax.{IsFirstBest-none, IsFirstBest-keeps, IsFirstBest-takes}

pub first-none : (names : List ℕ) (links : List Link) → IsFirstBest (precedes names) links 1 0
first-none names links = IsFirstBest-none (precedes-order names) links

pub first-keeps : (names : List ℕ) (links : List Link) (i b : ℕ) (x y : Link) → IsFirstBest (precedes names) links i b → i < length links
    → x ≡ get_or links i x → y ≡ get_or links b y → precedes names x y ≡ false → IsFirstBest (precedes names) links (i + 1) b
first-keeps names links = IsFirstBest-keeps (precedes-order names) links

pub first-takes : (names : List ℕ) (links : List Link) (i b : ℕ) (x y : Link) → IsFirstBest (precedes names) links i b → i < length links
    → x ≡ get_or links i x → y ≡ get_or links b y → precedes names x y ≡ true → IsFirstBest (precedes names) links (i + 1) i
first-takes names links = IsFirstBest-takes (precedes-order names) links

rank-between : (names : List ℕ) (l : Link) → (left_name names l ≡ right_name names l → ⊥) → within_rank names l ≡ 0
rank-between names l apart = cond-false (eqb (left_name names l) (right_name names l)) 1 0 (ne_eqb _ _ apart)

rank-within : (names : List ℕ) (l : Link) → left_name names l ≡ right_name names l → within_rank names l ≡ 1
rank-within names l same = cond-true (eqb (left_name names l) (right_name names l)) 1 0 (eq-eqb _ _ same)

-- between clusters the order is that of clusters
precedes-between : (names : List ℕ) (a b : Link) → (left_name names a ≡ right_name names a → ⊥) → (left_name names b ≡ right_name names b → ⊥)
    → precedes names a b ≡ comes_first a.distance (left_name names a) (right_name names a) b.distance (left_name names b) (right_name names b)
unfolding precedes
precedes-between names a b one two =
    let rest = comes_first a.distance (left_name names a) (right_name names a) b.distance (left_name names b) (right_name names b) in
    ap (λ r. ltb r (within_rank names b) || (not (ltb (within_rank names b) r) && rest)) (rank-between names a one)
    ∙ ap (λ r. ltb 0 r || (not (ltb r 0) && rest)) (rank-between names b two)

precedes-within : (names : List ℕ) (a b : Link) → (left_name names a ≡ right_name names a → ⊥) → left_name names b ≡ right_name names b → precedes names a b ≡ true
unfolding precedes
precedes-within names a b one two =
    let rest = comes_first a.distance (left_name names a) (right_name names a) b.distance (left_name names b) (right_name names b) in
    ap (λ r. ltb r (within_rank names b) || (not (ltb (within_rank names b) r) && rest)) (rank-between names a one)
    ∙ ap (λ r. ltb 0 r || (not (ltb r 0) && rest)) (rank-within names b two)

-- what comes before by the order, of the links at two places
before : (names : List ℕ) (links : List Link) (k b : ℕ) (l best : Link) (t : Bool) → IsAt links k l → IsAt links b best
    → ((d : Link) → precedes names (get_or links k d) (get_or links b d) ≡ t) → precedes names l best ≡ t
before names links k b l best t atk atb h =
    let e : get_or links b l ≡ best = get_or_default links b l best atb.0 ∙ atb.1 in
    ap (λ x. precedes names x best) (sym atk.1) ∙ ap (λ x. precedes names (get_or links k l) x) (sym e) ∙ h l

apart_of : (names : List ℕ) (l : Link) → left_name names l < right_name names l → left_name names l ≡ right_name names l → ⊥
apart_of names l lt e = omega arith

never_less : (n : ℕ) → ltb n n ≡ false
never_less n = le-ltb n n (omega arith)

less_from_first : (d e : Fraction) (left right : ℕ) → comes_first d left right e left right ≡ true → is_less d e ≡ true
less_from_first d e left right h =
    elim (or_cases _ _ h) [
      | inl t ↦ t
      | inr u ↦ absurd (false≢true (sym (or_from (ltb left left) _ (never_less left) (and_right (not (ltb left left)) (ltb right right) (never_less right))) ∙ (and_parts _ _ u).1))
    ]

min-le-max : (x y : ℕ) → (min x y ≡ max x y → ⊥) → min x y < max x y
min-le-max x y h = omega arith

pub closest_is : (names : List ℕ) (links : List Link) (b : ℕ) (best : Link) → IsFirstBest (precedes names) links (length links) b → IsAt links b best
    → (left_name names best ≡ right_name names best → ⊥) → AreClosest links names (left_name names best) (right_name names best) best.distance
closest_is names links b best first here apart =
    let left = left_name names best in
    let right = right_name names best in
    let not_before : (k : ℕ) (l : Link) → IsAt links k l → (left_name names l ≡ right_name names l → ⊥)
    → comes_first l.distance (left_name names l) (right_name names l) best.distance left right ≡ false
    = λ k l at between. sym (precedes-between names l best between apart) ∙ before names links k b l best false at here (λ d. first.1 k d at.0) in
    record {
      apart = min-le-max (name_of names best.left) (name_of names best.right) apart;
      distance = record {
        at = b;
        link = best;
        stands = here;
        joins = (refl, refl);
        is = refl;
        least = λ k l at joins.
            let between : left_name names l ≡ right_name names l → ⊥ = λ e. apart (sym joins.0 ∙ e ∙ joins.1) in
            (or_parts _ _ (not_before k l at between)).0;
        first = λ k l at joins lt.
            let between : left_name names l ≡ right_name names l → ⊥ = λ e. apart (sym joins.0 ∙ e ∙ joins.1) in
            let h = sym (precedes-between names best l apart between) ∙ before names links b k best l true here at (λ d. first.2 k d lt) in
            less_from_first best.distance l.distance left right
            (ap (λ x. comes_first best.distance left right l.distance x right) (sym joins.0)
            ∙ ap (λ x. comes_first best.distance left right l.distance (left_name names l) x) (sym joins.1) ∙ h);
      };
      least = λ k l at lt. not_before k l at (apart_of names l lt);
    }

pub one_cluster : (names : List ℕ) (links : List Link) (b : ℕ) (best : Link) → IsFirstBest (precedes names) links (length links) b → IsAt links b best
    → left_name names best ≡ right_name names best → IsOneCluster links names
one_cluster names links b best first here same k l at =
    elim (cases_eq (left_name names l) (right_name names l)) [
      | inl e ↦ e
      | inr between ↦ absurd (false≢true (sym (before names links k b l best false at here (λ d. first.1 k d at.0)) ∙ precedes-within names l best between same))
    ]
