-- What stays true of clusters that are joined, and the chains between their members.
use Rattle.std.proofs.Common.{◌≡◌, ℕ, ◌+◌, ◌-◌, ◌<◌, ◌≤◌, true, false, cond, eqb, List, length, get_or, min, max, refl, sym, ap, ◌∙◌, subst, ◌⊎◌, inl, inr, arith, All}
use Rattle.std.proofs.lemmas.Bool.{cases_eq, cases_lt, cond-true, cond-false, eq-eqb, ne_eqb, or_parts, false≢true}
use Rattle.std.proofs.lemmas.List.{length-map}
use Rattle.std.proofs.lemmas.List.FromFn.{length-range_with_len, get_or-range_with_len}
use Rattle.std.proofs.Math.ListN.{get_or-map}
use Rattle.cb_diverge.specs.declared.fraction.Fraction.{Fraction}
use Rattle.cb_diverge.specs.Distances.{is_less}
use Rattle.cb_cluster.specs.declared.link.Link.{Link}
use Rattle.cb_cluster.specs.Links.{IsAt, IsPair}
use Rattle.cb_cluster.specs.Names.{singles, name_of, joined, left_name, right_name}
use Rattle.cb_cluster.specs.Merging.{IsDistance, AreClosest, IsOneCluster}
use Rattle.cb_cluster.specs.Chains.{AreNear, Chain, here, onward, AreClassNames}
use Rattle.cb_cluster.proofs.Orders.{less_than_beyond}

-- the name after the second cluster is joined to the first
abbrev pub renamed : ℕ → ℕ → ℕ → ℕ
renamed left right name = cond (eqb name right) left name

pub renamed-right : (left right name : ℕ) → name ≡ right → renamed left right name ≡ left
renamed-right left right name e = cond-true (eqb name right) left name (eq-eqb name right e)

pub renamed-other : (left right name : ℕ) → (name ≡ right → ⊥) → renamed left right name ≡ name
renamed-other left right name e = cond-false (eqb name right) left name (ne_eqb name right e)

pub name_of-joined : (names : List ℕ) (left right p : ℕ) → 0 < right → name_of (joined names left right) p ≡ renamed left right (name_of names p)
name_of-joined names left right p pos =
    let none : renamed left right 0 ≡ 0 = renamed-other left right 0 (λ e. omega arith) in
    ap (λ d. get_or (joined names left right) (p - 1) d) (sym none) ∙ get_or-map (renamed left right) names (p - 1) 0

pub trans_chain : {links : List Link} {h : Fraction} → (p q r : ℕ) → Chain links h p q → Chain links h q r → Chain links h p r
trans_chain p _ r (here _) g = g
trans_chain p q r (onward _ s _ near rest) g = onward p s r near (trans_chain s q r rest g)

swap_near : (links : List Link) (h : Fraction) (p q : ℕ) → AreNear links h p q → AreNear links h q p
swap_near links h p q n = (n.0, n.1, n.2, n.3, elim n.4 [ inl e ↦ inr e | inr e ↦ inl e ])

pub back_chain : {links : List Link} {h : Fraction} → (p q : ℕ) → Chain links h p q → Chain links h q p
back_chain p _ (here _) = here p
back_chain {links} {h} p q (onward _ s _ near rest) = trans_chain q s p (back_chain s q rest) (onward s p p (swap_near links h p s near) (here p))

-- clusters that chains of at most a height made, each named by a member that is least
pub record IsGood (links : List Link) (h : Fraction) (names : List ℕ) : Type 0 where
  pub low : (p : ℕ) → 0 < p → p ≤ length names → 0 < name_of names p
  pub below : (p : ℕ) → 0 < p → p ≤ length names → name_of names p ≤ p
  pub own : (p : ℕ) → 0 < p → p ≤ length names → name_of names (name_of names p) ≡ name_of names p
  pub chained : (p : ℕ) → 0 < p → p ≤ length names → Chain links h p (name_of names p)

name_of-singles : (count p : ℕ) → 0 < p → p ≤ count → name_of (singles count) p ≡ p
name_of-singles count p pos within =
    let i : p - 1 < count = omega arith in
    let e : 1 + (p - 1) ≡ p = omega arith in
    get_or-range_with_len 1 count (p - 1) 0 i ∙ e

pub IsGood-singles : (links : List Link) (h : Fraction) (count : ℕ) → IsGood links h (singles count)
IsGood-singles links h count =
    let n : length (singles count) ≡ count = length-range_with_len 1 count in
    let is : (p : ℕ) → 0 < p → p ≤ length (singles count) → name_of (singles count) p ≡ p
    = λ p pos within. name_of-singles count p pos (omega arith) in
    record {
      low = λ p pos within. let e = is p pos within in omega arith;
      below = λ p pos within. let e = is p pos within in omega arith;
      own = λ p pos within. ap (name_of (singles count)) (is p pos within);
      chained = λ p pos within. subst (λ (q : ℕ). Chain links h p q) (sym (is p pos within)) (here p);
    }

-- two platforms near each other, one of each cluster
pub record IsBridge (links : List Link) (h : Fraction) (names : List ℕ) (left right : ℕ) : Type 0 where
  pub from : ℕ
  pub to : ℕ
  pub from_some : 0 < from
  pub from_within : from ≤ length names
  pub to_some : 0 < to
  pub to_within : to ≤ length names
  pub from_right : name_of names from ≡ right
  pub to_left : name_of names to ≡ left
  pub near : AreNear links h from to

pub ends : (x y left right : ℕ) → min x y ≡ left → max x y ≡ right → ((x ≡ left) × (y ≡ right)) ⊎ ((x ≡ right) × (y ≡ left))
ends x y left right e f = elim (cases_lt x y) [ inl lt ↦ inl (omega arith, omega arith) | inr ge ↦ inr (omega arith, omega arith) ]

pub bridge_of : (links : List Link) (h : Fraction) (names : List ℕ) (left right : ℕ) (height : Fraction) → All (IsPair (length names)) links
    → IsDistance links names left right height → is_less h height ≡ false → IsBridge links h names left right
bridge_of links h names left right height pairs d short =
    let l = d.link in
    let pair : IsPair (length names) l = subst (IsPair (length names)) d.stands.1 (pairs d.at l d.stands.0) in
    let near : is_less h l.distance ≡ false = ap (is_less h) d.is ∙ short in
    elim (ends (name_of names l.left) (name_of names l.right) left right d.joins.0 d.joins.1) [
      | inl e ↦ record {
        from = l.right;
        to = l.left;
        from_some = omega arith;
        from_within = pair.2;
        to_some = pair.0;
        to_within = omega arith;
        from_right = e.1;
        to_left = e.0;
        near = (d.at, l, d.stands, near, inr (refl, refl));
      }
      | inr e ↦ record {
        from = l.left;
        to = l.right;
        from_some = pair.0;
        from_within = omega arith;
        to_some = omega arith;
        to_within = pair.2;
        from_right = e.0;
        to_left = e.1;
        near = (d.at, l, d.stands, near, inl (refl, refl));
      }
    ]

pub IsGood-joined : (links : List Link) (h : Fraction) (names : List ℕ) (left right : ℕ) → left < right → IsGood links h names
    → IsBridge links h names left right → IsGood links h (joined names left right)
IsGood-joined links h names left right lt good b =
    let pos : 0 < right = omega arith in
    let is = λ (p : ℕ). name_of-joined names left right p pos in
    let same : length (joined names left right) ≡ length names = length-map names (renamed left right) in
    let left_low : 0 < left = let e = good.low b.to b.to_some b.to_within in let f = b.to_left in omega arith in
    let left_own : name_of names left ≡ left = ap (name_of names) (sym b.to_left) ∙ good.own b.to b.to_some b.to_within ∙ b.to_left in
    let bridge : Chain links h right left =
    trans_chain right b.from left (back_chain b.from right (subst (λ (q : ℕ). Chain links h b.from q) b.from_right (good.chained b.from b.from_some b.from_within)))
    (onward b.from b.to left b.near (subst (λ (q : ℕ). Chain links h b.to q) b.to_left (good.chained b.to b.to_some b.to_within))) in
    record {
      low = λ p some within.
          let w : p ≤ length names = omega arith in
          let e = is p in
          let k = good.low p some w in
          elim (cases_eq (name_of names p) right) [
            | inl r ↦ (let f = renamed-right left right (name_of names p) r in omega arith)
            | inr o ↦ (let f = renamed-other left right (name_of names p) o in omega arith)
          ];
      below = λ p some within.
          let w : p ≤ length names = omega arith in
          let e = is p in
          let k = good.below p some w in
          elim (cases_eq (name_of names p) right) [
            | inl r ↦ (let f = renamed-right left right (name_of names p) r in omega arith)
            | inr o ↦ (let f = renamed-other left right (name_of names p) o in omega arith)
          ];
      own = λ p some within.
          let w : p ≤ length names = omega arith in
          let J = joined names left right in
          elim (cases_eq (name_of names p) right) [
            | inl r ↦ (
                let f : name_of J p ≡ left = is p ∙ renamed-right left right (name_of names p) r in
                ap (name_of J) f ∙ (is left ∙ (ap (renamed left right) left_own ∙ renamed-other left right left (λ e. omega arith))) ∙ sym f)
            | inr o ↦ (
                let f : name_of J p ≡ name_of names p = is p ∙ renamed-other left right (name_of names p) o in
                ap (name_of J) f ∙ (is (name_of names p) ∙ (ap (renamed left right) (good.own p some w) ∙ renamed-other left right (name_of names p) o)) ∙ sym f)
          ];
      chained = λ p some within.
          let w : p ≤ length names = omega arith in
          elim (cases_eq (name_of names p) right) [
            | inl r ↦ subst (λ (q : ℕ). Chain links h p q) (sym (is p ∙ renamed-right left right (name_of names p) r))
                (trans_chain p right left (subst (λ (q : ℕ). Chain links h p q) r (good.chained p some w)) bridge)
            | inr o ↦ subst (λ (q : ℕ). Chain links h p q) (sym (is p ∙ renamed-other left right (name_of names p) o)) (good.chained p some w)
          ];
    }

-- each link of at most the height is within a cluster
abbrev pub AreWithin : List Link → Fraction → List ℕ → Type 0
AreWithin links h names = (k : ℕ) (l : Link) → IsAt links k l → is_less h l.distance ≡ false → name_of names l.left ≡ name_of names l.right

same_ends : (x y : ℕ) → min x y ≡ max x y → x ≡ y
same_ends x y e = omega arith

pub AreWithin-all : (links : List Link) (h : Fraction) (names : List ℕ) → IsOneCluster links names → AreWithin links h names
AreWithin-all links h names one k l at short = same_ends (name_of names l.left) (name_of names l.right) (one k l at)

pub AreWithin-beyond : (links : List Link) (h : Fraction) (names : List ℕ) → ((k : ℕ) (l : Link) → IsAt links k l → left_name names l < right_name names l → is_less h l.distance ≡ true)
    → AreWithin links h names
AreWithin-beyond links h names beyond k l at short =
    same_ends (name_of names l.left) (name_of names l.right)
    (elim (cases_eq (left_name names l) (right_name names l)) [
      | inl e ↦ e
      | inr o ↦ (
          let lt : left_name names l < right_name names l = omega arith in
          absurd (false≢true (sym short ∙ beyond k l at lt)))
    ])

-- where the closest clusters are beyond a height, all are
pub beyond_closest : (links : List Link) (h : Fraction) (names : List ℕ) (left right : ℕ) (height : Fraction) → AreClosest links names left right height
    → is_less h height ≡ true → (k : ℕ) (l : Link) → IsAt links k l → left_name names l < right_name names l → is_less h l.distance ≡ true
beyond_closest links h names left right height c above k l at lt =
    less_than_beyond h l.distance height above (or_parts _ _ (c.least k l at lt)).0

near_same : (links : List Link) (h : Fraction) (names : List ℕ) (p q : ℕ) → AreWithin links h names → AreNear links h p q → name_of names p ≡ name_of names q
near_same links h names p q w n =
    let e = w n.0 n.1 n.2 n.3 in
    elim n.4 [
      | inl s ↦ ap (name_of names) (sym s.0) ∙ (e ∙ ap (name_of names) s.1)
      | inr s ↦ ap (name_of names) (sym s.1) ∙ (sym e ∙ ap (name_of names) s.0)
    ]

chain_same : {links : List Link} {h : Fraction} → (names : List ℕ) (p q : ℕ) → AreWithin links h names → Chain links h p q → name_of names p ≡ name_of names q
chain_same names p _ w (here _) = refl
chain_same {links} {h} names p q w (onward _ s _ near rest) = near_same links h names p s w near ∙ chain_same names s q w rest

pub class_names : (links : List Link) (h : Fraction) (names : List ℕ) (count : ℕ) → length names ≡ count → IsGood links h names → AreWithin links h names
    → AreClassNames links count h names
class_names links h names count each good within = record {
  each = each;
  within = λ p some w. good.low p some (omega arith);
  chained = λ p some w. good.chained p some (omega arith);
  least = λ p q some w some_too w_too chain.
      let e = chain_same names p q within chain in
      let k = good.below q some_too (omega arith) in
      omega arith;
}
