-- The order of links.
use Rattle.std.proofs.Common.{◌≡◌, ℕ, ◌*◌, ◌<◌, ◌≤◌, Bool, true, false, ◌||◌, ◌&&◌, not, List, refl, sym, ◌∙◌, inl, inr, arith}
use Rattle.std.specs.Cmp.{IsStrictWeakOrder}
use Rattle.std.proofs.lemmas.Bool.{cases_Bool, false≢true, or_parts, or_from, and_left, and_right, not_from_true, ltb-true, ltb-false, le-ltb}
use Rattle.std.proofs.lemmas.List.MinMax.{IsStrictWeakOrder-by_number}
use Rattle.std.proofs.Math.Nat.{mul-le-mul_right, le_of_mul-le-mul_right}
use Rattle.cb_diverge.specs.declared.fraction.Fraction.{Fraction}
use Rattle.cb_diverge.specs.Distances.{is_less}
use Rattle.cb_cluster.specs.declared.link.Link.{Link}
use Rattle.cb_cluster.specs.Names.{left_name, right_name}
use Rattle.cb_cluster.specs.Inner.{then_by, within_rank, by_rank, by_distance, by_left, by_right, precedes}

one_way_bits : (fab fba gab gba : Bool) → (fab ≡ true → fba ≡ false) → (gab ≡ true → gba ≡ false)
    → (fab || (not fba && gab)) ≡ true → (fba || (not fab && gba)) ≡ false
one_way_bits true true gab gba f g h = f refl
one_way_bits true false gab gba f g h = refl
one_way_bits false true gab gba f g h = sym h
one_way_bits false false true gba f g h = g refl
one_way_bits false false false gba f g h = absurd (false≢true h)

second_false : (t g : Bool) → t ≡ false → (not t && g) ≡ false → g ≡ false
second_false true g e h = absurd (false≢true (sym e))
second_false false g e h = h

chain_bits : (fab fba fbc fcb fac fca gab gbc gac : Bool)
    → (fab ≡ false → fbc ≡ false → fac ≡ false) → (fbc ≡ false → fca ≡ false → fba ≡ false) → (fca ≡ false → fab ≡ false → fcb ≡ false)
    → (gab ≡ false → gbc ≡ false → gac ≡ false)
    → (fab || (not fba && gab)) ≡ false → (fbc || (not fcb && gbc)) ≡ false → (fac || (not fca && gac)) ≡ false
chain_bits fab fba fbc fcb fac fca gab gbc gac ac ba cb g h k =
    let p = or_parts fab (not fba && gab) h in
    let q = or_parts fbc (not fcb && gbc) k in
    or_from fac (not fca && gac) (ac p.0 q.0)
    (elim (cases_Bool fca) [
      | inl t ↦ and_left (not fca) gac (not_from_true fca t)
      | inr u ↦ and_right (not fca) gac (g (second_false fba gab (ba q.0 u) p.1) (second_false fcb gbc (cb u p.0) q.1))
    ])

-- one order and then another is an order
then_by-order : (f g : Link → Link → Bool) → IsStrictWeakOrder f → IsStrictWeakOrder g → IsStrictWeakOrder (then_by f g)
then_by-order f g o p = record {
  one_way = λ a b h. one_way_bits (f a b) (f b a) (g a b) (g b a) (o.one_way a b) (p.one_way a b) h;
  chain = λ a b c h k. chain_bits (f a b) (f b a) (f b c) (f c b) (f a c) (f c a) (g a b) (g b c) (g a c)
      (o.chain a b c) (o.chain b c a) (o.chain c a b) (p.chain a b c) h k;
}

cross : (n d m e k f : ℕ) → 0 < e → m * d ≤ n * e → k * e ≤ m * f → k * d ≤ n * f
cross n d m e k f pos h g =
    let one : m * d * f ≤ n * e * f = mul-le-mul_right f h in
    let two : k * e * d ≤ m * f * d = mul-le-mul_right d g in
    let all : k * d * e ≤ n * f * e = omega (arith, one, two) in
    le_of_mul-le-mul_right all pos

-- fractions are ordered by their values
pub fractions_chain : (a b c : Fraction) → is_less a b ≡ false → is_less b c ≡ false → is_less a c ≡ false
fractions_chain a b c h k =
    le-ltb (a.n * c.d) (c.n * a.d)
    (cross a.n a.d b.n b.d c.n c.d b.proper.1 (ltb-false (a.n * b.d) (b.n * a.d) h) (ltb-false (b.n * c.d) (c.n * b.d) k))

pub fractions_one_way : (a b : Fraction) → is_less a b ≡ true → is_less b a ≡ false
fractions_one_way a b h =
    let lt = ltb-true (a.n * b.d) (b.n * a.d) h in
    le-ltb (b.n * a.d) (a.n * b.d) (omega arith)

-- of two that are no further than a third, one beyond it is greater
pub less_than_beyond : (low height beyond : Fraction) → is_less low beyond ≡ true → is_less height beyond ≡ false → is_less low height ≡ true
less_than_beyond low height beyond h k =
    elim (cases_Bool (is_less low height)) [
      | inl t ↦ t
      | inr u ↦ absurd (false≢true (sym (fractions_chain low height beyond u k) ∙ h))
    ]

distance-order : IsStrictWeakOrder by_distance
distance-order = record {
  one_way = λ a b h. fractions_one_way a.distance b.distance h;
  chain = λ a b c h k. fractions_chain a.distance b.distance c.distance h k;
}

pub precedes-order : (names : List ℕ) → IsStrictWeakOrder (precedes names)
unfolding precedes
precedes-order names =
    then_by-order (by_rank names) (then_by by_distance (then_by (by_left names) (by_right names)))
    (IsStrictWeakOrder-by_number (within_rank names))
    (then_by-order by_distance (then_by (by_left names) (by_right names)) distance-order
    (then_by-order (by_left names) (by_right names) (IsStrictWeakOrder-by_number (left_name names)) (IsStrictWeakOrder-by_number (right_name names))))
