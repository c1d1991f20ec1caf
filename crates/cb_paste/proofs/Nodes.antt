-- What the sets of an arena have, by its nodes.
use Rattle.std.proofs.Common.{◌≡◌, ℕ, zero, suc, ◌+◌, ◌-◌, ◌*◌, ◌/◌, ◌%◌, ◌==◌, ◌&&◌, ◌||◌, ◌<◌, ◌≤◌, Bool, true, false, List, [], ◌∷◌, ◌++◌, length, map, get_or, refl, sym, subst, ◌∙◌, ap, inl, inr, arith, append_assoc}
use Rattle.std.specs.List.{list_any}
use Rattle.std.proofs.lemmas.List.{get_or_append_left, get_or_at, length_push}
use Rattle.std.proofs.lemmas.List.Folds.{list_any-append}
use Rattle.std.proofs.lemmas.Bool.{cases_eq, eq-eqb, ne_eqb}
use Rattle.std.proofs.lemmas.Bool.Decides.{same_from_decides, Decides-like, Decides-eqb}
use Rattle.cb_paste.specs.declared.hides.Cell.{Cell}
use Rattle.cb_paste.specs.declared.hides.Node.{Node}
use Rattle.cb_paste.specs.declared.hides.Node.TheVariants.{One, Fork}
use Rattle.cb_paste.specs.Sets.{set_at, hides, Extends}
use Rattle.cb_paste.specs.inner.Nodes.{side_of, in_cell, in_node, IsOver, IsNodeOver}
use Rattle.cb_paste.specs.inner.Cells.{zero_at, set_of, node_set, sets_from, sets_of, AreNodesFrom, AreNodes}
use Rattle.cb_paste.proofs.Arenas.{extends_trans, extends_self, set_at_kept, over_more}

-- two tests of equality whose facts imply each other
pub same_test : (a b c d : ℕ) → (a ≡ b → c ≡ d) → (c ≡ d → a ≡ b) → (a == b) ≡ (c == d)
same_test a b c d f g = same_from_decides (a == b) (c == d) (Decides-like (a == b) f g (Decides-eqb a b)) (Decides-eqb c d)

any_map : (f : ℕ → ℕ) (n m : ℕ) → ((k : ℕ) → (n == f k) ≡ (m == k)) → (xs : List ℕ) → list_any (λ p. n == p) (map f xs) ≡ list_any (λ p. m == p) xs
any_map f n m same [] = refl
any_map f n m same (x ∷ xs) = rw (same x, any_map f n m same xs)

none_map : (f : ℕ → ℕ) (n : ℕ) → ((k : ℕ) → (n == f k) ≡ false) → (xs : List ℕ) → list_any (λ p. n == p) (map f xs) ≡ false
none_map f n none [] = refl
none_map f n none (x ∷ xs) = rw (none x, none_map f n none xs)

any_zero : (here : Bool) (n : ℕ) → list_any (λ p. n == p) (zero_at here) ≡ ((n == 0) && here)
any_zero true n = grind arith
any_zero false n = grind arith

any_set_of : (sets : List (List ℕ)) (c : Cell) (n : ℕ) → list_any (λ p. n == p) (set_of sets c) ≡ (((n == 0) && c.here) || (list_any (λ p. n == p) (map (λ k. 2 * k + 1) (set_at sets c.odd)) || list_any (λ p. n == p) (map (λ k. 2 * k + 2) (set_at sets c.even))))
any_set_of sets c n =
    list_any-append (λ p. n == p) (zero_at c.here) (map (λ k. 2 * k + 1) (set_at sets c.odd) ++ map (λ k. 2 * k + 2) (set_at sets c.even))
    ∙ rw
    (any_zero c.here n, list_any-append (λ p. n == p) (map (λ k. 2 * k + 1) (set_at sets c.odd)) (map (λ k. 2 * k + 2) (set_at sets c.even)))

pub or_false : (b : Bool) → (b || false) ≡ b
or_false true = refl
or_false false = refl

at_zero : (sets : List (List ℕ)) (c : Cell) (n : ℕ) → n ≡ 0 → list_any (λ p. n == p) (set_of sets c) ≡ in_cell sets c n
unfolding in_cell
at_zero sets c n e =
    any_set_of sets c n
    ∙ rw
    (eq-eqb n 0 e, none_map (λ k. 2 * k + 1) n (λ k. ne_eqb n (2 * k + 1) (λ f. omega arith)) (set_at sets c.odd), none_map (λ k. 2 * k + 2) n (λ k. ne_eqb n (2 * k + 2) (λ f. omega arith)) (set_at sets c.even))
    (or_false c.here)

at_odd : (sets : List (List ℕ)) (c : Cell) (n : ℕ) → (n ≡ 0 → ⊥) → n % 2 ≡ 1 → list_any (λ p. n == p) (set_of sets c) ≡ in_cell sets c n
unfolding in_cell hides side_of
at_odd sets c n ne e =
    any_set_of sets c n
    ∙ rw
    (ne_eqb n 0 ne, any_map (λ k. 2 * k + 1) n ((n - 1) / 2) (λ k. same_test n (2 * k + 1) ((n - 1) / 2) k (λ f. omega arith) (λ f. omega arith)) (set_at sets c.odd), none_map (λ k. 2 * k + 2) n (λ k. ne_eqb n (2 * k + 2) (λ f. omega arith)) (set_at sets c.even), eq-eqb (n % 2) 1 e)
    (or_false _)

at_even : (sets : List (List ℕ)) (c : Cell) (n : ℕ) → (n ≡ 0 → ⊥) → (n % 2 ≡ 1 → ⊥) → list_any (λ p. n == p) (set_of sets c) ≡ in_cell sets c n
unfolding in_cell hides side_of
at_even sets c n ne e =
    any_set_of sets c n
    ∙ rw
    (ne_eqb n 0 ne, none_map (λ k. 2 * k + 1) n (λ k. ne_eqb n (2 * k + 1) (λ f. omega arith)) (set_at sets c.odd), any_map (λ k. 2 * k + 2) n ((n - 1) / 2) (λ k. same_test n (2 * k + 2) ((n - 1) / 2) k (λ f. omega arith) (λ f. omega arith)) (set_at sets c.even), ne_eqb (n % 2) 1 e)

-- what the set of a fork has
set_of_has : (sets : List (List ℕ)) (c : Cell) (n : ℕ) → list_any (λ p. n == p) (set_of sets c) ≡ in_cell sets c n
set_of_has sets c n =
    elim (cases_eq n 0) [
      | inl e ↦ at_zero sets c n e
      | inr ne ↦ elim (cases_eq (n % 2) 1) [ inl e ↦ at_odd sets c n ne e | inr e ↦ at_even sets c n ne e ]
    ]

-- what the set of a node has
node_set_has : (sets : List (List ℕ)) (c : Node) (n : ℕ) → list_any (λ p. n == p) (node_set sets c) ≡ in_node sets c n
node_set_has sets (One p) n = or_false (n == p)
node_set_has sets (Fork c) n = set_of_has sets c n

pub node_over_more : (c : Node) (m n : ℕ) → m ≤ n → IsNodeOver m c → IsNodeOver n c
node_over_more (One p) m n le o = tt
node_over_more (Fork c) m n le o = over_more c m n le o

-- the sets of nodes are those that stood and more
pub from_extends : (sets : List (List ℕ)) (cs : List Node) → Extends sets (sets_from sets cs)
from_extends sets [] = extends_self sets
from_extends sets (c ∷ cs) =
    extends_trans (record { more = node_set sets c ∷ []; is = refl }) (from_extends (sets ++ node_set sets c ∷ []) cs)

pub length_from : (sets : List (List ℕ)) (cs : List Node) → length (sets_from sets cs) ≡ length sets + length cs
length_from sets [] = omega arith
length_from sets (c ∷ cs) =
    omega (arith, length_from (sets ++ node_set sets c ∷ []) cs, length_push sets (node_set sets c))

set_of_kept : (a more : List (List ℕ)) (c : Cell) → IsOver (length a) c → set_of (a ++ more) c ≡ set_of a c
set_of_kept a more c o = rw (set_at_kept a more c.odd o.odd, set_at_kept a more c.even o.even)

node_set_kept : (a more : List (List ℕ)) (c : Node) → IsNodeOver (length a) c → node_set (a ++ more) c ≡ node_set a c
node_set_kept a more (One p) o = refl
node_set_kept a more (Fork c) o = set_of_kept a more c o

-- the set of a node among others is made of the sets before it
from_at : (sets : List (List ℕ)) (cs : List Node) (count i k : ℕ) (d : Node) → length sets ≡ count → AreNodesFrom count cs → i < length cs → k ≡ count + i → get_or (sets_from sets cs) k [] ≡ node_set (sets_from sets cs) (get_or cs i d)
from_at sets [] count i k d len o lt e = absurd (omega arith)
from_at sets (c ∷ cs) count zero k d len o lt e =
    let grown = from_extends (sets ++ node_set sets c ∷ []) cs in
    ap (λ l. get_or l k []) grown.is
    ∙ (get_or_append_left (sets ++ node_set sets c ∷ []) grown.more [] k (omega (arith, length_push sets (node_set sets c)))
    ∙ (get_or_at sets (node_set sets c) [] [] k (omega arith)
    ∙ sym (ap (λ l. node_set l c) grown.is ∙ (ap (λ l. node_set l c) (append_assoc sets (node_set sets c ∷ []) grown.more) ∙ node_set_kept sets (node_set sets c ∷ [] ++ grown.more) c (node_over_more c count (length sets) (omega arith) o.0)))))
from_at sets (c ∷ cs) count (suc i) k d len o lt e =
    from_at (sets ++ node_set sets c ∷ []) cs (suc count) i k d (omega (arith, length_push sets (node_set sets c))) o.1 (omega arith) (omega arith)

over : (cs : List Node) (count i : ℕ) (d : Node) → AreNodesFrom count cs → i < length cs → IsNodeOver (count + i) (get_or cs i d)
over [] count i d o lt = absurd (omega arith)
over (c ∷ cs) count zero d o lt = node_over_more c count (count + 0) (omega arith) o.0
over (c ∷ cs) count (suc i) d o lt =
    node_over_more (get_or cs i d) (suc count + i) (count + suc i) (omega arith) (over cs (suc count) i d o.1 (omega arith))

pub length_sets : (cs : List Node) → length (sets_of cs) ≡ length cs
length_sets cs = omega (arith, length_from [] cs)

-- the node of a set has what the set has
pub node_has : (cs : List Node) (set : ℕ) (c : Node) → AreNodes cs → (set ≡ 0 → ⊥) → set ≤ length (sets_of cs) → c ≡ get_or cs (set - 1) c → (n : ℕ) → hides (sets_of cs) set n ≡ in_node (sets_of cs) c n
unfolding hides
node_has cs zero c o ne le e n = absurd (ne refl)
node_has cs (suc i) c o ne le e n =
    let at : i < length cs = omega (arith, length_sets cs) in
    let at_i : c ≡ get_or cs i c = e ∙ ap (λ k. get_or cs k c) (omega arith) in
    ap (λ s. list_any (λ p. n == p) s) (from_at [] cs 0 i i c refl o at (omega arith))
    ∙ (node_set_has (sets_of cs) (get_or cs i c) n ∙ ap (λ d. in_node (sets_of cs) d n) (sym at_i))

-- and stands over sets before it
pub node_over : (cs : List Node) (set : ℕ) (c : Node) → AreNodes cs → (set ≡ 0 → ⊥) → set ≤ length (sets_of cs) → c ≡ get_or cs (set - 1) c → IsNodeOver (set - 1) c
node_over cs set c o ne le e =
    subst (λ d. IsNodeOver (set - 1) d) (sym e) (node_over_more _ _ _ (omega arith) (over cs 0 (set - 1) c o (omega (arith, length_sets cs))))

from_push : (sets : List (List ℕ)) (cs : List Node) (c : Node) → sets_from sets (cs ++ c ∷ []) ≡ sets_from sets cs ++ node_set (sets_from sets cs) c ∷ []
from_push sets [] c = refl
from_push sets (d ∷ ds) c = from_push (sets ++ node_set sets d ∷ []) ds c

nodes_push_from : (count : ℕ) (cs : List Node) (c : Node) → AreNodesFrom count cs → IsNodeOver (count + length cs) c → AreNodesFrom count (cs ++ c ∷ [])
nodes_push_from count [] c o new = (node_over_more _ _ _ (omega arith) new, tt)
nodes_push_from count (d ∷ ds) c o new = (o.0, nodes_push_from (suc count) ds c o.1 (node_over_more _ _ _ (omega arith) new))

-- a node more over those that stand
pub nodes_push : (cs : List Node) (c : Node) → AreNodes cs → IsNodeOver (length (sets_of cs)) c → AreNodes (cs ++ c ∷ [])
nodes_push cs c o new = nodes_push_from 0 cs c o (node_over_more _ _ _ (omega (arith, length_sets cs)) new)

pub push_extends : (cs : List Node) (c : Node) → Extends (sets_of cs) (sets_of (cs ++ c ∷ []))
push_extends cs c = record { more = node_set (sets_of cs) c ∷ []; is = from_push [] cs c }

pub push_has : (cs : List Node) (c : Node) (s : ℕ) → s ≡ length cs + 1 → (n : ℕ) → hides (sets_of (cs ++ c ∷ [])) s n ≡ in_node (sets_of cs) c n
unfolding hides
push_has cs c zero e n = absurd (omega arith)
push_has cs c (suc i) e n =
    ap (λ s. list_any (λ p. n == p) s)
    (ap (λ l. get_or l i []) (from_push [] cs c) ∙ get_or_at (sets_of cs) (node_set (sets_of cs) c) [] [] i (omega (arith, length_sets cs)))
    ∙ node_set_has (sets_of cs) c n
