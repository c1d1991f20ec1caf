-- The next node of a file in the tree of the file.
use Rattle.std.proofs.Common.{◌≡◌, ℕ, ◌+◌, ◌-◌, ◌<◌, ◌≤◌, Bool, List, [], ◌∷◌, length, map, drop, refl, sym, ap, ◌∙◌, arith, inr}
use Rattle.std.specs.Prelude.{Option, Some, None, slice_get, cond, true, false}
use Rattle.std.specs.Option.{option_map}
use Prim.Native.Nat.{zero, suc}
use Rattle.cb_tokens.specs.declared.token.Token.{Token}
use Rattle.cb_tree.specs.declared.node.NodeKind.{NodeKind}
use Rattle.cb_tree.specs.Groups.{kinds_of, group_end_of, end_behind, next_turn}
use Rattle.cb_tree.specs.Roles.{opens_group}
use Rattle.cb_tree.specs.Nodes.{Node, node_rest}
use Rattle.cb_tree.specs.Skeleton.{Bone, skeleton}
use Rattle.cb_pass.specs.declared.section.Section.{Section}
use Rattle.cb_pass.specs.States.{Frame}
use Rattle.cb_pass.specs.Steps.{sections_behind}
use Rattle.cb_pass.specs.inner.Trails.{next_kind, next_rest, behind_first}
use Rattle.cb_pass.specs.inner.Moves.{Leaps, advanced}

kind_is : (nodes : List Node) (i : ℕ) → next_kind (drop i (skeleton nodes)) ≡ option_map (λ n. n.kind) (slice_get nodes i)
kind_is [] zero = refl
kind_is [] (suc i) = refl
kind_is (n ∷ ns) zero = refl
kind_is (n ∷ ns) (suc i) = kind_is ns i

some_rest : (nodes : List Node) (i : ℕ) (rest : List Token) → option_map node_rest (slice_get nodes i) ≡ Some rest → rest ≡ next_rest (drop i (skeleton nodes))
some_rest [] zero rest e = absurd cc
some_rest [] (suc i) rest e = absurd cc
some_rest (n ∷ ns) zero rest e = cc
some_rest (n ∷ ns) (suc i) rest e = some_rest ns i rest e

past_kind : (nodes : List Node) (i : ℕ) → length nodes ≤ i → next_kind (drop i (skeleton nodes)) ≡ None
past_kind [] zero h = refl
past_kind [] (suc i) h = refl
past_kind (n ∷ ns) zero h = absurd (omega arith)
past_kind (n ∷ ns) (suc i) h = past_kind ns i (omega arith)

past_rest : (nodes : List Node) (i : ℕ) → length nodes ≤ i → next_rest (drop i (skeleton nodes)) ≡ []
past_rest [] zero h = refl
past_rest [] (suc i) h = refl
past_rest (n ∷ ns) zero h = absurd (omega arith)
past_rest (n ∷ ns) (suc i) h = past_rest ns i (omega arith)

one_back : (i : ℕ) → i + 1 - 1 ≡ i
one_back i = omega arith

pub some_kind : (nodes : List Node) (i : ℕ) (kind : NodeKind) → option_map (λ n. n.kind) (slice_get nodes (i + 1 - 1)) ≡ Some kind
    → Some kind ≡ next_kind (drop i (skeleton nodes))
some_kind nodes i kind e = sym (kind_is nodes i ∙ (ap (λ k. option_map (λ (n : Node). n.kind) (slice_get nodes k)) (sym (one_back i)) ∙ e))

pub no_kind : (nodes : List Node) (i : ℕ) → length nodes ≤ i → None ≡ next_kind (drop i (skeleton nodes))
no_kind nodes i h = sym (past_kind nodes i h)

pub its_rest : (nodes : List Node) (i : ℕ) (rest : List Token) → option_map node_rest (slice_get nodes (i + 1 - 1)) ≡ Some rest
    → rest ≡ next_rest (drop i (skeleton nodes))
its_rest nodes i rest e = some_rest nodes i rest (ap (λ k. option_map node_rest (slice_get nodes k)) (sym (one_back i)) ∙ e)

pub no_rest : (nodes : List Node) (i : ℕ) → length nodes ≤ i → [] ≡ next_rest (drop i (skeleton nodes))
no_rest nodes i h = sym (past_rest nodes i h)

-- a file that has a next node is not at its end
pub is_within : (nodes : List Node) (i : ℕ) → 0 < length (drop i (skeleton nodes)) → i < length nodes
is_within [] zero h = h
is_within [] (suc i) h = absurd (omega arith)
is_within (n ∷ ns) zero h = omega arith
is_within (n ∷ ns) (suc i) h = let k : i < length ns = is_within ns i h in omega arith

pub kind_within : (nodes : List Node) (i : ℕ) (kind : NodeKind) → next_kind (drop i (skeleton nodes)) ≡ Some kind → i < length nodes
kind_within [] zero kind e = absurd cc
kind_within [] (suc i) kind e = absurd cc
kind_within (n ∷ ns) zero kind e = omega arith
kind_within (n ∷ ns) (suc i) kind e = let k : i < length ns = kind_within ns i kind e in omega arith

-- what follows the next node
pub behind : (nodes : List Node) (i : ℕ) → behind_first (drop i (skeleton nodes)) ≡ drop (suc i) (skeleton nodes)
behind [] zero = refl
behind [] (suc i) = refl
behind (n ∷ ns) zero = refl
behind (n ∷ ns) (suc i) = behind ns i

-- a file that goes on
pub advances : (nodes : List Node) (i : ℕ) (path : List ℕ) (depth : ℕ) (sections next : List Section) (kind : NodeKind) (condition : Bool)
    → next ≡ sections_behind kind condition sections
    → let f : Frame = record { path = path; node = suc i; rest = drop i (skeleton nodes); depth = depth; sections = sections } in
    let g : Frame = record { path = path; node = suc (i + 1); rest = drop (i + 1) (skeleton nodes); depth = depth; sections = next } in
    g ≡ advanced kind condition f
advances nodes i path depth sections next kind condition e =
    ap (λ (ss : List Section). let g : Frame = record { path = path; node = suc (i + 1); rest = drop (i + 1) (skeleton nodes); depth = depth; sections = ss } in g) e
    ∙ (ap (λ (n : ℕ). let g : Frame = record { path = path; node = suc n; rest = drop n (skeleton nodes); depth = depth; sections = sections_behind kind condition sections } in g) one_on
    ∙ ap (λ (bones : List Bone). let g : Frame = record { path = path; node = suc (suc i); rest = bones; depth = depth; sections = sections_behind kind condition sections } in g) (sym (behind nodes i)))
  where
    one_on : i + 1 ≡ suc i
    one_on = omega arith

some_length : (rest : List Bone) (kind : NodeKind) → next_kind rest ≡ Some kind → 0 < length rest
some_length [] kind e = absurd cc
some_length (b ∷ bs) kind e = omega arith

pub has_length : (rest : List Bone) (kind : NodeKind) → next_kind rest ≡ Some kind → 0 < length rest
has_length rest kind e = some_length rest kind e

nil_drop : (n : ℕ) → (let none : List Bone = [] in drop n none ≡ none)
nil_drop zero = refl
nil_drop (suc n) = refl

drop_more : (nodes : List Bone) (i k : ℕ) → drop k (drop i nodes) ≡ drop (i + k) nodes
drop_more nodes zero k = let e : k ≡ 0 + k = omega arith in ap (λ (n : ℕ). drop n nodes) e
drop_more [] (suc i) k = nil_drop k ∙ sym (nil_drop (suc i + k))
drop_more (n ∷ ns) (suc i) k =
    let e : suc (i + k) ≡ suc i + k = omega arith in
    drop_more ns i k ∙ ap (λ (m : ℕ). drop m (n ∷ ns)) e

some_turn : (begins : Bool) (turn : Option ℕ) (end : ℕ) → Some end ≡ cond begins turn None → turn ≡ Some end
some_turn true turn end e = sym e
some_turn false turn end e = absurd cc

turn_at : (kind : Option NodeKind) (kinds : List NodeKind) (node end : ℕ) → Some end ≡ end_behind kind kinds node → next_turn kinds (node + 1) 0 ≡ Some end
turn_at None kinds node end e = absurd cc
turn_at (Some kind) kinds node end e = some_turn (opens_group kind) (next_turn kinds (node + 1) 0) end e

kinds_left : (nodes : List Node) (i : ℕ) → drop i (kinds_of nodes) ≡ map (λ b. b.kind) (drop i (skeleton nodes))
kinds_left [] zero = refl
kinds_left [] (suc i) = refl
kinds_left (n ∷ ns) zero = ap (λ (ks : List NodeKind). n.kind ∷ ks) (kinds_left ns 0)
kinds_left (n ∷ ns) (suc i) = kinds_left ns i

-- to the end of a group
pub leap : (nodes : List Node) (f : Frame) (i end : ℕ) → f.node ≡ suc i → f.rest ≡ drop i (skeleton nodes)
    → Some end ≡ group_end_of (kinds_of nodes) i → i < end
    → Leaps f (record f { node = suc (end - 1); rest = drop (end - 1) (skeleton nodes) })
leap nodes f i end node rest e lt =
    let turn : next_turn (drop i (kinds_of nodes)) (i + 1) 0 ≡ Some end = turn_at (slice_get (kinds_of nodes) (i - 1)) (drop i (kinds_of nodes)) i end e in
    let same : next_turn (map (λ b. b.kind) f.rest) f.node 0 ≡ next_turn (drop i (kinds_of nodes)) (i + 1) 0 =
    ap (λ (bones : List Bone). next_turn (map (λ (b : Bone). b.kind) bones) f.node 0) rest
    ∙ (ap (λ (n : ℕ). next_turn (map (λ (b : Bone). b.kind) (drop i (skeleton nodes))) n 0) (node ∙ omega arith)
    ∙ ap (λ (ks : List NodeKind). next_turn ks (i + 1) 0) (sym (kinds_left nodes i))) in
    let left : drop (end - 1) (skeleton nodes) ≡ drop (end - f.node) f.rest =
    sym (ap (λ (bones : List Bone). drop (end - f.node) bones) rest ∙ (drop_more (skeleton nodes) i (end - f.node) ∙ ap (λ (n : ℕ). drop n (skeleton nodes)) (omega (arith, node, lt)))) in
    let next : suc (end - 1) ≡ end = omega (arith, lt) in
    inr (end, same ∙ turn, ap (λ (n : ℕ). record f { node = n; rest = drop (end - 1) (skeleton nodes) }) next ∙ ap (λ (bones : List Bone). record f { node = end; rest = bones }) left)
