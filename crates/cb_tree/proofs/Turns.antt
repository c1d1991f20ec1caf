-- The ends of groups, from the last node to the first.
use Rattle.std.proofs.Common.{◌≡◌, ℕ, ◌+◌, ◌-◌, ◌<◌, ◌==◌, false, if◌then◌else◌, List, [], ◌∷◌, length, drop, map, get_or, Option, Some, None, refl, ap, sym, ◌∙◌, ◌≤◌, subst, drop-cons, add-one, ne_eqb, arith}
use Prim.Native.Nat.{zero, suc}
use Rattle.std.specs.Prelude.{slice_get}
use Rattle.std.specs.Option.{option_map}
use Rattle.std.proofs.lemmas.List.{drop_all}
use Rattle.cb_tree.specs.Nodes.{Node}
use Rattle.cb_tree.specs.declared.node.NodeKind.{NodeKind}
use Rattle.cb_tree.specs.declared.role.Role.{Role}
use Rattle.cb_tree.specs.declared.role.Role.TheVariants as role
use Rattle.cb_tree.specs.Roles.{role_of}
use Rattle.cb_tree.specs.Groups.{turn_by, next_turn, kinds_of}
use Rattle.cb_tree.specs.inner.Trees.{ends_from}
use Rattle.cb_tree.specs.inner.Trees.{front_of, end_by, entry_of, turns_by, turns_with}

-- the element at a depth
abbrev pub at : List ℕ → ℕ → Option ℕ
at [] depth = None
at (x ∷ xs) zero = Some x
at (x ∷ xs) (suc depth) = at xs depth

-- these are the next turns of the sections that are open before nodes of these kinds
pub record AreTurns (kinds : List NodeKind) (node : ℕ) (turns : List ℕ) : Type 0 where
  pub each : (depth : ℕ) → next_turn kinds node depth ≡ at turns depth

turns_none : (node : ℕ) → AreTurns [] node []
turns_none node = record { each = λ depth. refl }

behind_first : (turns : List ℕ) (depth : ℕ) → at turns (suc depth) ≡ at (drop 1 turns) depth
behind_first [] depth = refl
behind_first (x ∷ xs) depth = refl

pub inner : (depth : ℕ) → (suc depth == 0) ≡ false
inner depth = ne_eqb (suc depth) 0 (omega arith)

opened : (kinds : List NodeKind) (node : ℕ) (turns : List ℕ) → AreTurns kinds (node + 1) turns
    → (depth : ℕ) → next_turn kinds (node + 1) (depth + 1) ≡ at (drop 1 turns) depth
opened kinds node turns h depth =
    h.each (depth + 1) ∙ (ap (at turns) (add-one depth) ∙ behind_first turns depth)

turned : (kinds : List NodeKind) (node : ℕ) (turns : List ℕ) → AreTurns kinds (node + 1) turns
    → (depth : ℕ) → (if depth == 0 then Some node else next_turn kinds (node + 1) depth) ≡ at (node ∷ drop 1 turns) depth
turned kinds node turns h zero = refl
turned kinds node turns h (suc depth) = rw (inner depth) (h.each (suc depth) ∙ behind_first turns depth)

closed : (kinds : List NodeKind) (node : ℕ) (turns : List ℕ) → AreTurns kinds (node + 1) turns
    → (depth : ℕ) → (if depth == 0 then Some node else next_turn kinds (node + 1) (depth - 1)) ≡ at (node ∷ turns) depth
closed kinds node turns h zero = refl
closed kinds node turns h (suc depth) =
    let e : suc depth - 1 ≡ depth = omega arith in
    rw (inner depth) (ap (next_turn kinds (node + 1)) e ∙ h.each depth)

turns_by_role : (r : Role) (kinds : List NodeKind) (node : ℕ) (turns : List ℕ) → AreTurns kinds (node + 1) turns
    → (depth : ℕ) → turn_by r node (next_turn kinds (node + 1)) depth ≡ at (turns_by r node turns) depth
turns_by_role role.Within kinds node turns h = h.each
turns_by_role role.Opens kinds node turns h = opened kinds node turns h
turns_by_role role.Turns kinds node turns h = turned kinds node turns h
turns_by_role role.Closes kinds node turns h = closed kinds node turns h

turns_more : (kind : NodeKind) (kinds : List NodeKind) (node : ℕ) (turns : List ℕ) → AreTurns kinds (node + 1) turns
    → AreTurns (kind ∷ kinds) node (turns_with kind node turns)
turns_more kind kinds node turns h = record { each = turns_by_role (role_of kind) kinds node turns h }

front_is : (turns : List ℕ) → front_of turns ≡ at turns 0
front_is [] = refl
front_is (x ∷ xs) = refl

-- the entries of the nodes behind a place, and the turns there
pub record Back (kinds : List NodeKind) (left : ℕ) (ends : List ℕ) (turns : List ℕ) : Type 0 where
  pub within : left ≤ length kinds
  pub ends_are : ends ≡ map entry_of (ends_from (left + 1) (drop left kinds))
  pub turns_are : AreTurns (drop left kinds) (left + 1) turns

pub back_start : (kinds : List NodeKind) (left : ℕ) → left ≡ length kinds → Back kinds left [] []
back_start kinds left h =
    let e : drop left kinds ≡ [] = drop_all left kinds (omega arith) in
    record {
      within = omega arith;
      ends_are = rw e refl;
      turns_are = rw e (turns_none (left + 1));
    }

back_by : (kinds : List NodeKind) (m : ℕ) (kind : NodeKind) (ends : List ℕ) (turns : List ℕ) → Back kinds (suc m) ends turns
    → drop m kinds ≡ kind ∷ drop (suc m) kinds → Back kinds m (entry_of (end_by (role_of kind) turns) ∷ ends) (turns_with kind (suc m) turns)
back_by kinds m kind ends turns b e =
    let first : front_of turns ≡ next_turn (drop (suc m) kinds) (suc m + 1) 0 = front_is turns ∙ sym (b.turns_are.each 0) in
    record {
      within = omega (arith, b.within);
      ends_are = rw (e, add-one m, first, b.ends_are) refl;
      turns_are = rw (e, add-one m) (turns_more kind (drop (suc m) kinds) (suc m) turns b.turns_are);
    }

pub back_more : (kinds : List NodeKind) (left m : ℕ) (kind : NodeKind) (ends : List ℕ) (turns : List ℕ) → Back kinds left ends turns
    → left ≡ m + 1 → kind ≡ get_or kinds m kind → Back kinds m (entry_of (end_by (role_of kind) turns) ∷ ends) (turns_with kind left turns)
back_more kinds left m kind ends turns b e kind_is =
    let l : left ≡ suc m = e ∙ add-one m in
    let within : m < length kinds = omega (arith, b.within) in
    let d : drop m kinds ≡ kind ∷ drop (suc m) kinds = drop-cons kinds m kind within ∙ ap (λ x. x ∷ drop (suc m) kinds) (sym kind_is) in
    let P : ℕ → Type 0 = λ x. Back kinds x ends turns in
    let Q : ℕ → Type 0 = λ x. Back kinds m (entry_of (end_by (role_of kind) turns) ∷ ends) (turns_with kind x turns) in
    subst Q (sym l) (back_by kinds m kind ends turns (subst P l b) d)

-- the kind at a place
pub kind_at : (nodes : List Node) (i : ℕ) (kind : NodeKind) → option_map (λ (n : Node). n.kind) (slice_get nodes i) ≡ Some kind → kind ≡ get_or (kinds_of nodes) i kind
kind_at [] i kind e = absurd (cc)
kind_at (n ∷ ns) zero kind e = cc
kind_at (n ∷ ns) (suc i) kind e = kind_at ns i kind e
