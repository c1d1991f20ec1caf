-- The end of the group that a node begins, in the table.
use Rattle.std.proofs.Common.{◌≡◌, ℕ, ◌+◌, ◌-◌, ◌<◌, ◌≤◌, List, [], ◌∷◌, length, drop, map, get_or, Option, None, Some, MatchOption, Bool, true, false, ◌==◌, length-drop, if◌then◌else◌, refl, ap, sym, ◌∙◌, arith}
use Prim.Native.Nat.{zero, suc}
use Rattle.std.specs.Prelude.{slice_get}
use Rattle.std.proofs.lemmas.List.{length-map}
use Rattle.cb_tree.specs.Nodes.{Node}
use Rattle.cb_tree.specs.declared.node.NodeKind.{NodeKind}
use Rattle.cb_tree.specs.declared.role.Role.{Role}
use Rattle.cb_tree.specs.declared.role.Role.TheVariants as role
use Rattle.cb_tree.specs.inner.Trees.{entry_of}
use Rattle.cb_tree.specs.Groups.{kinds_of, end_behind, group_end_of, turn_by, next_turn}
use Rattle.cb_tree.specs.Roles.{role_of, opens_group}
use Rattle.cb_tree.specs.inner.Trees.{ends_from}

-- the entry at a place
entry_at : (kinds : List NodeKind) (node i d : ℕ) → i < length kinds
    → get_or (map entry_of (ends_from node kinds)) i d ≡ entry_of (end_behind (slice_get kinds i) (drop (suc i) kinds) (node + i))
entry_at [] node i d h = absurd (omega arith)
entry_at (kind ∷ kinds) node zero d h =
    let e : node ≡ node + 0 = omega arith in
    ap (λ n. entry_of (if opens_group kind then next_turn kinds (n + 1) 0 else None)) e
entry_at (kind ∷ kinds) node (suc i) d h =
    let e : (node + 1) + i ≡ node + suc i = omega arith in
    entry_at kinds (node + 1) i d (omega arith) ∙ ap (λ n. entry_of (end_behind (slice_get kinds i) (drop (suc i) kinds) n)) e

-- the entry of a node
end_at : (kinds : List NodeKind) (ends : List ℕ) (node d : ℕ) → 1 ≤ node → node ≤ length kinds → ends ≡ map entry_of (ends_from 1 kinds)
    → get_or ends (node - 1) d ≡ entry_of (group_end_of kinds node)
end_at kinds ends node d low high h =
    let e : suc (node - 1) ≡ node = omega arith in
    let f : 1 + (node - 1) ≡ node = omega arith in
    ap (λ x. get_or x (node - 1) d) h
    ∙ (entry_at kinds 1 (node - 1) d (omega arith)
    ∙ (ap (λ x. entry_of (end_behind (slice_get kinds (node - 1)) (drop x kinds) (1 + (node - 1)))) e ∙ ap (λ n. entry_of (end_behind (slice_get kinds (node - 1)) (drop node kinds) n)) f))

-- there is an entry for each node
entries : (nodes : List Node) (node : ℕ) → length (map entry_of (ends_from node (kinds_of nodes))) ≡ length nodes
entries [] node = refl
entries (n ∷ ns) node = ap suc (entries ns (node + 1))

pub length-ends : (kept nodes : List Node) (ends : List ℕ) → kept ≡ nodes → ends ≡ map entry_of (ends_from 1 (kinds_of kept)) → length ends ≡ length nodes
length-ends kept nodes ends v h = rw v at (ap length h ∙ entries kept 1)

-- a turn that a node is, or that comes behind it
chosen_within : (b : Bool) (node : ℕ) (rest : Option ℕ) (e n : ℕ) → (rest ≡ Some e → (node + 1 ≤ e) × (e < node + 1 + n))
    → (if b then Some node else rest) ≡ Some e → (node ≤ e) × (e < node + suc n)
chosen_within true node rest e n behind h =
    let same : node ≡ e = cc in
    (omega arith, omega arith)
chosen_within false node rest e n behind h =
    let w = behind h in
    (omega (arith, w.0), omega (arith, w.1))

turn_within_by : (r : Role) (node : ℕ) (behind : ℕ → Option ℕ) (depth e n : ℕ)
    → ((d : ℕ) → behind d ≡ Some e → (node + 1 ≤ e) × (e < node + 1 + n))
    → turn_by r node behind depth ≡ Some e → (node ≤ e) × (e < node + suc n)
turn_within_by role.Within node behind depth e n w h = chosen_within false node (behind depth) e n (w depth) h
turn_within_by role.Opens node behind depth e n w h = chosen_within false node (behind (depth + 1)) e n (w (depth + 1)) h
turn_within_by role.Turns node behind depth e n w h = chosen_within (depth == 0) node (behind depth) e n (w depth) h
turn_within_by role.Closes node behind depth e n w h = chosen_within (depth == 0) node (behind (depth - 1)) e n (w (depth - 1)) h

turn_within : (kind : NodeKind) (node : ℕ) (behind : ℕ → Option ℕ) (depth e n : ℕ)
    → ((d : ℕ) → behind d ≡ Some e → (node + 1 ≤ e) × (e < node + 1 + n))
    → turn_by (role_of kind) node behind depth ≡ Some e → (node ≤ e) × (e < node + suc n)
turn_within kind = turn_within_by (role_of kind)

next_within : (kinds : List NodeKind) (node depth e : ℕ) → next_turn kinds node depth ≡ Some e → (node ≤ e) × (e < node + length kinds)
next_within [] node depth e h = absurd (cc)
next_within (kind ∷ kinds) node depth e h =
    turn_within kind node (next_turn kinds (node + 1)) depth e (length kinds) (λ d g. next_within kinds (node + 1) d e g) h

by_kind : (b : Bool) (behind : List NodeKind) (node e : ℕ) → (if b then next_turn behind (node + 1) 0 else None) ≡ Some e
    → (node < e) × (e < node + 1 + length behind)
by_kind true behind node e h =
    let w = next_within behind (node + 1) 0 e h in
    (omega (arith, w.0), omega (arith, w.1))
by_kind false behind node e h = absurd (cc)

by_entry : (kind : Option NodeKind) (behind : List NodeKind) (node e : ℕ) → end_behind kind behind node ≡ Some e → (node < e) × (e < node + 1 + length behind)
by_entry None behind node e h = absurd (cc)
by_entry (Some kind) behind node e h = by_kind (opens_group kind) behind node e h

-- a group ends behind its beginning
pub end_within : (kinds : List NodeKind) (node : ℕ) (end : Option ℕ) → node ≤ length kinds → end ≡ group_end_of kinds node
    → MatchOption end (Unit {0}) (λ e. (node < e) × (e ≤ length kinds))
end_within kinds node None few h = tt
end_within kinds node (Some e) few h =
    let w = by_entry (slice_get kinds (node - 1)) (drop node kinds) node e (sym h) in
    (w.0, omega (arith, w.1, length-drop node kinds))

-- an end is read back from its entry
back_by : (kinds : List NodeKind) (node entry : ℕ) (end result : Option ℕ) → end ≡ group_end_of kinds node → entry ≡ entry_of end
    → MatchOption result (entry ≡ 0) (λ e. (0 < e) × (entry ≡ e)) → result ≡ end
back_by kinds node entry None None h e r = refl
back_by kinds node entry None (Some x) h e r = absurd (omega (arith, r.0, r.1, e))
back_by kinds node entry (Some x) None h e r = absurd (omega (arith, (by_entry (slice_get kinds (node - 1)) (drop node kinds) node x (sym h)).0, r, e))
back_by kinds node entry (Some x) (Some y) h e r = ap Some (sym r.1 ∙ e)

-- the end of the group that a node begins, from its entry
pub end_is : (kept nodes : List Node) (ends : List ℕ) (node d : ℕ) (result : Option ℕ) → kept ≡ nodes → ends ≡ map entry_of (ends_from 1 (kinds_of kept))
    → (1 ≤ node) × (node ≤ length nodes) → MatchOption result (get_or ends (node - 1) d ≡ 0) (λ e. (0 < e) × (get_or ends (node - 1) d ≡ e))
    → result ≡ group_end_of (kinds_of nodes) node
end_is kept nodes ends node d result v h bounds r =
    let few : node ≤ length (kinds_of nodes) = omega (arith, length-map nodes (λ (n : Node). n.kind), bounds) in
    let e : ends ≡ map entry_of (ends_from 1 (kinds_of nodes)) = rw v at h in
    back_by (kinds_of nodes) node (get_or ends (node - 1) d) (group_end_of (kinds_of nodes) node) result refl (end_at (kinds_of nodes) ends node d bounds.0 few e) r
