-- In a sound source every group has an end.
use Rattle.std.proofs.Common.{◌≡◌, ℕ, ◌+◌, ◌-◌, ◌<◌, ◌≤◌, ◌==◌, Bool, true, false, if◌then◌else◌, List, [], ◌∷◌, length, drop, Option, None, Some, refl, arith}
use Prim.Native.Nat.{zero, suc}
use Rattle.std.specs.Prelude.{slice_get, IsSome}
use Rattle.std.specs.Option.{option_map}
use Rattle.cb_tree.specs.declared.node.NodeKind.{NodeKind}
use Rattle.cb_tree.specs.declared.role.Role.{Role}
use Rattle.cb_tree.specs.declared.role.Role.TheVariants as role
use Rattle.cb_tree.specs.declared.sections.OpenSection.{OpenSection}
use Rattle.cb_tree.specs.Nodes.{Node}
use Rattle.cb_tree.specs.Sections.{fault_at_end, first_fault}
use Rattle.cb_tree.specs.Groups.{kinds_of, turn_by, next_turn, end_behind, group_end_of}
use Rattle.cb_tree.specs.Roles.{role_of, begins_group, opens_group}
use Rattle.cb_tree.specs.inner.Frames.{MayStand, depth_after}
use Rattle.cb_tree.proofs.NestSteps.{Stands, goes}
use Rattle.cb_tree.proofs.Turns.{inner}

chosen_some : (b : Bool) (node : ℕ) (rest : Option ℕ) → IsSome rest → IsSome (if b then Some node else rest)
chosen_some true node rest h = refl
chosen_some false node rest h = h

closed_some : (depth node : ℕ) (behind : ℕ → Option ℕ) (before after : List OpenSection) → length after ≡ length before - 1
    → ((d : ℕ) → d < length after → IsSome (behind d)) → depth < length before → IsSome (if depth == 0 then Some node else behind (depth - 1))
closed_some zero node behind before after e w h = refl
closed_some (suc depth) node behind before after e w h = rw (inner depth) (w (suc depth - 1) (omega arith))

turn_some_by : (r : Role) (node : ℕ) (behind : ℕ → Option ℕ) (depth : ℕ) (before after : List OpenSection) → length after ≡ depth_after r (length before)
    → ((d : ℕ) → d < length after → IsSome (behind d)) → depth < length before → IsSome (turn_by r node behind depth)
turn_some_by role.Within node behind depth before after s w h = w depth (omega (arith, s))
turn_some_by role.Opens node behind depth before after s w h = w (depth + 1) (omega (arith, s))
turn_some_by role.Turns node behind depth before after s w h = chosen_some (depth == 0) node (behind depth) (w depth (omega (arith, s)))
turn_some_by role.Closes node behind depth before after s w h = closed_some depth node behind before after s w h

turn_some : (kind : NodeKind) (node : ℕ) (behind : ℕ → Option ℕ) (depth : ℕ) (before after : List OpenSection) → Stands kind before after
    → ((d : ℕ) → d < length after → IsSome (behind d)) → depth < length before → IsSome (turn_by (role_of kind) node behind depth)
turn_some kind node behind depth before after s = turn_some_by (role_of kind) node behind depth before after s.depth

none_open : (sections : List OpenSection) (depth : ℕ) → fault_at_end sections ≡ None → depth < length sections → ⊥
none_open [] depth h d = omega arith
none_open (s ∷ ss) depth h d = cc

-- an open section has a next turn
next_some : (nodes : List Node) (sections : List OpenSection) (node depth : ℕ) → first_fault nodes sections ≡ None → depth < length sections
    → IsSome (next_turn (kinds_of nodes) node depth)
next_some [] sections node depth h d = absurd (none_open sections depth h d)
next_some (n ∷ ns) sections node depth h d =
    let g = goes n ns sections h in
    turn_some n.kind node (next_turn (kinds_of ns) (node + 1)) depth sections g.after g.stands
    (λ e w. next_some ns g.after (node + 1) e g.no_fault w) d

-- a node that begins a group leaves a section open
opens_some_by : (r : Role) (before after : ℕ) → MayStand r before → after ≡ depth_after r before → begins_group r ≡ true → 0 < after
opens_some_by role.Within before after m d h = absurd (cc)
opens_some_by role.Opens before after m d h = omega (arith, d)
opens_some_by role.Turns before after m d h = omega (arith, d, m)
opens_some_by role.Closes before after m d h = absurd (cc)

opens_some : (kind : NodeKind) (before after : List OpenSection) → Stands kind before after → opens_group kind ≡ true → 0 < length after
opens_some kind before after s = opens_some_by (role_of kind) (length before) (length after) s.may s.depth

-- the end of the group that the first of these nodes begins
first_some : (n : Node) (ns : List Node) (sections : List OpenSection) (node : ℕ) → first_fault (n ∷ ns) sections ≡ None → opens_group n.kind ≡ true
    → IsSome (end_behind (Some n.kind) (kinds_of ns) node)
first_some n ns sections node h o =
    let g = goes n ns sections h in
    rw o (next_some ns g.after (node + 1) 0 g.no_fault (opens_some n.kind sections g.after g.stands o))

-- the end of the group that the node at a place begins
at_some : (nodes : List Node) (sections : List OpenSection) (i node : ℕ) → first_fault nodes sections ≡ None
    → option_map (λ (n : Node). opens_group n.kind) (slice_get nodes i) ≡ Some true
    → IsSome (end_behind (slice_get (kinds_of nodes) i) (drop (suc i) (kinds_of nodes)) node)
at_some [] sections i node h o = absurd (cc)
at_some (n ∷ ns) sections zero node h o =
    let e : opens_group n.kind ≡ true = cc in
    first_some n ns sections node h e
at_some (n ∷ ns) sections (suc i) node h o =
    let g = goes n ns sections h in
    at_some ns g.after i node g.no_fault o

pub every_end : (nodes : List Node) (node : ℕ) (end : Option ℕ) → first_fault nodes [] ≡ None → 1 ≤ node → end ≡ group_end_of (kinds_of nodes) node
    → option_map (λ (n : Node). opens_group n.kind) (slice_get nodes (node - 1)) ≡ Some true → IsSome end
every_end nodes node end h low e o =
    let next : suc (node - 1) ≡ node = omega arith in
    let some = at_some nodes [] (node - 1) node h o in
    rw e (rw next at some)
