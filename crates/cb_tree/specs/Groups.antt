-- Where the groups of if sections end (6.10.1).
use Rattle.std.specs.Prelude.{ℕ, ◌+◌, ◌-◌, ◌==◌, if◌then◌else◌, List, [], ◌∷◌, drop, map, Option, Some, None, slice_get}
use Rattle.cb_tree.specs.declared.node.NodeKind.{NodeKind}
use Rattle.cb_tree.specs.declared.role.Role.{Role}
use Rattle.cb_tree.specs.declared.role.Role.TheVariants as role
use Rattle.cb_tree.specs.Roles.{role_of, opens_group}
use Rattle.cb_tree.specs.Nodes.{Node}

-- the kinds of nodes (own)
abbrev pub kinds_of : List Node → List NodeKind
kinds_of nodes = map (λ n. n.kind) nodes

-- Whether a node in this role is the next #elif, #else or #endif of a section, inside which so many further sections are
-- open: then its number, else what comes behind it at the number of sections that are open there (6.10.1)
abbrev pub turn_by : Role → ℕ → (ℕ → Option ℕ) → ℕ → Option ℕ
turn_by role.Within node behind depth = behind depth
turn_by role.Opens node behind depth = behind (depth + 1)
turn_by role.Turns node behind depth = if depth == 0 then Some node else behind depth
turn_by role.Closes node behind depth = if depth == 0 then Some node else behind (depth - 1)

-- the number of the next #elif, #else or #endif of a section among nodes of these kinds, which are numbered from here on (6.10.1)
abbrev pub next_turn : List NodeKind → ℕ → ℕ → Option ℕ
next_turn [] node depth = None
next_turn (kind ∷ kinds) node depth = turn_by (role_of kind) node (next_turn kinds (node + 1)) depth

-- the number of the node that ends the group which this node begins, none where it begins none (6.10.1)
abbrev pub end_behind : Option NodeKind → List NodeKind → ℕ → Option ℕ
end_behind None behind node = None
end_behind (Some kind) behind node = if opens_group kind then next_turn behind (node + 1) 0 else None

-- the number of the #elif, #else or #endif that ends the group which a node begins; nodes are numbered from 1 (6.10.1)
abbrev pub group_end_of : List NodeKind → ℕ → Option ℕ
group_end_of kinds node = end_behind (slice_get kinds (node - 1)) (drop node kinds) node
