-- What a tree keeps.
use Rattle.std.specs.Prelude.{◌≡◌, ℕ, ◌+◌, ◌≤◌, if◌then◌else◌, List, [], ◌∷◌, length, drop, map, Option, Some, None}
use Rattle.std.specs.Option.{unwrap_or}
use Rattle.cb_tree.specs.declared.node.NodeKind.{NodeKind}
use Rattle.cb_tree.specs.declared.role.Role.{Role}
use Rattle.cb_tree.specs.declared.role.Role.TheVariants as role
use Rattle.cb_tree.specs.declared.part.Part.{Part}
use Rattle.cb_tree.specs.Nesting.{places_of, places_from}
use Rattle.cb_tree.specs.Groups.{kinds_of, next_turn}
use Rattle.cb_tree.specs.Roles.{role_of, begins_group, opens_group}
use Rattle.cb_tree.specs.Nodes.{Node, AreCounted}
use Rattle.cb_tree.specs.Sections.{first_fault}

-- the ends of the groups that nodes of these kinds begin, which are numbered from here on
abbrev pub ends_from : ℕ → List NodeKind → List (Option ℕ)
ends_from node [] = []
ends_from node (kind ∷ kinds) = (if opens_group kind then next_turn kinds (node + 1) 0 else None) ∷ ends_from (node + 1) kinds

-- an entry of the table of ends: the node that ends the group, 0 where none begins, since nodes are numbered from 1
abbrev pub entry_of : Option ℕ → ℕ
entry_of end = unwrap_or end 0

-- a tree's nodes, which have no fault, the table of the ends of the groups that they begin, and their nesting
pub record IsKept (nodes : List Node) (ends : List ℕ) (parts : List Part) : Type 0 where
  pub few : length nodes ≤ 4194304
  pub no_fault : first_fault nodes [] ≡ None
  pub counted : AreCounted nodes
  pub ends_are : ends ≡ map entry_of (ends_from 1 (kinds_of nodes))
  pub parts_are : places_of parts ≡ places_from 1 (kinds_of nodes)

-- the first of a list
abbrev pub front_of : List ℕ → Option ℕ
front_of [] = None
front_of (x ∷ xs) = Some x

-- the end of the group that a node in this role begins, where the next turns of the sections that are open behind it are these
abbrev pub end_by : Role → List ℕ → Option ℕ
end_by r turns = if begins_group r then front_of turns else None

-- the next turns of the open sections from a node in this role on
abbrev pub turns_by : Role → ℕ → List ℕ → List ℕ
turns_by role.Within node turns = turns
turns_by role.Opens node turns = drop 1 turns
turns_by role.Turns node turns = node ∷ drop 1 turns
turns_by role.Closes node turns = node ∷ turns

-- the same from a node of this kind on
abbrev pub turns_with : NodeKind → ℕ → List ℕ → List ℕ
turns_with kind = turns_by (role_of kind)
