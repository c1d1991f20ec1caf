-- How the nodes of a source nest in its if sections (6.10.1).
use Rattle.std.specs.Prelude.{ℕ, ◌+◌, List, [], ◌∷◌, ◌++◌}
use Rattle.std.specs.List.{flat_map}
use Rattle.cb_tree.specs.declared.node.NodeKind.{NodeKind}
use Rattle.cb_tree.specs.declared.role.Role.{Role}
use Rattle.cb_tree.specs.declared.role.Role.TheVariants as role
use Rattle.cb_tree.specs.Roles.{role_of}
use Rattle.cb_tree.specs.declared.part.Part.{Part}
use Rattle.cb_tree.specs.declared.part.Part.TheOpen.{Part-F, Group-F, Section-F}
use Rattle.cb_tree.specs.declared.part.Part.TheOpen as layer
use Rattle.cb_tree.specs.declared.part.Part.TheFolds.{fold-Part}

-- a node in its role (own)
pub record Placed : Type 0 where
  pub role : Role
  pub node : ℕ

-- the nodes of these kinds in order, numbered from here on (own)
abbrev pub places_from : ℕ → List NodeKind → List Placed
places_from node [] = []
places_from node (kind ∷ kinds) = record { role = role_of kind; node = node } ∷ places_from (node + 1) kinds

-- a group: the directive that begins it, and the nodes between that and the next directive of the section (6.10.1)
pub record GroupPlaces : Type 0 where
  pub head : ℕ
  pub inner : List Placed

-- the nodes of the groups behind a section's first (own)
abbrev pub later_places : List GroupPlaces → List Placed
later_places [] = []
later_places (g ∷ gs) = record { role = role.Turns; node = g.head } ∷ (g.inner ++ later_places gs)

-- the nodes of a section's groups; one without a group would open at node 0, which is none (own)
abbrev pub group_places : List GroupPlaces → List Placed
group_places [] = record { role = role.Opens; node = 0 } ∷ []
group_places (g ∷ gs) = record { role = role.Opens; node = g.head } ∷ (g.inner ++ later_places gs)

-- one part, with the nodes of what it holds in their places (own)
abbrev pub part_step : Part-F (List Placed) GroupPlaces (List Placed) → List Placed
part_step (layer.Plain node) = record { role = role.Within; node = node } ∷ []
part_step (layer.Section places) = places

-- one group (own)
abbrev pub group_step : Group-F (List Placed) GroupPlaces (List Placed) → GroupPlaces
group_step g = record { head = g.head; inner = flat_map (λ places. places) g.parts }

-- one section (own)
abbrev pub section_step : Section-F (List Placed) GroupPlaces (List Placed) → List Placed
section_step s = group_places s.groups ++ record { role = role.Closes; node = s.end } ∷ []

-- the nodes of a part, from front to back, each in the role that it has there (own)
abbrev pub places_in : Part → List Placed
places_in = fold-Part (List Placed) GroupPlaces (List Placed) part_step group_step section_step

-- the nodes of parts, from front to back, each in the role that it has there (own)
abbrev pub places_of : List Part → List Placed
places_of parts = flat_map places_in parts
