-- The nodes of a source up to a place.
use Rattle.std.specs.Prelude.{◌≡◌, ℕ, ◌+◌, ◌-◌, ◌<◌, ◌≤◌, List, [], ◌∷◌, ◌++◌, length, take, drop, map, reverse}
use Rattle.cb_tree.specs.declared.role.Role.{Role}
use Rattle.cb_tree.specs.declared.role.Role.TheVariants as role
use Rattle.cb_tree.specs.declared.part.Part.{Part}
use Rattle.cb_tree.specs.declared.part.Group.{Group}
use Rattle.cb_tree.specs.declared.nesting.Frame.{Frame}
use Rattle.cb_tree.specs.declared.nesting.Nesting.{Nesting}
use Rattle.cb_tree.specs.declared.part.Part.TheFolds.{fold-Group}
use Rattle.cb_tree.specs.Nesting.{Placed, GroupPlaces, group_places, places_of, part_step, group_step, section_step}

-- the nodes of groups
abbrev pub inner_places : List Group → List GroupPlaces
inner_places groups = map (fold-Group (List Placed) GroupPlaces (List Placed) part_step group_step section_step) groups

-- the nodes of a section
abbrev pub section_places : List Group → ℕ → List Placed
section_places groups end = group_places (inner_places groups) ++ record { role = role.Closes; node = end } ∷ []

-- the nodes of a section's groups that have ended, and then the directive that begins the next
abbrev pub turned_places : List GroupPlaces → ℕ → List Placed
turned_places [] head = record { role = role.Opens; node = head } ∷ []
turned_places (g ∷ gs) head = group_places (g ∷ gs) ++ record { role = role.Turns; node = head } ∷ []

-- the group of an open section that ends where these parts lie on the stack
abbrev pub group_ended : Frame → List Part → GroupPlaces
group_ended f parts = record { head = f.head; inner = places_of (drop f.parts parts) }

-- the nodes so far, where these sections are open, the innermost first, and these parts and groups lie on the stacks
abbrev pub stacked_places : List Frame → List Part → List Group → List Placed
stacked_places [] parts groups = places_of parts
stacked_places (f ∷ fs) parts groups =
    stacked_places fs (take f.parts parts) (take f.groups groups) ++ (turned_places (inner_places (drop f.groups groups)) f.head ++ places_of (drop f.parts parts))

-- an open section, the innermost first, counts no more on the stacks than the one within it, and the innermost no more than so many parts and groups
abbrev pub AreWithin : List Frame → ℕ → ℕ → Type 0
AreWithin [] parts groups = Unit {0}
AreWithin (f ∷ fs) parts groups = ((f.parts ≤ parts) × (f.groups ≤ groups)) × AreWithin fs f.parts f.groups

-- all nodes so far
abbrev pub nested_places : Nesting → List Placed
nested_places n = stacked_places (reverse n.frames.items) n.parts.items n.groups.items

-- what the open sections count lies on the stacks
abbrev pub AreStacked : Nesting → Type 0
AreStacked n = AreWithin (reverse n.frames.items) (length n.parts.items) (length n.groups.items)

-- more is put on a stack, which is read as these
pub record Puts {X Y : Type 0} (read : List X → List Y) (old : List X) (values : List Y) (new : List X) : Type 0 where
  pub more : List X
  pub reads : read more ≡ values
  pub pushed : new ≡ old ++ more

-- a node of the role may stand where so many sections are open
abbrev pub MayStand : Role → ℕ → Type 0
MayStand role.Within depth = Unit {0}
MayStand role.Opens depth = Unit {0}
MayStand role.Turns depth = 0 < depth
MayStand role.Closes depth = 0 < depth

-- how many sections are open behind it
abbrev pub depth_after : Role → ℕ → ℕ
depth_after role.Within depth = depth
depth_after role.Opens depth = depth + 1
depth_after role.Turns depth = depth
depth_after role.Closes depth = depth - 1

-- a node is placed
pub record IsPlaced (old : Nesting) (role : Role) (node : ℕ) (new : Nesting) : Type 0 where
  pub places : nested_places new ≡ nested_places old ++ record { role = role; node = node } ∷ []
  pub depth : length new.frames.items ≡ depth_after role (length old.frames.items)
  pub stacked : AreStacked new
