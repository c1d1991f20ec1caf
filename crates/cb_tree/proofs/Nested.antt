-- The nodes of parts and groups.
use Rattle.std.proofs.Common.{◌≡◌, ℕ, List, [], ◌∷◌, ◌++◌, map, refl, ap, ◌∙◌}
use Rattle.std.specs.List.{flat_map}
use Rattle.cb_tree.specs.declared.part.Part.{Part}
use Rattle.cb_tree.specs.declared.part.Part.TheViews.{roll-Group}
use Rattle.cb_tree.specs.declared.part.Part.TheFolds.{fold-Group, fold-roll-Group}
use Rattle.cb_tree.specs.Nesting.{Placed, GroupPlaces, part_step, group_step, section_step, places_in, places_of}
use Rattle.cb_tree.specs.inner.Frames.{inner_places}

-- the nodes of parts, list by list
pub joined_places : (ps : List Part) → flat_map (λ (l : List Placed). l) (map places_in ps) ≡ places_of ps
joined_places [] = refl
joined_places (p ∷ ps) = ap (λ x. places_in p ++ x) (joined_places ps)

pub group_is : (head : ℕ) (parts : List Part)
    → fold-Group (List Placed) GroupPlaces (List Placed) part_step group_step section_step (roll-Group (record { head = head; parts = parts }))
    ≡ record { head = head; inner = places_of parts }
group_is head parts =
    fold-roll-Group (List Placed) GroupPlaces (List Placed) part_step group_step section_step (record { head = head; parts = parts })
    ∙ ap (λ (x : List Placed). record { head = head; inner = x }) (joined_places parts)

-- one group
pub one_group : (head : ℕ) (parts : List Part)
    → inner_places (roll-Group (record { head = head; parts = parts }) ∷ []) ≡ record { head = head; inner = places_of parts } ∷ []
one_group head parts = ap (λ (x : GroupPlaces). x ∷ []) (group_is head parts)
