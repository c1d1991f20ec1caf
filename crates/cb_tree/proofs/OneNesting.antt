-- Parts are told by their nodes in order: a run over these makes the parts again.
use Rattle.std.proofs.Common.{◌≡◌, ℕ, ◌+◌, ◌<◌, List, [], ◌∷◌, ◌++◌, map, refl, ap, sym, subst, ◌∙◌, append_assoc, arith}
use Rattle.std.proofs.lemmas.List.{append-nil}
use Rattle.cb_tree.specs.declared.node.NodeKind.{NodeKind}
use Rattle.cb_tree.specs.declared.role.Role.{Role}
use Rattle.cb_tree.specs.declared.role.Role.TheVariants as role
use Rattle.cb_tree.specs.declared.part.Part.{Part}
use Rattle.cb_tree.specs.declared.part.Group.{Group}
use Rattle.cb_tree.specs.declared.part.Section.{Section}
use Rattle.cb_tree.specs.declared.part.Part.TheOpen.{Part-F, Group-F, Section-F}
use Rattle.cb_tree.specs.declared.part.Part.TheOpen as layer
use Rattle.cb_tree.specs.declared.part.Part.TheViews.{roll-Part, roll-Group, roll-Section}
use Rattle.cb_tree.specs.declared.part.Part.TheFolds.{fold-Group, fold-Section, fold-roll-Part, fold-roll-Section, ind-Part, map-Part}
use Rattle.cb_tree.specs.Groups.{kinds_of}
use Rattle.cb_tree.specs.Nodes.{Node}
use Rattle.cb_tree.specs.Nesting.{Placed, GroupPlaces, places_from, later_places, group_places, part_step, group_step, section_step, places_in, places_of}
use Rattle.cb_tree.specs.inner.Frames.{inner_places}
use Rattle.cb_tree.proofs.Nested.{group_is}

-- an open section: the parts before it, its groups that have ended, and the directive that begins the next one
record Open : Type 0 where
  pub before : List Part
  pub ended : List Group
  pub head : ℕ

-- the open sections, the innermost first, and the parts of the innermost group
record State : Type 0 where
  pub opens : List Open
  pub parts : List Part

abbrev plain : ℕ → Part
plain node = roll-Part (layer.Plain node)

abbrev group : ℕ → List Part → Group
group head parts = roll-Group (record { head = head; parts = parts })

abbrev section : List Group → ℕ → Part
section groups end = roll-Part (layer.Section (roll-Section (record { groups = groups; end = end })))

abbrev turned : ℕ → List Open → List Part → State
turned node [] parts = record { opens = []; parts = [] }
turned node (o ∷ os) parts =
    record { opens = record { before = o.before; ended = o.ended ++ group o.head parts ∷ []; head = node } ∷ os; parts = [] }

abbrev closed : ℕ → List Open → List Part → State
closed node [] parts = record { opens = []; parts = [] }
closed node (o ∷ os) parts = record { opens = os; parts = o.before ++ section (o.ended ++ group o.head parts ∷ []) node ∷ [] }

-- one more node in its role
abbrev step : Role → ℕ → State → State
step role.Within node s = record { opens = s.opens; parts = s.parts ++ plain node ∷ [] }
step role.Opens node s = record { opens = record { before = s.parts; ended = []; head = node } ∷ s.opens; parts = [] }
step role.Turns node s = turned node s.opens s.parts
step role.Closes node s = closed node s.opens s.parts

abbrev replay : List Placed → State → State
replay [] s = s
replay (p ∷ ps) s = replay ps (step p.role p.node s)

-- each is a node, counted from 1
abbrev AreNodes : List Placed → Type 0
AreNodes [] = Unit {0}
AreNodes (p ∷ ps) = (0 < p.node) × AreNodes ps

nodes_front : (ps qs : List Placed) → AreNodes (ps ++ qs) → AreNodes ps
nodes_front [] qs h = tt
nodes_front (p ∷ ps) qs h = (h.0, nodes_front ps qs h.1)

nodes_behind : (ps qs : List Placed) → AreNodes (ps ++ qs) → AreNodes qs
nodes_behind [] qs h = h
nodes_behind (p ∷ ps) qs h = nodes_behind ps qs h.1

-- the nodes of a part put it behind the parts that are there
abbrev Replays : List Placed → List Part → Type 0
Replays places more =
    AreNodes places → (opens : List Open) (parts : List Part) (rest : List Placed)
    → replay (places ++ rest) (record { opens = opens; parts = parts }) ≡ replay rest (record { opens = opens; parts = parts ++ more })

abbrev IsPart : Part → Type 0
IsPart p = Replays (places_in p) (p ∷ [])

abbrev places_of_group : Group → GroupPlaces
places_of_group = fold-Group (List Placed) GroupPlaces (List Placed) part_step group_step section_step

abbrev places_of_section : Section → List Placed
places_of_section = fold-Section (List Placed) GroupPlaces (List Placed) part_step group_step section_step

abbrev IsGroup : Group → Type 0
IsGroup g =
    (parts : List Part) × (group (places_of_group g).head parts ≡ g) × Replays (places_of_group g).inner parts

abbrev IsSection : Section → Type 0
IsSection s = Replays (places_of_section s) (roll-Part (layer.Section s) ∷ [])

-- parts, one after another
parts_replay : (es : List ((p : Part) × IsPart p)) → Replays (places_of (map (λ e. e.0) es)) (map (λ e. e.0) es)
parts_replay [] h opens parts rest =
    ap (λ (l : List Part). replay rest (record { opens = opens; parts = l })) (sym (append-nil parts))
parts_replay (e ∷ es) h opens parts rest =
    let more : List Part = map (λ e. e.0) es in
    ap (λ (l : List Placed). replay l (record { opens = opens; parts = parts })) (append_assoc (places_in e.0) (places_of more) rest)
    ∙ (
    e.1 (nodes_front (places_in e.0) (places_of more) h) opens parts (places_of more ++ rest)
    ∙ (
    parts_replay es (nodes_behind (places_in e.0) (places_of more) h) opens (parts ++ e.0 ∷ []) rest
    ∙ ap (λ (l : List Part). replay rest (record { opens = opens; parts = l })) (append_assoc parts (e.0 ∷ []) more)
    )
    )

group_replays : (head : ℕ) (es : List ((p : Part) × IsPart p)) → IsGroup (group head (map (λ e. e.0) es))
group_replays head es =
    let parts : List Part = map (λ e. e.0) es in
    let e = group_is head parts in (
      parts,
      ap (λ (g : GroupPlaces). group g.head parts) e,
      subst (λ (g : GroupPlaces). Replays g.inner parts) (sym e) (parts_replay es),
    )

-- the further groups of a section, and its end
later_replay : (es : List ((g : Group) × IsGroup g)) (end : ℕ) → AreNodes (later_places (inner_places (map (λ e. e.0) es)))
    → (before : List Part) (ended : List Group) (head : ℕ) (opens : List Open) (parts : List Part) (rest : List Placed)
    → replay (later_places (inner_places (map (λ e. e.0) es)) ++ record { role = role.Closes; node = end } ∷ rest)
    (record { opens = record { before = before; ended = ended; head = head } ∷ opens; parts = parts })
    ≡ replay rest (record { opens = opens; parts = before ++ section (ended ++ group head parts ∷ map (λ e. e.0) es) end ∷ [] })
later_replay [] end h before ended head opens parts rest = refl
later_replay (e ∷ es) end h before ended head opens parts rest =
    let more : List Group = map (λ e. e.0) es in
    let later : List Placed = later_places (inner_places more) in
    let g : GroupPlaces = places_of_group e.0 in
    let done : List Group = ended ++ group head parts ∷ [] in
    let os : List Open = record { before = before; ended = done; head = g.head } ∷ opens in
    let closes : List Placed = record { role = role.Closes; node = end } ∷ rest in
    let groups : done ++ group g.head e.1.0 ∷ more ≡ ended ++ group head parts ∷ e.0 ∷ more =
    append_assoc ended (group head parts ∷ []) (group g.head e.1.0 ∷ more) ∙ ap (λ (x : Group). ended ++ group head parts ∷ x ∷ more) e.1.1 in
    ap (λ (l : List Placed). replay l (record { opens = os; parts = [] })) (append_assoc g.inner later closes)
    ∙ (
    e.1.2 (nodes_front g.inner later h.1) os [] (later ++ closes)
    ∙ (
    later_replay es end (nodes_behind g.inner later h.1) before done g.head opens e.1.0 rest
    ∙ ap (λ (l : List Group). replay rest (record { opens = opens; parts = before ++ section l end ∷ [] })) groups
    )
    )

groups_replay : (es : List ((g : Group) × IsGroup g)) (end : ℕ)
    → Replays (group_places (inner_places (map (λ e. e.0) es)) ++ record { role = role.Closes; node = end } ∷ []) (section (map (λ e. e.0) es) end ∷ [])
groups_replay [] end h opens parts rest = absurd (omega (arith, h.0))
groups_replay (e ∷ es) end h opens parts rest =
    let more : List Group = map (λ e. e.0) es in
    let later : List Placed = later_places (inner_places more) in
    let g : GroupPlaces = places_of_group e.0 in
    let os : List Open = record { before = parts; ended = []; head = g.head } ∷ opens in
    let closes : List Placed = record { role = role.Closes; node = end } ∷ rest in
    let nodes : AreNodes (g.inner ++ later) = nodes_front (g.inner ++ later) (record { role = role.Closes; node = end } ∷ []) h.1 in
    ap (λ (l : List Placed). replay l (record { opens = os; parts = [] }))
    (append_assoc (g.inner ++ later) (record { role = role.Closes; node = end } ∷ []) rest ∙ append_assoc g.inner later closes)
    ∙ (
    e.1.2 (nodes_front g.inner later nodes) os [] (later ++ closes)
    ∙ (
    later_replay es end (nodes_behind g.inner later nodes) parts [] g.head opens e.1.0 rest
    ∙ ap (λ (x : Group). replay rest (record { opens = opens; parts = parts ++ section (x ∷ more) end ∷ [] })) e.1.1
    )
    )

section_replays : (end : ℕ) (es : List ((g : Group) × IsGroup g)) → IsSection (roll-Section (record { groups = map (λ e. e.0) es; end = end }))
section_replays end es =
    subst (λ (l : List Placed). Replays l (section (map (λ e. e.0) es) end ∷ []))
    (sym (fold-roll-Section (List Placed) GroupPlaces (List Placed) part_step group_step section_step (record { groups = map (λ e. e.0) es; end = end })))
    (groups_replay es end)

plain_replays : (node : ℕ) → IsPart (plain node)
plain_replays node =
    subst (λ (l : List Placed). Replays l (plain node ∷ []))
    (sym (fold-roll-Part (List Placed) GroupPlaces (List Placed) part_step group_step section_step (layer.Plain node)))
    (λ h opens parts rest. refl)

section_part : (s : Section) → IsSection s → IsPart (roll-Part (layer.Section s))
section_part s h =
    subst (λ (l : List Placed). Replays l (roll-Part (layer.Section s) ∷ []))
    (sym (fold-roll-Part (List Placed) GroupPlaces (List Placed) part_step group_step section_step (layer.Section s)))
    h

part_case : (m : Part-F ((p : Part) × IsPart p) ((g : Group) × IsGroup g) ((s : Section) × IsSection s) → Part-F Part Group Section)
    → ((node : ℕ) → m (layer.Plain node) ≡ layer.Plain node) → ((s : (s : Section) × IsSection s) → m (layer.Section s) ≡ layer.Section s.0)
    → (y : Part-F ((p : Part) × IsPart p) ((g : Group) × IsGroup g) ((s : Section) × IsSection s)) → IsPart (roll-Part (m y))
part_case m at_plain at_section (layer.Plain node) =
    subst (λ (x : Part-F Part Group Section). IsPart (roll-Part x)) (sym (at_plain node)) (plain_replays node)
part_case m at_plain at_section (layer.Section s) =
    subst (λ (x : Part-F Part Group Section). IsPart (roll-Part x)) (sym (at_section s)) (section_part s.0 s.1)

every_part : (p : Part) → IsPart p
every_part = ind-Part IsPart IsGroup IsSection
    (λ x y is. subst (λ (z : Part-F Part Group Section). IsPart (roll-Part z)) is (part_case (map-Part _ _ _ _ _ _ (λ e. e.0) (λ e. e.0) (λ e. e.0)) (λ node. refl) (λ s. refl) y))
    (λ x y is. subst (λ (z : Group-F Part Group Section). IsGroup (roll-Group z)) is (group_replays y.head y.parts))
    (λ x y is. subst (λ (z : Section-F Part Group Section). IsSection (roll-Section z)) is (section_replays y.end y.groups))

same_parts : (ps : List Part) → map (λ (e : (p : Part) × IsPart p). e.0) (map (λ p. (p, every_part p)) ps) ≡ ps
same_parts [] = refl
same_parts (p ∷ ps) = ap (λ (l : List Part). p ∷ l) (same_parts ps)

every_parts : (ps : List Part) → Replays (places_of ps) ps
every_parts ps = subst (λ (l : List Part). Replays (places_of l) l) (same_parts ps) (parts_replay (map (λ p. (p, every_part p)) ps))

are_nodes : (node : ℕ) (kinds : List NodeKind) → 0 < node → AreNodes (places_from node kinds)
are_nodes node [] h = tt
are_nodes node (kind ∷ kinds) h = (h, are_nodes (node + 1) kinds (omega arith))

abbrev start : State
start = record { opens = []; parts = [] }

made : (kinds : List NodeKind) (ps : List Part) → places_of ps ≡ places_from 1 kinds → replay (places_from 1 kinds) start ≡ record { opens = []; parts = ps }
made kinds ps e =
    ap (λ (l : List Placed). replay l start) (sym e ∙ sym (append-nil (places_of ps)))
    ∙ every_parts ps (subst AreNodes (sym e) (are_nodes 1 kinds (omega arith))) [] [] []

pub one_nesting : (nodes : List Node) (a b : List Part) → places_of a ≡ places_from 1 (kinds_of nodes) → places_of b ≡ places_from 1 (kinds_of nodes) → a ≡ b
one_nesting nodes a b e f =
    ap (λ (s : State). s.parts) (sym (made (kinds_of nodes) a e) ∙ made (kinds_of nodes) b f)
