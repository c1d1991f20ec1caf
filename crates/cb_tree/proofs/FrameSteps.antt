-- The nodes so far, with one more.
use Rattle.std.proofs.Common.{◌≡◌, ℕ, ◌≤◌, List, [], ◌∷◌, ◌++◌, length, take, drop, refl, ap, sym, subst, ◌∙◌, append_assoc, length-append, arith}
use Rattle.std.specs.Prelude.{reverse}
use Rattle.std.proofs.lemmas.Grind.{flat_map-append}
use Rattle.std.proofs.lemmas.List.{append-nil, map-append, take_all, drop_all, length-take-le, take-append-le, drop-append-le}
use Rattle.cb_tree.specs.declared.role.Role.TheVariants as role
use Rattle.cb_tree.specs.declared.part.Part.{Part}
use Rattle.cb_tree.specs.declared.part.Part.TheFolds.{fold-Group}
use Rattle.cb_tree.specs.declared.part.Group.{Group}
use Rattle.cb_tree.specs.declared.nesting.Frame.{Frame}
use Rattle.cb_tree.specs.Nesting.{Placed, GroupPlaces, part_step, group_step, section_step, places_in, later_places, group_places, places_of}
use Rattle.cb_tree.specs.inner.Frames.{inner_places, section_places}
use Rattle.cb_tree.specs.inner.Frames.{turned_places, group_ended, stacked_places, AreWithin, Puts}
use Rattle.cb_tree.proofs.Stack.{last_first}

later-push : (gs : List GroupPlaces) (head : ℕ) (inner : List Placed)
    → later_places (gs ++ record { head = head; inner = inner } ∷ []) ≡ later_places gs ++ record { role = role.Turns; node = head } ∷ inner
later-push [] head inner = ap (λ (l : List Placed). record { role = role.Turns; node = head } ∷ l) (append-nil inner)
later-push (g ∷ gs) head inner =
    ap (λ (l : List Placed). record { role = role.Turns; node = g.head } ∷ (g.inner ++ l)) (later-push gs head inner)
    ∙ ap (λ (l : List Placed). record { role = role.Turns; node = g.head } ∷ l) (sym (append_assoc g.inner (later_places gs) (record { role = role.Turns; node = head } ∷ inner)))

-- the group that a directive began, with what it holds
groups-push : (gs : List GroupPlaces) (head : ℕ) (inner : List Placed)
    → group_places (gs ++ record { head = head; inner = inner } ∷ []) ≡ turned_places gs head ++ inner
groups-push [] head inner = ap (λ (l : List Placed). record { role = role.Opens; node = head } ∷ l) (append-nil inner)
groups-push (g ∷ gs) head inner =
    ap (λ (l : List Placed). record { role = role.Opens; node = g.head } ∷ (g.inner ++ l)) (later-push gs head inner)
    ∙ simp append_assoc

turned-push : (gs : List GroupPlaces) (head : ℕ) (inner : List Placed) (node : ℕ)
    → turned_places (gs ++ record { head = head; inner = inner } ∷ []) node ≡ (turned_places gs head ++ inner) ++ record { role = role.Turns; node = node } ∷ []
turned-push [] head inner node = ap (λ (l : List Placed). l ++ record { role = role.Turns; node = node } ∷ []) (groups-push [] head inner)
turned-push (g ∷ gs) head inner node = ap (λ (l : List Placed). l ++ record { role = role.Turns; node = node } ∷ []) (groups-push (g ∷ gs) head inner)

-- parts are read one after another
parts-more : (parts more : List Part) → places_of (parts ++ more) ≡ places_of parts ++ places_of more
parts-more parts more = flat_map-append places_in parts more

groups-more : (groups more : List Group) → inner_places (groups ++ more) ≡ inner_places groups ++ inner_places more
groups-more groups more = map-append (fold-Group (List Placed) GroupPlaces (List Placed) part_step group_step section_step) groups more

-- what is cut off the stack of parts lies there no more
rest-take : (n : ℕ) (parts : List Part) → n ≤ length parts → take n (take n parts) ≡ take n parts
rest-take n parts h = take_all n (take n parts) (omega (arith, length-take-le n parts h))

rest-drop : (n : ℕ) (parts : List Part) → n ≤ length parts → drop n (take n parts) ≡ []
rest-drop n parts h = drop_all n (take n parts) (omega (arith, length-take-le n parts h))

-- higher stacks
within-more : (fs : List Frame) (p q g h : ℕ) → AreWithin fs p g → p ≤ q → g ≤ h → AreWithin fs q h
within-more [] p q g h w a b = tt
within-more (f ∷ fs) p q g h w a b = ((omega (arith, w.0.0, a), omega (arith, w.0.1, b)), w.1)

-- the innermost section first
pub framed : (frames init : List Frame) (f : Frame) → frames ≡ init ++ f ∷ [] → reverse frames ≡ f ∷ reverse init
framed frames init f h = ap reverse h ∙ last_first init f

pub innermost : (frames init : List Frame) (f : Frame) (p g : ℕ) → frames ≡ init ++ f ∷ [] → AreWithin (reverse frames) p g → AreWithin (f ∷ reverse init) p g
innermost frames init f p g h w = subst (λ (l : List Frame). AreWithin l p g) (framed frames init f h) w

-- more parts lie on the stack
stacked-more : (fs : List Frame) (parts more : List Part) (groups : List Group) (g : ℕ) → AreWithin fs (length parts) g
    → stacked_places fs (parts ++ more) groups ≡ stacked_places fs parts groups ++ places_of more
stacked-more [] parts more groups g w = parts-more parts more
stacked-more (f ∷ fs) parts more groups g w =
    rw (take-append-le f.parts parts more w.0.0, drop-append-le f.parts parts more w.0.0, parts-more (drop f.parts parts) more) (simp append_assoc)

pub stayed : (fs : List Frame) (parts new : List Part) (groups : List Group) (places : List Placed)
    → AreWithin fs (length parts) (length groups) → Puts places_of parts places new
    → stacked_places fs new groups ≡ stacked_places fs parts groups ++ places
stayed fs parts new groups places w p =
    ap (λ (l : List Part). stacked_places fs l groups) p.pushed
    ∙ (stacked-more fs parts p.more groups (length groups) w ∙ ap (λ (l : List Placed). stacked_places fs parts groups ++ l) p.reads)

pub stayed-within : (fs : List Frame) (parts new : List Part) (g : ℕ) (places : List Placed)
    → AreWithin fs (length parts) g → Puts places_of parts places new → AreWithin fs (length new) g
stayed-within fs parts new g places w p =
    within-more fs (length parts) (length new) g g w (omega (arith, ap length p.pushed, length-append parts p.more)) (omega arith)

-- the innermost section turns to a further group
pub turned : (f : Frame) (fs : List Frame) (parts : List Part) (groups new : List Group) (node : ℕ)
    → AreWithin (f ∷ fs) (length parts) (length groups) → Puts inner_places groups (group_ended f parts ∷ []) new
    → stacked_places (record { parts = f.parts; groups = f.groups; head = node } ∷ fs) (take f.parts parts) new
    ≡ stacked_places (f ∷ fs) parts groups ++ record { role = role.Turns; node = node } ∷ []
turned f fs parts groups new node w p =
    rw (
      p.pushed,
      rest-take f.parts parts w.0.0,
      rest-drop f.parts parts w.0.0,
      take-append-le f.groups groups p.more w.0.1,
      drop-append-le f.groups groups p.more w.0.1,
      groups-more (drop f.groups groups) p.more,
      p.reads,
      turned-push (inner_places (drop f.groups groups)) f.head (places_of (drop f.parts parts)) node,
    )
    (simp (append-nil, append_assoc))

pub turned-within : (f : Frame) (fs : List Frame) (parts : List Part) (groups new : List Group) (node : ℕ)
    → AreWithin (f ∷ fs) (length parts) (length groups) → Puts inner_places groups (group_ended f parts ∷ []) new
    → AreWithin (record { parts = f.parts; groups = f.groups; head = node } ∷ fs) (length (take f.parts parts)) (length new)
turned-within f fs parts groups new node w p =
    ((omega (arith, length-take-le f.parts parts w.0.0), omega (arith, w.0.1, ap length p.pushed, length-append groups p.more)), w.1)

-- the innermost section closes
outer : (f : Frame) (fs : List Frame) (parts : List Part) (groups : List Group) → AreWithin (f ∷ fs) (length parts) (length groups)
    → AreWithin fs (length (take f.parts parts)) (length (take f.groups groups))
outer f fs parts groups w = rw (length-take-le f.parts parts w.0.0, length-take-le f.groups groups w.0.1) w.1

pub closed : (f : Frame) (fs : List Frame) (parts rest : List Part) (groups new : List Group) (node : ℕ)
    → AreWithin (f ∷ fs) (length parts) (length groups) → Puts inner_places groups (group_ended f parts ∷ []) new
    → Puts places_of (take f.parts parts) (section_places (drop f.groups new) node) rest
    → stacked_places fs rest (take f.groups new) ≡ stacked_places (f ∷ fs) parts groups ++ record { role = role.Closes; node = node } ∷ []
closed f fs parts rest groups new node w p r =
    let kept : take f.groups new ≡ take f.groups groups =
    ap (take f.groups) p.pushed ∙ take-append-le f.groups groups p.more w.0.1 in
    let ended : inner_places (drop f.groups new) ≡ inner_places (drop f.groups groups) ++ group_ended f parts ∷ [] =
    rw (p.pushed, drop-append-le f.groups groups p.more w.0.1, groups-more (drop f.groups groups) p.more, p.reads) refl in
    rw (kept, stayed fs (take f.parts parts) rest (take f.groups groups) (section_places (drop f.groups new) node) (outer f fs parts groups w) r, ended)
    (rw (groups-push (inner_places (drop f.groups groups)) f.head (places_of (drop f.parts parts))) (simp append_assoc))

pub closed-within : (f : Frame) (fs : List Frame) (parts rest : List Part) (groups new : List Group) (places : List Placed)
    → AreWithin (f ∷ fs) (length parts) (length groups) → Puts inner_places groups (group_ended f parts ∷ []) new
    → Puts places_of (take f.parts parts) places rest → AreWithin fs (length rest) (length (take f.groups new))
closed-within f fs parts rest groups new places w p r =
    let kept : take f.groups new ≡ take f.groups groups =
    ap (take f.groups) p.pushed ∙ take-append-le f.groups groups p.more w.0.1 in
    rw kept (stayed-within fs (take f.parts parts) rest (length (take f.groups groups)) places (outer f fs parts groups w) r)
