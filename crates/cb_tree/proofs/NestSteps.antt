-- The nodes of a sound source, placed one after another.
use Rattle.std.proofs.Common.{◌≡◌, ℕ, ◌+◌, ◌<◌, ◌≤◌, ◌==◌, Bool, true, false, if◌then◌else◌, List, [], ◌∷◌, ◌++◌, length, take, drop, get_or, None, Some, Result, Ok, Err, refl, ap, sym, subst, ◌∙◌, add-one, drop-cons, arith}
use Prim.Native.Nat.{zero, suc}
use Rattle.std.specs.Prelude.{slice_get, reverse}
use Rattle.std.specs.Option.{option_map}
use Rattle.std.proofs.lemmas.List.{take_more, take_all, drop_all, map-append, length-map, length-take-le}
use Rattle.cb_tree.specs.declared.fault.BadSource.{BadSource}
use Rattle.cb_tree.specs.declared.node.NodeKind.{NodeKind}
use Rattle.cb_tree.specs.declared.role.Role.{Role}
use Rattle.cb_tree.specs.declared.role.Role.TheVariants as role
use Rattle.cb_tree.specs.declared.sections.OpenSection.{OpenSection}
use Rattle.cb_tree.specs.declared.part.Part.{Part}
use Rattle.cb_tree.specs.declared.part.Group.{Group}
use Rattle.cb_tree.specs.declared.nesting.Frame.{Frame}
use Rattle.cb_tree.specs.declared.nesting.Nesting.{Nesting}
use Rattle.cb_tree.specs.Nodes.{Node, node_line}
use Rattle.cb_tree.specs.Sections.{sections_by, sections_after, fault_at_end, fault_or, first_fault}
use Rattle.cb_tree.specs.Groups.{kinds_of}
use Rattle.cb_tree.specs.Nesting.{Placed, places_from, places_of}
use Rattle.cb_tree.specs.Roles.{role_of, is_last}
use Rattle.cb_tree.specs.inner.Frames.{MayStand, depth_after, IsPlaced, nested_places, stacked_places, AreStacked}

-- what a step over sections says of their number
pub record Stands (kind : NodeKind) (before after : List OpenSection) : Type 0 where
  pub may : MayStand (role_of kind) (length before)
  pub depth : length after ≡ depth_after (role_of kind) (length before)

opens : (b : Bool) (fault : BadSource) (s : OpenSection) (ss after : List OpenSection)
    → (if b then Err fault else Ok (s ∷ ss)) ≡ Ok after → length after ≡ length ss + 1
opens true fault s ss after h = absurd (cc)
opens false fault s ss after h =
    let e : s ∷ ss ≡ after = cc in
    omega (arith, ap length e)

keeps : (b : Bool) (fault : BadSource) (s t : OpenSection) (ss after : List OpenSection)
    → (if b then Err fault else Ok (t ∷ ss)) ≡ Ok after → length after ≡ length (s ∷ ss)
keeps true fault s t ss after h = absurd (cc)
keeps false fault s t ss after h =
    let e : t ∷ ss ≡ after = cc in
    omega (arith, ap length e)

same : (before after : List OpenSection) → ◌≡◌ {A = Result (List OpenSection) BadSource} (Ok before) (Ok after) → length after ≡ length before
same before after h =
    let e : before ≡ after = cc in
    ap length (sym e)

stands_by : (r : Role) (last : Bool) (line : ℕ) (before after : List OpenSection) → sections_by r last line before ≡ Ok after
    → MayStand r (length before) × (length after ≡ depth_after r (length before))
stands_by role.Within last line before after h = (tt, same before after h)
stands_by role.Opens last line before after h = (tt, opens (length before == 256) _ _ before after h)
stands_by role.Turns false line [] after h = absurd (cc)
stands_by role.Turns false line (s ∷ ss) after h = (omega arith, keeps s.has_else _ s _ ss after h)
stands_by role.Turns true line [] after h = absurd (cc)
stands_by role.Turns true line (s ∷ ss) after h = (omega arith, keeps s.has_else _ s _ ss after h)
stands_by role.Closes last line [] after h = absurd (cc)
stands_by role.Closes last line (s ∷ ss) after h = (omega arith, omega (arith, same ss after h))

stands : (kind : NodeKind) (line : ℕ) (before after : List OpenSection) → sections_after kind line before ≡ Ok after → Stands kind before after
stands kind line before after h =
    let s = stands_by (role_of kind) (is_last kind) line before after h in
    record { may = s.0; depth = s.1 }

-- a step of a list without a fault
pub record Goes (kind : NodeKind) (nodes : List Node) (before : List OpenSection) : Type 0 where
  pub after : List OpenSection
  pub stands : Stands kind before after
  pub no_fault : first_fault nodes after ≡ None

goes_by : (r : Result (List OpenSection) BadSource) (kind : NodeKind) (line : ℕ) (nodes : List Node) (before : List OpenSection)
    → sections_after kind line before ≡ r → fault_or r (first_fault nodes) ≡ None → Goes kind nodes before
goes_by (Err fault) kind line nodes before e h = absurd (cc)
goes_by (Ok after) kind line nodes before e h = record { after = after; stands = stands kind line before after e; no_fault = h }

pub goes : (n : Node) (nodes : List Node) (before : List OpenSection) → first_fault (n ∷ nodes) before ≡ None → Goes n.kind nodes before
goes n nodes before h = goes_by (sections_after n.kind (node_line n) before) n.kind (node_line n) nodes before refl h

-- one more place
places-push : (node : ℕ) (kinds : List NodeKind) (kind : NodeKind)
    → places_from node (kinds ++ kind ∷ []) ≡ places_from node kinds ++ record { role = role_of kind; node = node + length kinds } ∷ []
places-push node [] kind =
    let e : node ≡ node + 0 = omega arith in
    ap (λ n. record { role = role_of kind; node = n } ∷ []) e
places-push node (k ∷ ks) kind =
    let e : (node + 1) + length ks ≡ node + length (k ∷ ks) = omega arith in
    ap (λ (l : List Placed). record { role = role_of k; node = node } ∷ l)
    (places-push (node + 1) ks kind ∙ ap (λ n. places_from (node + 1) ks ++ record { role = role_of kind; node = n } ∷ []) e)

-- the node of this kind at a place
record NodeAt (nodes : List Node) (i : ℕ) (kind : NodeKind) : Type 0 where
  node : Node
  within : i < length nodes
  is : node ≡ get_or nodes i node
  kind_is : node.kind ≡ kind

node_at : (nodes : List Node) (i : ℕ) (kind : NodeKind) → option_map (λ (n : Node). n.kind) (slice_get nodes i) ≡ Some kind → NodeAt nodes i kind
node_at [] i kind e = absurd (cc)
node_at (n ∷ ns) zero kind e = record { node = n; within = omega arith; is = refl; kind_is = cc }
node_at (n ∷ ns) (suc i) kind e =
    let w = node_at ns i kind e in
    record { node = w.node; within = omega (arith, w.within); is = w.is; kind_is = w.kind_is }

-- the first nodes are placed, and the rest have no fault
pub record Nested (nodes : List Node) (i : ℕ) (nesting : Nesting) : Type 0 where
  pub sections : List OpenSection
  pub depth : length sections ≡ length nesting.frames.items
  pub places : nested_places nesting ≡ places_from 1 (kinds_of (take i nodes))
  pub stacked : AreStacked nesting
  pub no_fault : first_fault (drop i nodes) sections ≡ None

pub nested_none : (nodes : List Node) (nesting : Nesting) → nesting.frames.items ≡ [] → nesting.parts.items ≡ [] → first_fault nodes [] ≡ None → Nested nodes 0 nesting
nested_none nodes nesting e f h = record {
  sections = [];
  depth = rw e refl;
  places = rw (e, f) refl;
  stacked = rw e tt;
  no_fault = h;
}

split : (nodes : List Node) (i : ℕ) (n : Node) → i < length nodes → n ≡ get_or nodes i n → drop i nodes ≡ n ∷ drop (i + 1) nodes
split nodes i n h e = rw (add-one i) (drop-cons nodes i n h ∙ ap (λ x. x ∷ drop (suc i) nodes) (sym e))

step : (nodes : List Node) (i : ℕ) (n : Node) (nesting : Nesting) → i < length nodes → n ≡ get_or nodes i n → (a : Nested nodes i nesting)
    → Goes n.kind (drop (i + 1) nodes) a.sections
step nodes i n nesting h e a =
    goes n (drop (i + 1) nodes) a.sections
    (ap (λ (l : List Node). first_fault l a.sections) (sym (split nodes i n h e)) ∙ a.no_fault)

pub may_stand : (nodes : List Node) (i : ℕ) (kind : NodeKind) (nesting : Nesting) → option_map (λ (n : Node). n.kind) (slice_get nodes i) ≡ Some kind
    → Nested nodes i nesting → MayStand (role_of kind) (length nesting.frames.items)
may_stand nodes i kind nesting e a =
    let w = node_at nodes i kind e in
    subst (λ (k : NodeKind). MayStand (role_of k) (length nesting.frames.items)) w.kind_is
    (subst (MayStand (role_of w.node.kind)) a.depth (step nodes i w.node nesting w.within w.is a).stands.may)

node_placed : (nodes : List Node) (i : ℕ) (n : Node) (nesting new : Nesting) → i < length nodes → n ≡ get_or nodes i n → Nested nodes i nesting
    → IsPlaced nesting (role_of n.kind) (i + 1) new → Nested nodes (i + 1) new
node_placed nodes i n nesting new h e a p =
    let g = step nodes i n nesting h e a in
    let len : length (kinds_of (take i nodes)) ≡ i =
    length-map (take i nodes) (λ m. m.kind) ∙ length-take-le i nodes (omega arith) in
    let number : 1 + length (kinds_of (take i nodes)) ≡ i + 1 = omega (arith, len) in
    let more : take (i + 1) nodes ≡ take i nodes ++ n ∷ [] = take_more nodes i n h ∙ ap (λ x. take i nodes ++ x ∷ []) (sym e) in
    let kinds : kinds_of (take (i + 1) nodes) ≡ kinds_of (take i nodes) ++ n.kind ∷ [] =
    ap kinds_of more ∙ map-append (λ m. m.kind) (take i nodes) (n ∷ []) in
    record {
      sections = g.after;
      depth = g.stands.depth ∙ (ap (depth_after (role_of n.kind)) a.depth ∙ sym p.depth);
      places =
          p.places
          ∙ (ap (λ (l : List Placed). l ++ record { role = role_of n.kind; node = i + 1 } ∷ []) a.places
          ∙ (ap (λ x. places_from 1 (kinds_of (take i nodes)) ++ record { role = role_of n.kind; node = x } ∷ []) (sym number)
          ∙ (sym (places-push 1 (kinds_of (take i nodes)) n.kind) ∙ ap (places_from 1) (sym kinds))));
      stacked = p.stacked;
      no_fault = g.no_fault;
    }

pub nested_more : (nodes : List Node) (i : ℕ) (kind : NodeKind) (nesting new : Nesting) → option_map (λ (n : Node). n.kind) (slice_get nodes i) ≡ Some kind
    → Nested nodes i nesting → IsPlaced nesting (role_of kind) (i + 1) new → Nested nodes (i + 1) new
nested_more nodes i kind nesting new e a p =
    let w = node_at nodes i kind e in
    node_placed nodes i w.node nesting new w.within w.is a (subst (λ (k : NodeKind). IsPlaced nesting (role_of k) (i + 1) new) (sym w.kind_is) p)

none_open : (sections : List OpenSection) → fault_at_end sections ≡ None → length sections ≡ 0
none_open [] h = refl
none_open (s ∷ ss) h = absurd (cc)

none_placed : (frames : List Frame) (parts : List Part) (groups : List Group) → length frames ≡ 0 → stacked_places (reverse frames) parts groups ≡ places_of parts
none_placed [] parts groups h = refl
none_placed (f ∷ fs) parts groups h = absurd (omega arith)

pub nested_all : (nodes : List Node) (i : ℕ) (nesting : Nesting) → length nodes ≤ i → Nested nodes i nesting
    → places_of nesting.parts.items ≡ places_from 1 (kinds_of nodes)
nested_all nodes i nesting h a =
    let e : fault_at_end a.sections ≡ None = ap (λ (l : List Node). first_fault l a.sections) (sym (drop_all i nodes h)) ∙ a.no_fault in
    sym (none_placed nesting.frames.items nesting.parts.items nesting.groups.items (sym a.depth ∙ none_open a.sections e))
    ∙ (a.places ∙ ap (λ (l : List Node). places_from 1 (kinds_of l)) (take_all i nodes h))
