-- The probes of a pass only grow.
use Rattle.std.proofs.Common.{◌≡◌, ℕ, Bool, true, false, List, [], ◌∷◌, ◌++◌, refl, sym, ap, ◌∙◌, append_assoc, if◌then◌else◌}
use Rattle.std.specs.Prelude.{Option, Some, None, slice_get}
use Rattle.std.proofs.lemmas.List.{append-nil}
use Rattle.std.specs.List.{find}
use Rattle.cb_tokens.specs.declared.token.Token.{Token}
use Rattle.cb_tree.specs.declared.node.NodeKind.{NodeKind}
use Rattle.cb_tree.specs.declared.node.NodeKind.TheVariants.{Text, If, Ifdef, Ifndef, Elif, Else, Endif, Define, Undef, Include, Once, Error, Other}
use Rattle.cb_tree.specs.Skeleton.{Bone}
use Rattle.cb_tree.specs.Kinds.{rest_of}
use Rattle.cb_include.specs.declared.command.Command.{Command}
use Rattle.cb_include.specs.declared.header.Header.{Header}
use Rattle.cb_pass.specs.Notes.{Place}
use Rattle.cb_pass.specs.Answers.{Answer, Silent, Defines, Undefines, Wordless, Holds, Faulty, Names, Nameless, Long}
use Rattle.cb_pass.specs.States.{Frame, Waiting, Given, Forced, Main, State, Outcome}
use Rattle.cb_pass.specs.Steps.{first_name, answered, name_noted, effect, counted, behind, turned_frame, word_of, turned_waiting, turned_in, is_active, is_reached, is_spent, place_in, moved, ended}
use Rattle.cb_include.specs.Candidates.{candidates}
use Rattle.cb_include.specs.Seen.{has_path, with_path, with_paths, up_to}
use Rattle.cb_pass.specs.Files.{Files, Request, Stays, Begins, Searches, request, start_of, entering, is_present, found_path, met, stepped}
use Rattle.cb_pass.specs.Passes.{Leads, over, goes, start, start_with, IsPass}

-- a list goes on
abbrev pub Grows : List (List ℕ) → List (List ℕ) → Type 0
Grows old new = (more : List (List ℕ)) × (new ≡ old ++ more)

pub grows_itself : (paths : List (List ℕ)) → Grows paths paths
grows_itself paths = ([], sym (append-nil paths))

pub grows_on : (a b c : List (List ℕ)) → Grows a b → Grows b c → Grows a c
grows_on a b c p q = (p.0 ++ q.0, q.1 ∙ (ap (λ x. x ++ q.0) p.1 ∙ append_assoc a p.0 q.0))

pub same_grows : (a b : List (List ℕ)) → a ≡ b → Grows a b
same_grows a b e = ([], sym e ∙ sym (append-nil a))

either_grows : (test : Bool) (path : List ℕ) (paths : List (List ℕ)) → Grows paths (if test then paths else paths ++ path ∷ [])
either_grows true path paths = grows_itself paths
either_grows false path paths = (path ∷ [], refl)

pub with_path_grows : (path : List ℕ) (paths : List (List ℕ)) → Grows paths (with_path paths path)
with_path_grows path paths = either_grows (has_path paths path) path paths

pub with_paths_grows : (more paths : List (List ℕ)) → Grows paths (with_paths paths more)
with_paths_grows [] paths = grows_itself paths
with_paths_grows (path ∷ more) paths =
    grows_on paths (with_path paths path) (with_paths (with_path paths path) more) (with_path_grows path paths)
    (with_paths_grows more (with_path paths path))

-- whichever of two states it is, it has these probes
either_probes : (test : Bool) (s t : State) (paths : List (List ℕ)) → s.probes ≡ paths → t.probes ≡ paths → (if test then s else t).probes ≡ paths
either_probes true s t paths p q = p
either_probes false s t paths p q = q

answered_probes : (place : Place) (word : List ℕ) (answer : Answer) (s : State) → (answered place word answer s).probes ≡ s.probes
answered_probes place word Silent s = refl
answered_probes place word (Defines name d different) s = refl
answered_probes place word (Undefines name) s = refl
answered_probes place word Wordless s = refl
answered_probes place word (Holds holds) s = refl
answered_probes place word (Faulty bad) s = refl
answered_probes place word (Names h) s = refl
answered_probes place word Nameless s = refl
answered_probes place word Long s = refl

name_noted_probes : (place : Place) (name : Option (List ℕ)) (s : State) → (name_noted place name s).probes ≡ s.probes
name_noted_probes place None s = refl
name_noted_probes place (Some name) s = refl

effect_probes : (kind : NodeKind) (place : Place) (rest : List Token) (answer : Answer) (s : State) → (effect kind place rest answer s).probes ≡ s.probes
effect_probes Text place rest answer s = refl
effect_probes If place rest answer s = answered_probes place [] answer s
effect_probes Ifdef place rest answer s = name_noted_probes place (first_name rest) s
effect_probes Ifndef place rest answer s = name_noted_probes place (first_name rest) s
effect_probes Elif place rest answer s = answered_probes place [] answer s
effect_probes Else place rest answer s = refl
effect_probes Endif place rest answer s = refl
effect_probes Define place rest answer s = answered_probes place [] answer s
effect_probes Undef place rest answer s = answered_probes place [] answer s
effect_probes Include place rest answer s = answered_probes place [] answer s
effect_probes Once place rest answer s = refl
effect_probes Error place rest answer s = refl
effect_probes Other place rest answer s = refl

counted_probes : (reached : Bool) (place : Place) (s : State) → (counted reached place s).probes ≡ s.probes
counted_probes true place s = refl
counted_probes false place s = refl

behind_probes : (answer : Answer) (f : Frame) (b : Bone) (bs : List Bone) (fs : List Frame) (s : State) → (behind answer f b bs fs s).probes ≡ s.probes
behind_probes answer f b bs fs s =
    let t : State = record s { frames = moved answer f b bs s.macros ∷ fs } in
    let u : State = counted (is_reached b.kind f.sections) (place_in f) t in
    let e : u.probes ≡ s.probes = counted_probes (is_reached b.kind f.sections) (place_in f) t in
    either_probes (is_active b.kind f.sections) (effect b.kind (place_in f) (rest_of b.tokens) answer u) u s.probes
    (effect_probes b.kind (place_in f) (rest_of b.tokens) answer u ∙ e) e

turned_frame_probes : (answer : Answer) (f : Frame) (bones : List Bone) (fs : List Frame) (s : State) → (turned_frame answer f bones fs s).probes ≡ s.probes
turned_frame_probes answer f [] fs s = refl
turned_frame_probes answer f (b ∷ bs) fs s =
    either_probes (is_spent b.kind f.sections s.count) (ended (place_in f) s) (behind answer f b bs fs s) s.probes refl
    (behind_probes answer f b bs fs s)

turned_waiting_probes : (place : Place) (answer : Answer) (waiting : List Waiting) (s : State) → (turned_waiting place answer waiting s).probes ≡ s.probes
turned_waiting_probes place answer [] s = refl
turned_waiting_probes place answer (Given op ∷ ws) s = answered_probes place (word_of op) answer (record s { waiting = ws })
turned_waiting_probes place answer (Forced text ∷ ws) s = either_probes _ _ _ s.probes refl refl
turned_waiting_probes place answer (Main ∷ ws) s = refl

pub turned_probes : (place : Place) (answer : Answer) (frames : List Frame) (waiting : List Waiting) (s : State) → (turned_in place answer frames waiting s).probes ≡ s.probes
turned_probes place answer [] waiting s = turned_waiting_probes place answer waiting s
turned_probes place answer (f ∷ fs) waiting s = turned_frame_probes answer f f.rest fs s

entering_probes : (path : List ℕ) (depth : ℕ) (bones : Option (List Bone)) (s : State) → (entering path depth bones s).probes ≡ s.probes
entering_probes path depth None s = refl
entering_probes path depth (Some bones) s = refl

pub found_probes : (files : Files) (place : Place) (depth : ℕ) (header : Header) (path : Option (List ℕ)) (s : State)
    → (found_path files place depth header path s).probes ≡ s.probes
found_probes files place depth header None s = refl
found_probes files place depth header (Some path) s =
    either_probes (has_path s.once path) _ _ s.probes refl (either_probes _ _ _ s.probes refl (entering_probes path depth (files path) s))

pub met_grows : (files : Files) (command : Command) (request : Request) (s : State) → Grows s.probes (met files command request s).probes
met_grows files command Stays s = grows_itself s.probes
met_grows files command Begins s = same_grows _ _ (sym (entering_probes command.main 0 (files command.main) s))
met_grows files command (Searches from place depth header) s =
    let paths : List (List ℕ) = candidates command from header in
    let more : List (List ℕ) = with_paths s.probes (up_to (is_present files) paths) in
    grows_on s.probes more (met files command (Searches from place depth header) s).probes (with_paths_grows (up_to (is_present files) paths) s.probes)
    (same_grows _ _ (sym (found_probes files place depth header (find (is_present files) paths) (record s { probes = more }))))

pub stepped_grows : (files : Files) (command : Command) (answer : Answer) (s : State) → Grows s.probes (stepped files command answer s).probes
stepped_grows files command answer s =
    let t : State = turned_in (start_of command) answer s.frames s.waiting s in
    grows_on s.probes t.probes (stepped files command answer s).probes
    (same_grows _ _ (sym (turned_probes (start_of command) answer s.frames s.waiting s)))
    (met_grows files command (request command answer s) t)

pub leads_grows : (files : Files) (command : Command) (end : Outcome) (s : State) → Leads files command end s → Grows s.probes end.probes
leads_grows files command end s (over h e) = same_grows _ _ (ap (λ (o : Outcome). o.probes) e)
leads_grows files command end s (goes h answer says more) =
    grows_on s.probes (stepped files command answer s).probes end.probes (stepped_grows files command answer s)
    (leads_grows files command end (stepped files command answer s) more)

starts_there : (command : Command) (bones : Option (List Bone)) → (start_with command bones).probes ≡ command.main ∷ []
starts_there command None = refl
starts_there command (Some bones) = refl

-- the main file stands first
pub main_first : (files : Files) (command : Command) (end : Outcome) → IsPass files command end
    → slice_get end.probes 0 ≡ Some command.main
main_first files command end passes =
    let grows : Grows (start files command).probes end.probes = leads_grows files command end (start files command) passes in
    ap (λ ps. slice_get ps 0) (grows.1 ∙ ap (λ ps. ps ++ grows.0) (starts_there command (files command.main)))
