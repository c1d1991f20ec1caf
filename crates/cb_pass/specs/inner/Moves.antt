-- Steps of a pass, put together.
use Rattle.std.specs.Prelude.{◌≡◌, ℕ, ◌+◌, ◌-◌, ◌⊎◌, Bool, true, if◌then◌else◌, List, [], ◌∷◌, ◌++◌, map, drop, Option, Some, None}
use Rattle.cb_paths.specs.declared.language.Language.{Language}
use Rattle.cb_tokens.specs.declared.token.Token.{Token}
use Rattle.cb_tree.specs.declared.node.NodeKind.{NodeKind}
use Rattle.cb_tree.specs.declared.node.NodeKind.TheVariants.{Include}
use Rattle.cb_tree.specs.Groups.{next_turn}
use Rattle.cb_include.specs.declared.command.Command.{Command}
use Rattle.cb_include.specs.declared.header.Header.{Header}
use Rattle.cb_pass.specs.declared.section.Section.{Section}
use Rattle.cb_pass.specs.declared.note.NoteKind.{NoteKind}
use Rattle.cb_pass.specs.Notes.{Place}
use Rattle.cb_pass.specs.Answers.{Nothing, Answer, Names, IsAnswered}
use Rattle.cb_pass.specs.States.{Frame, Waiting, State, Outcome}
use Rattle.cb_pass.specs.Steps.{is_reached, is_active, question_of, question, frame_question, sections_behind, holds_at, effect, turned_frame, place_in, behind_node, with_note}
use Rattle.cb_pass.specs.Files.{Files, Request, Stays, Searches, frame_request, met, stepped, found_path}
use Rattle.cb_pass.specs.Passes.{Leads}
use Rattle.cb_pass.specs.inner.Memos.{Memo, with_memo}
use Rattle.cb_pass.specs.inner.Trails.{Opened, frames_of, ArePlaced, Findings, state_of, next_kind, behind_first}

-- whatever the steps from the second state lead to, those from the first lead to it too
abbrev pub Goes : Files → Command → State → State → Type 0
Goes files command s t = (end : Outcome) → Leads files command end t → Leads files command end s

-- the second state is one step behind the first
abbrev pub IsStep : Files → Command → State → State → Type 0
IsStep files command s t =
    (answer : Answer) × IsAnswered command.language s.macros (question s) answer × (t ≡ stepped files command answer s)

-- a file goes on to the end of the group in which it stands, or stays where it is
abbrev pub Leaps : Frame → Frame → Type 0
Leaps f g =
    (f ≡ g)
    ⊎ ((end : ℕ) × (next_turn (map (λ b. b.kind) f.rest) f.node 0 ≡ Some end)
    × (g ≡ record f { node = end; rest = drop (end - f.node) f.rest }))

-- a file with its next node behind it
abbrev pub advanced : NodeKind → Bool → Frame → Frame
advanced kind condition f = behind_node f (behind_first f.rest) (sections_behind kind condition f.sections)

-- a node of this kind is next, and is reached
abbrev pub IsReachedNext : NodeKind → Frame → Type 0
IsReachedNext kind f = (next_kind f.rest ≡ Some kind) × (is_reached kind f.sections ≡ true)

-- within a file the pass goes on to such a node, or to its end
abbrev pub AtNext : Option NodeKind → Frame → Type 0
AtNext None f = f.rest ≡ []
AtNext (Some kind) f = IsReachedNext kind f

-- in the innermost file a node of this kind is next, and is reached
abbrev pub IsReachedFirst : NodeKind → List Opened → Type 0
IsReachedFirst kind [] = ⊥
IsReachedFirst kind (o ∷ os) = IsReachedNext kind o.frame

-- from some open files the pass goes on to such a node in others, or to the end of all
abbrev pub Arrives : List Opened → List Opened → Option NodeKind → Type 0
Arrives old new None =
    (files : Files) (command : Command) (t : Findings) (waiting : List Waiting)
    → Goes files command (state_of t (frames_of old) waiting) (state_of t [] waiting)
Arrives old new (Some kind) =
    ((files : Files) (command : Command) (t : Findings) (waiting : List Waiting)
    → Goes files command (state_of t (frames_of old) waiting) (state_of t (frames_of new) waiting))
    × IsReachedFirst kind new × ((paths : List (List ℕ)) → ArePlaced paths old → ArePlaced paths new)

-- the header that an answer to an #include names
abbrev pub named_by : Answer → Option Header
named_by (Names header) = Some header
named_by _ = None

abbrev pub header_in : NodeKind → Answer → Option Header
header_in Include answer = named_by answer
header_in _ answer = None

-- what a directive of the kind does: to what is remembered, whether its condition holds, and the header that it names
abbrev pub HasEffect : Language → NodeKind → Place → List Token → Memo → Memo → Bool → Option Header → Type 0
HasEffect language kind place rest old new condition header =
    (answer : Answer) × IsAnswered language old.macros (question_of kind rest) answer
    × ((s : State) → with_memo new s ≡ effect kind place rest answer (with_memo old s))
    × (condition ≡ holds_at kind rest old.macros answer) × (header ≡ header_in kind answer)

-- the same in these open sections, where it may have no effect
abbrev pub HasEffectIn : Language → NodeKind → Place → List Token → List Section → Memo → Memo → Bool → Option Header → Type 0
HasEffectIn language kind place rest sections old new condition header =
    (answer : Answer)
    × IsAnswered language old.macros (if is_active kind sections then question_of kind rest else Nothing) answer
    × ((s : State) → with_memo new s
    ≡ (if is_active kind sections then effect kind place rest answer (with_memo old s) else with_memo old s))
    × (sections_behind kind condition sections ≡ sections_behind kind (holds_at kind rest old.macros answer) sections)
    × (header ≡ (if is_active kind sections then header_in kind answer else None))

-- what is asked of the files for a header that a file includes
abbrev pub wanted : Frame → Option Header → Request
wanted f None = Stays
wanted f (Some header) = Searches (Some f.path) (place_in f) (f.depth + 1) header

-- the next node of a file was visited, but for the header that it includes
abbrev pub IsVisited : Language → Findings → Frame → Findings → Frame → Option Header → Type 0
IsVisited language old f new g header =
    (answer : Answer) × IsAnswered language old.memo.macros (frame_question f.rest f.sections old.count) answer
    × ((fs : List Frame) (waiting : List Waiting)
    → state_of new (g ∷ fs) waiting ≡ turned_frame answer f f.rest fs (state_of old (f ∷ fs) waiting))
    × (frame_request f f.rest old.count answer ≡ wanted f header)

-- open files with one more, if there is one
abbrev pub with_file : Option Opened → List Frame → List Frame
with_file None fs = fs
with_file (Some o) fs = o.frame ∷ fs

-- its path stands at its place
abbrev pub IsPlaced : List (List ℕ) → Option Opened → Type 0
IsPlaced paths None = Unit {0}
IsPlaced paths (Some o) = ArePlaced paths (o ∷ [])

-- paths stay, and more may stand behind them
abbrev pub GoOn : List (List ℕ) → List (List ℕ) → Type 0
GoOn old new = (more : List (List ℕ)) × (new ≡ old ++ more)

-- a request was met, by a file that is entered or none
abbrev pub IsMet : Files → Command → Request → Findings → Findings → Option Opened → Type 0
IsMet files command request old new file =
    ((fs : List Frame) (waiting : List Waiting)
    → state_of new (with_file file fs) waiting ≡ met files command request (state_of old fs waiting))
    × IsPlaced new.probes file × GoOn old.probes new.probes × (new.count ≡ old.count)

-- the same but for one note more, unless it is there
abbrev pub IsNoted : Findings → Findings → Place → NoteKind → List ℕ → Type 0
IsNoted old new place kind detail =
    ((fs : List Frame) (waiting : List Waiting) → state_of new fs waiting ≡ with_note place kind detail (state_of old fs waiting))
    × (new.probes ≡ old.probes) × (new.count ≡ old.count)

-- a path that was found was met, by its file, which is entered, or none
abbrev pub IsEntered : Files → Place → ℕ → List ℕ → Findings → Findings → Option Opened → Type 0
IsEntered files place depth path old new file =
    ((header : Header) (fs : List Frame) (waiting : List Waiting)
    → state_of new (with_file file fs) waiting ≡ found_path files place depth header (Some path) (state_of old fs waiting))
    × IsPlaced new.probes file × (new.probes ≡ old.probes) × (new.count ≡ old.count)
