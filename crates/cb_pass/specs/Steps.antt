-- A step of a pass: to the next node of the innermost file, out of it at its end, or to what waits (6.10).
use Rattle.std.specs.Prelude.{ℕ, ◌==◌, ◌&&◌, ◌||◌, nat_le, Bool, false, not, if◌then◌else◌, List, [], ◌∷◌, length, Option, Some, None, codes}
use Prim.Native.Nat.{suc}
use Rattle.std.specs.Str.{bytes_eq}
use Rattle.std.specs.Option.{is_some}
use Rattle.cb_tokens.specs.declared.token.Token.{Token}
use Rattle.cb_tokens.specs.Kinds.{is_identifier_kind}
use Rattle.cb_tree.specs.declared.node.NodeKind.{NodeKind}
use Rattle.cb_tree.specs.declared.node.NodeKind.TheVariants.{If, Ifdef, Ifndef, Elif, Else, Endif, Define, Undef, Include, Once, Error}
use Rattle.cb_tree.specs.Kinds.{rest_of}
use Rattle.cb_tree.specs.Skeleton.{Bone}
use Rattle.cb_cond.specs.Faults.{fault_name}
use Rattle.cb_macro.specs.Maps.{found, with_definition, without}
use Rattle.cb_include.specs.declared.op.Op.{Op}
use Rattle.cb_include.specs.Seen.{with_path}
use Rattle.cb_include.specs.declared.op.Op.TheVariants as op
use Rattle.cb_pass.specs.declared.limits.TheConstants.{NODE_LIMIT}
use Rattle.cb_pass.specs.declared.section.Section.{Section}
use Rattle.cb_pass.specs.declared.note.NoteKind.{NoteKind}
use Rattle.cb_pass.specs.declared.note.NoteKind.TheVariants as note
use Rattle.cb_pass.specs.Sections.{is_live, is_before_live, may_be_taken, entered, continued, turned, closed}
use Rattle.cb_pass.specs.Notes.{Place, note_at, noted}
use Rattle.cb_pass.specs.Macros.{Macros}
use Rattle.cb_pass.specs.Answers.{Question, Nothing, Word, Defining, Undefining, Truth, Named, Answer, Defines, Undefines, Wordless, Holds, Faulty, Nameless, Long}
use Rattle.cb_pass.specs.States.{Frame, Waiting, Given, Forced, Main, State}

-- a node of the kind is reached here: #elif, #else and #endif where their section stands in live text (own), any other
-- in live text (6.10.1 paragraph 6)
abbrev pub is_reached : NodeKind → List Section → Bool
is_reached Elif sections = is_before_live sections
is_reached Else sections = is_before_live sections
is_reached Endif sections = is_before_live sections
is_reached _ sections = is_live sections

-- a directive of the kind has its effect here: in live text, and #elif where no group of its section was taken
-- (6.10.1 paragraph 6)
abbrev pub is_active : NodeKind → List Section → Bool
is_active Elif sections = may_be_taken sections
is_active _ sections = is_live sections

-- what a directive asks (6.10.1 to 6.10.3)
abbrev pub question_of : NodeKind → List Token → Question
question_of If rest = Truth rest
question_of Elif rest = Truth rest
question_of Define rest = Defining rest
question_of Undef rest = Undefining rest
question_of Include rest = Named rest
question_of _ rest = Nothing

-- the node that would be reached is one too many (own)
abbrev pub is_spent : NodeKind → List Section → ℕ → Bool
is_spent kind sections count = is_reached kind sections && nat_le NODE_LIMIT count

-- the question at the next node of a file (own)
abbrev pub frame_question : List Bone → List Section → ℕ → Question
frame_question [] sections count = Nothing
frame_question (b ∷ bs) sections count =
    if not (is_spent b.kind sections count) && is_active b.kind sections
    then question_of b.kind (rest_of b.tokens) else Nothing

-- the question of what waits (own)
abbrev pub waiting_question : List Waiting → Question
waiting_question [] = Nothing
waiting_question (Given op ∷ ws) = Word op
waiting_question (Forced text ∷ ws) = Nothing
waiting_question (Main ∷ ws) = Nothing

-- the question at the next node of the innermost file, else of what waits (own)
abbrev pub question_in : List Frame → List Waiting → ℕ → Question
question_in [] waiting count = waiting_question waiting
question_in (f ∷ fs) waiting count = frame_question f.rest f.sections count

-- the question at a state (own)
abbrev pub question : State → Question
question s = question_in s.frames s.waiting s.count

-- the identifier that stands first (6.10.1 paragraph 5)
abbrev pub first_name : List Token → Option (List ℕ)
first_name [] = None
first_name (t ∷ ts) = if is_identifier_kind t.kind then Some t.text else None

-- #ifdef: the identifier that stands first is defined; without one it is false (6.10.1 paragraph 5; false is own)
abbrev pub has_macro : Option (List ℕ) → Macros → Bool
has_macro None macros = false
has_macro (Some name) macros = is_some (found macros name)

-- #ifndef: it is not defined; without an identifier this is false too (6.10.1 paragraph 5; false is own)
abbrev pub lacks_macro : Option (List ℕ) → Macros → Bool
lacks_macro None macros = false
lacks_macro (Some name) macros = not (is_some (found macros name))

-- a condition with a fault is false (own)
abbrev pub truth : Answer → Bool
truth (Holds holds) = holds
truth _ = false

-- the condition of a directive of the kind holds (6.10.1)
abbrev pub holds_at : NodeKind → List Token → Macros → Answer → Bool
holds_at If rest macros answer = truth answer
holds_at Ifdef rest macros answer = has_macro (first_name rest) macros
holds_at Ifndef rest macros answer = lacks_macro (first_name rest) macros
holds_at Elif rest macros answer = truth answer
holds_at _ rest macros answer = false

-- the open sections behind a node of the kind, with its condition (6.10.1 paragraph 6)
abbrev pub sections_behind : NodeKind → Bool → List Section → List Section
sections_behind If condition sections = entered condition sections
sections_behind Ifdef condition sections = entered condition sections
sections_behind Ifndef condition sections = entered condition sections
sections_behind Elif condition sections = continued condition sections
sections_behind Else condition sections = turned sections
sections_behind Endif condition sections = closed sections
sections_behind _ condition sections = sections

-- a state with a note (own)
abbrev pub with_note : Place → NoteKind → List ℕ → State → State
with_note place kind detail s = record s { notes = noted (note_at place kind detail) s.notes }

-- #ifdef and #ifndef without an identifier are malformed (6.10.1 paragraph 5)
abbrev pub name_noted : Place → Option (List ℕ) → State → State
name_noted place None s = with_note place note.BadCondition (codes "Malformed") s
name_noted place (Some name) s = s

-- what an answer does, where a note on a word tells this detail; a header that is named is looked for later (6.10.3
-- paragraph 9, 6.10.3.5 paragraph 2; the notes are own)
abbrev pub answered : Place → List ℕ → Answer → State → State
answered place word (Defines name definition different) s = record s {
  macros = with_definition name definition s.macros;
  notes = if different then noted (note_at place note.Redefined name) s.notes else s.notes;
}
answered place word (Undefines name) s = record s { macros = without name s.macros }
answered place word Wordless s = with_note place note.BadDefine word s
answered place word (Faulty bad) s = with_note place note.BadCondition (fault_name bad) s
answered place word Nameless s = with_note place note.BadInclude [] s
answered place word Long s = with_note place note.TooLong [] s
answered place word _ s = s

-- what a directive of the kind does, but for the file that it includes (6.10.1 to 6.10.6)
abbrev pub effect : NodeKind → Place → List Token → Answer → State → State
effect If place rest answer s = answered place [] answer s
effect Ifdef place rest answer s = name_noted place (first_name rest) s
effect Ifndef place rest answer s = name_noted place (first_name rest) s
effect Elif place rest answer s = answered place [] answer s
effect Define place rest answer s = answered place [] answer s
effect Undef place rest answer s = answered place [] answer s
effect Include place rest answer s = answered place [] answer s
effect Once place rest answer s = record s { once = with_path s.once place.path }
effect Error place rest answer s = with_note place note.ErrorReached [] s
effect _ place rest answer s = s

-- the nodes reached with one more (own)
abbrev pub with_node : Place → (List ℕ → ℕ → Bool) → List ℕ → ℕ → Bool
with_node place reached path node = (bytes_eq path place.path && (node == place.node)) || reached path node

-- a node is reached (own)
abbrev pub counted : Bool → Place → State → State
counted reached place s =
    if reached then record s { reached = with_node place s.reached; count = suc s.count } else s

-- the place of a file's next node (own)
abbrev pub place_in : Frame → Place
place_in f = record { path = f.path; node = f.node }

-- a file behind its next node (own)
abbrev pub behind_node : Frame → List Bone → List Section → Frame
behind_node f rest sections = record f { node = suc f.node; rest = rest; sections = sections }

-- the file behind its next node, with its open sections there (6.10.1 paragraph 6)
abbrev pub moved : Answer → Frame → Bone → List Bone → Macros → Frame
moved answer f b bs macros =
    behind_node f bs (sections_behind b.kind (holds_at b.kind (rest_of b.tokens) macros answer) f.sections)

-- a state behind the next node of a file, but for the file that it includes (own)
abbrev pub behind : Answer → Frame → Bone → List Bone → List Frame → State → State
behind answer f b bs fs s =
    let reached_state = counted (is_reached b.kind f.sections) (place_in f)
    (record s { frames = moved answer f b bs s.macros ∷ fs }) in
    if is_active b.kind f.sections
    then effect b.kind (place_in f) (rest_of b.tokens) answer reached_state else reached_state

-- the pass ends where one node too many would be reached (own)
abbrev pub ended : Place → State → State
ended place s = with_note place note.Budget [] (record s { frames = []; waiting = [] })

-- a state behind the next node of a file, or out of the file (own)
abbrev pub turned_frame : Answer → Frame → List Bone → List Frame → State → State
turned_frame answer f [] fs s = record s { frames = fs }
turned_frame answer f (b ∷ bs) fs s =
    if is_spent b.kind f.sections s.count then ended (place_in f) s else behind answer f b bs fs s

-- the word of -D or -U (own)
abbrev pub word_of : Op → List ℕ
word_of (op.Define word) = word
word_of (op.Undef word) = word

-- a state behind what waits, but for the file that it begins (own)
abbrev pub turned_waiting : Place → Answer → List Waiting → State → State
turned_waiting place answer [] s = s
turned_waiting place answer (Given op ∷ ws) s = answered place (word_of op) answer (record s { waiting = ws })
turned_waiting place answer (Forced text ∷ ws) s =
    if length text == 0 then with_note place note.BadInclude [] (record s { waiting = ws })
    else record s { waiting = ws }
turned_waiting place answer (Main ∷ ws) s = record s { waiting = ws }

-- a state one step on, but for the file that is entered; the place is that of the start (own)
abbrev pub turned_in : Place → Answer → List Frame → List Waiting → State → State
turned_in start answer [] waiting s = turned_waiting start answer waiting s
turned_in start answer (f ∷ fs) waiting s = turned_frame answer f f.rest fs s
