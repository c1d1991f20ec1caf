-- What a step of a pass asks of the files (6.10.2).
use Rattle.std.specs.Prelude.{◌≡◌, ℕ, ◌+◌, ◌==◌, ◌&&◌, nat_lt, Bool, not, if◌then◌else◌, List, [], ◌∷◌, length, Option, Some, None}
use Rattle.std.specs.List.{find}
use Rattle.std.specs.Option.{is_some}
use Rattle.cb_tree.specs.declared.node.NodeKind.{NodeKind}
use Rattle.cb_tree.specs.declared.node.NodeKind.TheVariants.{Include}
use Rattle.cb_tree.specs.Skeleton.{Bone}
use Rattle.cb_include.specs.declared.command.Command.{Command}
use Rattle.cb_include.specs.declared.header.Header.{Header}
use Rattle.cb_include.specs.Candidates.{candidates}
use Rattle.cb_include.specs.Seen.{has_path, with_paths, up_to}
use Rattle.cb_pass.specs.declared.limits.TheConstants.{DEPTH_LIMIT}
use Rattle.cb_pass.specs.declared.note.NoteKind.TheVariants as note
use Rattle.cb_pass.specs.Notes.{Place}
use Rattle.cb_pass.specs.Headers.{quote_header, spelled_header}
use Rattle.cb_pass.specs.Answers.{Answer, Names}
use Rattle.cb_pass.specs.States.{Frame, Waiting, Given, Forced, Main, State}
use Rattle.cb_pass.specs.Steps.{is_active, is_spent, place_in, with_note, turned_in}

-- the files by their paths: of each that is present its skeleton, so without lines (own)
abbrev pub Files : Type 0
Files = List ℕ → Option (List Bone)

-- what is asked of the files: nothing, that the main file begins, or that a header is looked for from a file or from
-- the start, noted at a place and entered at a depth (own)
pub data Request : Type 0 where
  Stays : Request
  Begins : Request
  Searches : Option (List ℕ) → Place → ℕ → Header → Request

-- a header that is named is looked for from the file (6.10.2)
abbrev pub include_request : Frame → Answer → Request
include_request f (Names header) = Searches (Some f.path) (place_in f) (f.depth + 1) header
include_request f _ = Stays

-- #include is the directive that asks for a file (6.10.2)
abbrev pub node_request : NodeKind → Frame → Answer → Request
node_request Include f answer = include_request f answer
node_request _ f answer = Stays

-- the request at the next node of a file (own)
abbrev pub frame_request : Frame → List Bone → ℕ → Answer → Request
frame_request f [] count answer = Stays
frame_request f (b ∷ bs) count answer =
    if not (is_spent b.kind f.sections count) && is_active b.kind f.sections
    then node_request b.kind f answer else Stays

-- the place of the start of a command (own)
abbrev pub start_of : Command → Place
start_of command = record { path = command.main; node = 0 }

-- the request of what waits: a forced file is a quote header of the start, of which an empty text names none (GCC's
-- manual, "Options Controlling the Preprocessor", -include)
abbrev pub waiting_request : Command → List Waiting → Request
waiting_request command [] = Stays
waiting_request command (Given op ∷ ws) = Stays
waiting_request command (Forced text ∷ ws) =
    if length text == 0 then Stays else Searches None (start_of command) 0 (quote_header text)
waiting_request command (Main ∷ ws) = Begins

-- the request at the next node of the innermost file, else of what waits (own)
abbrev pub request_in : Command → List Frame → List Waiting → ℕ → Answer → Request
request_in command [] waiting count answer = waiting_request command waiting
request_in command (f ∷ fs) waiting count answer = frame_request f f.rest count answer

-- the request at a state, with the answer there (own)
abbrev pub request : Command → Answer → State → Request
request command answer s = request_in command s.frames s.waiting s.count answer

-- a file is read from its first node on (own)
abbrev pub first_frame : List ℕ → ℕ → List Bone → Frame
first_frame path depth bones = record { path = path; node = 1; rest = bones; depth = depth; sections = [] }

-- a file is entered, where it is present (6.10.2)
abbrev pub entering : List ℕ → ℕ → Option (List Bone) → State → State
entering path depth None s = s
entering path depth (Some bones) s = record s { frames = first_frame path depth bones ∷ s.frames }

-- the file at a path is present (own)
abbrev pub is_present : Files → List ℕ → Bool
is_present files path = is_some (files path)

-- what is done with the path that a search found: none is noted; one that is not to be entered again is passed over;
-- the depth is looked at then (6.10.2; the order is own)
abbrev pub found_path : Files → Place → ℕ → Header → Option (List ℕ) → State → State
found_path files place depth header None s = with_note place note.Missing (spelled_header header) s
found_path files place depth header (Some path) s =
    if has_path s.once path then s
    else (if nat_lt DEPTH_LIMIT depth then with_note place note.TooDeep [] s else entering path depth (files path) s)

-- a state in which a request is met (6.10.2)
abbrev pub met : Files → Command → Request → State → State
met files command Stays s = s
met files command Begins s = entering command.main 0 (files command.main) s
met files command (Searches from place depth header) s =
    let paths = candidates command from header in
    found_path files place depth header (find (is_present files) paths)
    (record s { probes = with_paths s.probes (up_to (is_present files) paths) })

-- a state one step on, with the answer to its question (own)
abbrev pub stepped : Files → Command → Answer → State → State
stepped files command answer s =
    met files command (request command answer s) (turned_in (start_of command) answer s.frames s.waiting s)

-- files agree on paths, in absence or in skeleton (own)
abbrev pub Agree : Files → Files → List (List ℕ) → Type 0
Agree files other [] = Unit {0}
Agree files other (path ∷ paths) = (files path ≡ other path) × Agree files other paths
