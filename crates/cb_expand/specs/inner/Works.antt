-- The state of the machine as it lies in memory.
use Rattle.std.specs.Prelude.{◌≡◌, ℕ, ◌+◌, ◌-◌, ◌*◌, ◌<◌, ◌≤◌, Bool, if◌then◌else◌, List, [], ◌∷◌, ◌++◌, length, map, reverse, Option, Some, None, slice_get}
use Rattle.cb_paste.specs.declared.work_token.WorkToken.{WorkToken}
use Rattle.cb_paste.specs.declared.argument.Argument.{Argument}
use Rattle.cb_paste.specs.Shades.{Shaded, seen, AreIn}
use Rattle.cb_paste.specs.Sets.{hides, Extends}
use Rattle.cb_paste.specs.Puts.{AreArgumentsIn}
use Rattle.cb_paste.specs.declared.part.Part.{Part}
use Rattle.cb_expand.specs.declared.mode.Mode.{Mode}
use Rattle.cb_expand.specs.declared.work.Left.{Left}
use Rattle.cb_expand.specs.declared.work.Call.{Call}
use Rattle.cb_expand.specs.declared.work.Frame.{Frame}
use Rattle.cb_expand.specs.declared.work.Work.{Work}
use Rattle.cb_macro.specs.Definitions.{Definition}
use Rattle.cb_macro.specs.Parts.{parts}
use Rattle.cb_expand.specs.Heads.{Named, Insertion, put}
use Rattle.cb_expand.specs.inner.Machine.{Pending, State, At, Between, Completes, Steps}
use Rattle.cb_expand.specs.inner.Rows.{between, signs, AreEnds}

-- the parts of the macro in a place (own)
abbrev pub parts_of : Option (List ℕ × Definition) → List Part
parts_of None = []
parts_of (Some e) = parts e.1

-- tokens with their hide sets (own)
abbrev pub seen_all : List (List ℕ) → List WorkToken → List Shaded
seen_all sets ts = map (seen sets) ts

-- the arguments as written (own)
abbrev pub raws : List (List ℕ) → List Argument → List (List Shaded)
raws sets as' = map (λ a. seen_all sets a.raw.items) as'

-- the arguments as they became (own)
abbrev pub became : List (List ℕ) → List Argument → List (List Shaded)
became sets as' = map (λ a. seen_all sets a.expanded.items) as'

-- the arguments that are left, as written (own)
abbrev pub left_raws : List (List ℕ) → List Left → List (List Shaded)
left_raws sets ls = map (λ l. seen_all sets l.raw.items) ls

-- an empty argument where nothing stands for ... (own)
abbrev pub lacking : Bool → List (List Shaded)
lacking lacks = if lacks then [] ∷ [] else []

-- the arguments that are left below a separator at a height, those that are expanded (own)
abbrev pub left_shown : List Shaded → ℕ → List Left → List (List Shaded)
left_shown ss from [] = []
left_shown ss from (l ∷ ls) = (if l.is_shown then between l.end (from - 1) ss else []) ∷ left_shown ss l.end ls

-- the height of the parenthesis that closes the call (own)
abbrev pub last_end : ℕ → List Left → ℕ
last_end from [] = from
last_end from (l ∷ ls) = last_end l.end ls

-- a call that is being replaced: its arguments that are ready, those that are left, and whether one lacks; the arguments as written
-- that are neither ready nor left; the height of the separator behind the last one that is not left; and the end of the list in
-- which the call stands, with what stood there before it (own)
abbrev pub pending_by : Named → List (List ℕ) → List Shaded → ℕ → Bool → ℕ → List Argument → List Left → Bool → List (List Shaded) → ℕ → ℕ → List Shaded → Pending
pending_by ms sets ss place spaced extra args left lacks current from floor out = record {
  insertion = record {
    parts = parts_of (slice_get ms place);
    spaced = spaced;
    hides = hides sets extra;
    written = raws sets args ++ (current ++ (left_raws sets left ++ lacking lacks));
  };
  rest = between floor (last_end from left - 1) ss;
  outs = became sets args;
  left = left_shown ss from left ++ lacking lacks;
  out = out;
}

abbrev pub pending : Named → List (List ℕ) → List Shaded → Call → List (List Shaded) → ℕ → ℕ → List Shaded → Pending
pending ms sets ss c current from floor out =
    pending_by ms sets ss c.place c.spaced c.hides c.arguments.items (reverse c.left.items) c.lacks_rest current from floor out

-- the calls whose arguments are being expanded, the innermost one first (own)
abbrev pub pendings : Named → List (List ℕ) → List Shaded → ℕ → List Frame → List Pending
pendings ms sets ss from [] = []
pendings ms sets ss from (f ∷ fs) =
    pending ms sets ss f.call (seen_all sets f.raw.items ∷ []) from f.floor (seen_all sets f.done.items)
    ∷ pendings ms sets ss f.floor fs

-- the tokens of a row with their hide sets, the lowest one first (own)
abbrev pub row_of : Work → List Shaded
row_of w = seen_all w.arena w.row.tokens.items

abbrev pub outer_of : Named → Work → List Pending
outer_of ms w = pendings ms w.arena (row_of w) w.floor (reverse w.frames.items)

-- the state, between two arguments of a call or not (own)
unfoldable pub state_of : Named → Work → Option Call → State
state_of ms w None = At (outer_of ms w) (between w.floor (length (row_of w)) (row_of w)) (seen_all w.arena w.done.items)
state_of ms w (Some c) =
    Between (pending ms w.arena (row_of w) c [] (length (row_of w)) w.floor (seen_all w.arena w.done.items)) (outer_of ms w)

-- the ends of the arguments that are left lie below one another, and above the end of the list (own)
abbrev pub AreLeft : ℕ → ℕ → ℕ → List Left → Type 0
AreLeft count from floor [] = floor < from
AreLeft count from floor (l ∷ ls) = (l.end < from) × AreIn count l.raw.items × AreLeft count l.end floor ls

-- a call that can be resumed (own)
pub record IsCall (macros count from floor : ℕ) (c : Call) : Type 0 where
  pub place : c.place < macros
  pub hides : c.hides ≤ count
  pub arguments : AreArgumentsIn count c.arguments.items
  pub left : AreLeft count from floor (reverse c.left.items)

abbrev pub AreFrames : ℕ → ℕ → ℕ → List Frame → Type 0
AreFrames macros count from [] = from ≡ 0
AreFrames macros count from (f ∷ fs) =
    IsCall macros count from f.floor f.call × AreIn count f.raw.items × AreIn count f.done.items × AreFrames macros count f.floor fs

-- a call that waits (own)
abbrev pub CanResume : ℕ → Work → Option Call → Type 0
CanResume macros w None = w.used + length w.frames.items ≤ 65536
CanResume macros w (Some c) =
    IsCall macros (length w.arena) (length w.row.tokens.items) w.floor c × (w.used + length w.frames.items < 65536)

-- a state from which the machine can go on (own)
pub record IsWork (macros : ℕ) (w : Work) (c : Option Call) : Type 0 where
  pub row : AreEnds (signs w.row.tokens.items) w.row.ends.items
  pub tokens : AreIn (length w.arena) w.row.tokens.items
  pub done : AreIn (length w.arena) w.done.items
  pub floor : w.floor ≤ length w.row.tokens.items
  pub frames : AreFrames macros (length w.arena) w.floor (reverse w.frames.items)
  pub call : CanResume macros w c

-- one state after another: it ends alike, and what is paid then is the difference (own)
pub record Goes (ms : Named) (mode : Mode) (s : State) (used : ℕ) (t : State) (paid : ℕ) : Type 0 where
  pub cost : ℕ
  pub steps : Steps ms mode s t cost
  pub sum : paid ≡ used + cost

-- each way to end from a state costs more than the limit, with what is paid (own)
abbrev pub Exceeds : Named → Mode → State → ℕ → Type 0
Exceeds ms mode s used = (final : List Shaded) (n : ℕ) → Completes ms mode s final n → 65536 < used + n

-- what is left to do (own)
abbrev pub weight : Work → ℕ
weight w = 2 * (length w.row.tokens.items + (65536 - w.used)) + length w.frames.items

-- what replaces a call of the macro in a place with these arguments (own)
abbrev pub insertion_of : Named → List (List ℕ) → ℕ → Bool → ℕ → List Argument → Insertion
insertion_of ms sets place spaced extra args = record {
  parts = parts_of (slice_get ms place);
  spaced = spaced;
  hides = hides sets extra;
  written = raws sets args;
}

-- the tokens that are put in for it (own)
abbrev pub put_of : Named → List (List ℕ) → ℕ → Bool → ℕ → List Argument → List Shaded
put_of ms sets place spaced extra args = put (insertion_of ms sets place spaced extra args) (became sets args)

-- tokens were put in, and paid for; nothing else has changed (own)
pub record Added (old new : Work) (added : List Shaded) : Type 0 where
  pub arena : Extends old.arena new.arena
  pub row : row_of new ≡ row_of old ++ reverse added
  pub kept : AreEnds (signs new.row.tokens.items) new.row.ends.items
  pub tokens : AreIn (length new.arena) new.row.tokens.items
  pub floor : new.floor ≡ old.floor
  pub frames : new.frames ≡ old.frames
  pub done : new.done ≡ old.done
  pub used : new.used ≡ old.used + (1 + length added)
  pub limit : new.used + length new.frames.items ≤ 65536

-- one step of the machine (own)
pub record Stepped (ms : Named) (mode : Mode) (old : Work) (before : Option Call) (new : Work) (behind : Option Call) : Type 0 where
  pub goes : Goes ms mode (state_of ms old before) old.used (state_of ms new behind) new.used
  pub kept : IsWork (length ms) new behind
  pub smaller : weight new < weight old

-- a call whose last separator was taken away from the row (own)
abbrev pub resumed : Named → Work → Call → Pending
resumed ms w c = pending ms w.arena (row_of w) c [] (length (row_of w) + 1) w.floor (seen_all w.arena w.done.items)

-- a call for which tokens can be put in (own)
pub record IsReplaceable (macros : ℕ) (w : Work) (c : Call) : Type 0 where
  pub row : AreEnds (signs w.row.tokens.items) w.row.ends.items
  pub tokens : AreIn (length w.arena) w.row.tokens.items
  pub done : AreIn (length w.arena) w.done.items
  pub floor : w.floor ≤ length w.row.tokens.items
  pub frames : AreFrames macros (length w.arena) w.floor (reverse w.frames.items)
  pub call : IsCall macros (length w.arena) (length w.row.tokens.items + 1) w.floor c
  pub limit : w.used + length w.frames.items < 65536
