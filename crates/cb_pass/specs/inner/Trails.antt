-- How a pass stands in memory.
use Rattle.std.specs.Prelude.{◌≡◌, ℕ, ◌<◌, Bool, List, [], ◌∷◌, length, map, Option, Some, None}
use Rattle.std.specs.List.{position_or_len}
use Rattle.std.specs.Str.{bytes_eq}
use Rattle.cb_tokens.specs.declared.token.Token.{Token}
use Rattle.cb_tree.specs.declared.node.NodeKind.{NodeKind}
use Rattle.cb_tree.specs.Kinds.{rest_of}
use Rattle.cb_tree.specs.Skeleton.{Bone}
use Rattle.cb_pass.specs.Reached.{is_in}
use Rattle.cb_pass.specs.States.{Frame, Waiting, State}
use Rattle.cb_pass.specs.inner.Memos.{Memo}

-- the kind of the first node
abbrev pub next_kind : List Bone → Option NodeKind
next_kind [] = None
next_kind (b ∷ bs) = Some b.kind

-- the tokens of the first node behind its directive's name
abbrev pub next_rest : List Bone → List Token
next_rest [] = []
next_rest (b ∷ bs) = rest_of b.tokens

-- what follows the first node
abbrev pub behind_first : List Bone → List Bone
behind_first [] = []
behind_first (b ∷ bs) = bs

-- a file that is being read, and the place of its path among the paths that were asked about, from 0
pub record Opened : Type 0 where
  pub frame : Frame
  pub place : ℕ

-- files that are being read, without these places
abbrev pub frames_of : List Opened → List Frame
frames_of opened = map (λ o. o.frame) opened

-- each path stands at its place
abbrev pub ArePlaced : List (List ℕ) → List Opened → Type 0
ArePlaced paths [] = Unit {0}
ArePlaced paths (o ∷ os) =
    (position_or_len (bytes_eq o.frame.path) paths ≡ o.place) × (o.place < length paths) × ArePlaced paths os

-- what a pass found: the macros, the files that are read once and the notes; the sets of nodes by the places of their
-- paths; how many nodes were reached; and the paths that were asked about
pub record Findings : Type 0 where
  pub memo : Memo
  pub rows : List (List ℕ)
  pub count : ℕ
  pub probes : List (List ℕ)

-- whether a node of a path was reached
abbrev pub reached_by : Findings → List ℕ → ℕ → Bool
reached_by t path node = is_in t.probes t.rows path node

-- a state with these
abbrev pub state_of : Findings → List Frame → List Waiting → State
state_of t frames waiting = record {
  frames = frames;
  waiting = waiting;
  macros = t.memo.macros;
  once = t.memo.once;
  reached = reached_by t;
  count = t.count;
  probes = t.probes;
  notes = t.memo.notes;
}
