-- What the objects in memory stand for, and what their next call does.
use Rattle.std.specs.Prelude.{ℕ, ◌+◌, ◌-◌, ◌<◌, ◌≤◌, ◌⊎◌, min, max, List, length, Contains, slice_get, Option, Some, None}
use Rattle.cb_outside.specs.Tables.{Texts, Tables}

-- a source in memory: bytes left, the most that each call gives, the calls that fail, calls so far, failed ones (own)
pub record SourceState : Type 0 where
  pub left : List ℕ
  pub pieces : List ℕ
  pub fails : List ℕ
  pub calls : ℕ
  pub faults : ℕ

-- a sink in memory: bytes taken, how many it takes in all, the calls that fail, calls so far, failed ones (own)
pub record SinkState : Type 0 where
  pub taken : List ℕ
  pub room : ℕ
  pub fails : List ℕ
  pub calls : ℕ
  pub faults : ℕ

-- a keeper in memory: what is kept, the calls that fail, calls so far, failed ones (own)
pub record KeeperState : Type 0 where
  pub tables : Tables
  pub fails : List ℕ
  pub calls : ℕ
  pub faults : ℕ

-- a tree in memory: its files, the folder in which the program runs, the calls that fail, calls so far, failed ones (own)
pub record TreeState : Type 0 where
  pub files : Texts
  pub here : List ℕ
  pub fails : List ℕ
  pub calls : ℕ
  pub faults : ℕ

-- how much of this room a piece fills at most: a piece of 0 counts as 1, and no piece is no limit (own)
abbrev pub piece_in : Option ℕ → ℕ → ℕ
piece_in None room = room
piece_in (Some piece) room = min (max piece 1) room

-- how many bytes the next read gives into a buffer of this length, if it does not fail (own)
abbrev pub given_next : SourceState → ℕ → ℕ
given_next s room = min (length s.left) (piece_in (slice_get s.pieces s.calls) room)

-- how many bytes of a piece of this length the next write takes, if it does not fail (own)
abbrev pub taken_next : SinkState → ℕ → ℕ
taken_next s len = min len (s.room - length s.taken)

-- the next call is one of those that are to fail; calls are numbered from 1 (own)
abbrev pub IsDue : List ℕ → ℕ → Type 0
IsDue fails calls = Contains fails (calls + 1)

-- the next write of a piece of this length fails (own)
abbrev pub Refuses : SinkState → ℕ → Type 0
Refuses s len = IsDue s.fails s.calls ⊎ ((0 < len) × (s.room ≤ length s.taken))
