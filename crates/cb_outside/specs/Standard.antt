-- What the objects over std stand for.
use Rattle.std.specs.Prelude.{ℕ, List, Option}

-- a reader of std: the bytes left, where it tells them, and how many reads have failed (own)
pub record InputState : Type 0 where
  pub left : Option (List ℕ)
  pub faults : ℕ

-- a writer of std: the bytes taken, where it tells them, and how many writes have failed (own)
pub record OutputState : Type 0 where
  pub taken : Option (List ℕ)
  pub faults : ℕ

-- the files of the system: the folder in which the program runs, and how many calls have failed (own)
pub record FilesState : Type 0 where
  pub here : List ℕ
  pub faults : ℕ
