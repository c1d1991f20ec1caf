-- How a number stands on its line while lines are written. No public clause names these words.
use Rattle.std.specs.Prelude.{◌≡◌, ℕ, ◌+◌, ◌%◌, List, ◌∷◌, ◌++◌, length, drop, decimal}

-- from a place on there are the digits of the number up to the place 10, and then its line end; this many numbers from it on
-- have the same digits but the last (own)
pub record HasLine (bytes : List ℕ) (start number count : ℕ) : Type 0 where
  pub ends : start + length (decimal number) ≡ 10
  pub rest : List ℕ
  pub stands : drop start bytes ≡ decimal number ++ 10 ∷ rest
  pub counted : count + number % 10 ≡ 10
