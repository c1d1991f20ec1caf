-- Nodes of trees of places.
use Rattle.std.specs.Prelude.{ℕ, ◌-◌, ◌/◌, ◌%◌, ◌==◌, ◌≤◌, if◌then◌else◌, Bool, List}
use Rattle.cb_paste.specs.declared.hides.Cell.{Cell}
use Rattle.cb_paste.specs.declared.hides.Node.{Node}
use Rattle.cb_paste.specs.declared.hides.Node.TheVariants.{One, Fork}
use Rattle.cb_paste.specs.Sets.{hides}

-- the set below a fork in which a place other than 0 lies (own)
unfoldable pub side_of : Cell → ℕ → ℕ
side_of c place = if place % 2 == 1 then c.odd else c.even

-- the fork with another set there (own)
unfoldable pub with_side : Cell → ℕ → ℕ → Cell
with_side c place below = if place % 2 == 1 then record c { odd = below } else record c { even = below }

-- whether a fork has a place (own)
unfoldable pub in_cell : List (List ℕ) → Cell → ℕ → Bool
in_cell sets c place = if place == 0 then c.here else hides sets (side_of c place) ((place - 1) / 2)

-- whether a node has a place (own)
abbrev pub in_node : List (List ℕ) → Node → ℕ → Bool
in_node sets (One p) place = place == p
in_node sets (Fork c) place = in_cell sets c place

-- a fork stands over sets of an arena of so many (own)
pub record IsOver (count : ℕ) (c : Cell) : Type 0 where
  pub odd : c.odd ≤ count
  pub even : c.even ≤ count

-- a node does (own)
abbrev pub IsNodeOver : ℕ → Node → Type 0
IsNodeOver count (One p) = Unit {0}
IsNodeOver count (Fork c) = IsOver count c
