-- The macros of a pass.
use Rattle.std.specs.Prelude.{ℕ, List}
use Rattle.cb_macro.specs.Definitions.{Definition}

-- the macros: names with their definitions (6.10.3)
abbrev pub Macros : Type 0
Macros = List (List ℕ × Definition)
