-- The parts of a text that are left.
use Rattle.std.specs.Prelude.{◌==◌, ℕ, List, [], Option, Some, None}
use Rattle.std.specs.Borrow.{Bor}
use Rattle.std.specs.List.{slice_split}
use Rattle.cb_analysis.specs.declared.parts.Parts.{Parts}

-- the parts of a text, or of none
abbrev pub parts_left : Option (Bor (List ℕ)) → List (List ℕ)
parts_left None = []
parts_left (Some text) = slice_split (λ b. b == 47) text.now

abbrev pub left_of : Parts → List (List ℕ)
left_of parts = parts_left parts.text
