-- The numbers, names and texts of a source's faults.
use Rattle.std.specs.Prelude.{ℕ, List, ◌++◌, codes, decimal}
use Rattle.cb_tree.specs.declared.fault.SourceKind.{SourceKind}
use Rattle.cb_tree.specs.declared.fault.SourceKind.TheVariants.{OpenComment, StrayElif, StrayElse, StrayEndif, AfterElse, OpenIf, TooDeep, TooLarge}
use Rattle.cb_tree.specs.declared.fault.BadSource.{BadSource}

-- the number and the name of a fault (own)
abbrev pub fault_row : SourceKind → ℕ × List ℕ
fault_row OpenComment = (1, codes "OpenComment")
fault_row StrayElif = (2, codes "StrayElif")
fault_row StrayElse = (3, codes "StrayElse")
fault_row StrayEndif = (4, codes "StrayEndif")
fault_row AfterElse = (5, codes "AfterElse")
fault_row OpenIf = (6, codes "OpenIf")
fault_row TooDeep = (7, codes "TooDeep")
fault_row TooLarge = (8, codes "TooLarge")

-- the text of a fault (own)
abbrev pub fault_text : BadSource → List ℕ
fault_text fault =
    codes "bad source " ++ decimal (fault_row fault.kind).0 ++ codes " " ++ (fault_row fault.kind).1 ++ codes " line " ++ decimal fault.line
