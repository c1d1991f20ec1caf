-- What a run writes.
use Rattle.std.specs.Prelude.{ℕ, List, [], ◌∷◌, ◌++◌, codes, decimal}
use Rattle.std.specs.List.{flat_map}
use Rattle.cb_tree.specs.declared.fault.BadSource.{BadSource}
use Rattle.cb_tree.specs.Faults.{fault_text}

-- a text and its line end (own)
abbrev pub line_text : List ℕ → List ℕ
line_text text = text ++ (10 ∷ [])

-- the arguments were no command (own)
abbrev pub usage_text : List ℕ
usage_text = line_text (codes "usage: codebasin specialise|report|stdio|serve|generate")

-- the input has more bytes than a source may have (own)
abbrev pub limit_text : List ℕ
limit_text = line_text (codes "error input: limit bytes 4194304")

-- a read failed (own)
abbrev pub read_text : List ℕ
read_text = line_text (codes "error read")

-- the input is no sound source (own)
abbrev pub malformed_text : BadSource → List ℕ
malformed_text fault = line_text (codes "error input: " ++ fault_text fault)

-- numbers, each on a line of its own (own)
abbrev pub numbers_text : List ℕ → List ℕ
numbers_text numbers = flat_map (λ n. line_text (decimal n)) numbers
