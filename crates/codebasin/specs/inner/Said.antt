-- The bytes of a text that a run says.
use Rattle.std.specs.Prelude.{ℕ, List}
use Rattle.codebasin.specs.declared.answering.Said.{Said}
use Rattle.codebasin.specs.declared.answering.Said.TheVariants.{Fixed, Made}

-- the bytes
abbrev pub said_bytes : Said → List ℕ
said_bytes (Fixed text) = text.now
said_bytes (Made text) = text.items
