-- Parts of lists as they are written. No public clause names these words.
use Rattle.std.specs.Prelude.{ℕ, ◌==◌, if◌then◌else◌, List, [], codes}

-- what stands before the text at a place of such a list (own)
abbrev pub separator : ℕ → List ℕ
separator at = if at == 0 then [] else codes ", "
