-- How a text is kept. No public clause names these words.
use Rattle.std.specs.Prelude.{ℕ, ◌≤◌, List, take, box_value}
use Rattle.cb_paths.specs.declared.bytes.Text.{Text}
use Rattle.cb_paths.specs.declared.bytes.Text.TheVariants.{Short, Full, Long}

-- the bytes of a text
abbrev pub text_of : Text → List ℕ
text_of (Short len bytes) = take len bytes
text_of (Full bytes) = bytes
text_of (Long boxed) = (box_value boxed).items

-- a short text has no more bytes than there is room for
abbrev pub IsText : Text → Type 0
IsText (Short len bytes) = len ≤ 14
IsText (Full bytes) = Unit {0}
IsText (Long boxed) = Unit {0}
