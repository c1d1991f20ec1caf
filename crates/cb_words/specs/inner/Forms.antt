-- How a part of the words behind a command is kept. No public clause names these words.
use Rattle.cb_words.specs.Parts as parts
use Rattle.cb_words.specs.declared.part.Form.{Form}
use Rattle.cb_words.specs.declared.part.Form.TheVariants.{Given, Lone, Stray, Plain}

-- what a kept part is (own)
abbrev pub part_of : Form → parts.Part
part_of (Given option value) = parts.Given option value.now
part_of (Lone option) = parts.Lone option
part_of Stray = parts.Stray
part_of (Plain word) = parts.Plain word.now
