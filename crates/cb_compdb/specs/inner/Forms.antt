-- What private clauses say of words.
use Rattle.cb_compdb.specs.Options.{WordForm, with_text, takes_next, skips_next, other}
use Rattle.cb_compdb.specs.declared.form.Form.{Form}
use Rattle.cb_compdb.specs.declared.form.Form.TheVariants.{With, Takes, Skips, Passed}

-- the form of a word, with the text that it refers to
abbrev pub form_seen : Form → WordForm
form_seen (With kind text) = with_text kind text.now
form_seen (Takes kind) = takes_next kind
form_seen Skips = skips_next
form_seen Passed = other
