-- A test of the names is a test of what they are seen as.
use Rattle.std.proofs.Common.{◌∙◌, ap, not}
use Rattle.std.specs.Str.{bytes_eq}
use Rattle.cb_macro.proofs.NameLists.{any-map}
use Rattle.cb_macro.proofs.names.Names.add.Goals as goal

pub returns-clause-new : goal.returns-clause-new
returns-clause-new c = rw (← c.self.view_is, ← c.in_ok-name.ensures.items) (c.in_ok-added.ensures.added ∙ ap not (any-map _ (bytes_eq c.in_ok-name.name.items) _))
