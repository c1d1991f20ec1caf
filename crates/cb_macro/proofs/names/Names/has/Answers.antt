-- A test of the names is a test of what they are seen as.
use Rattle.std.proofs.Common.{◌∙◌}
use Rattle.std.specs.Str.{bytes_eq}
use Rattle.cb_macro.proofs.NameLists.{any-map}
use Rattle.cb_macro.proofs.names.Names.has.Goals as goal

pub returns : goal.returns
returns c = rw (← c.self.view_is) (c.contains.ensures ∙ any-map _ (bytes_eq c.args.name.now) _)
