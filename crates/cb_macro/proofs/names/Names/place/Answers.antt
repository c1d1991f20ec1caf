-- A test of the names is a test of what they are seen as.
use Rattle.std.proofs.Common.{◌∙◌}
use Rattle.std.specs.Str.{bytes_eq}
use Rattle.cb_macro.proofs.NameLists.{position-map}
use Rattle.cb_macro.proofs.names.Names.place.Goals as goal

pub returns : goal.returns
returns c = rw (← c.self.view_is) (c.get_index_of.ensures.index ∙ position-map _ (bytes_eq c.args.name.now) _)
