use Rattle.std.proofs.Common.{sym, ap, ◌∙◌}
use Rattle.cb_lines.specs.Marks.{bytes_of}
use Rattle.cb_lines.proofs.Holding.{held-bytes}
use Rattle.cb_lines.proofs.walking.Walk.rest.Goals as goal

pub returns : goal.returns
returns c = sym (held-bytes c.self.inside.line c.self.inside.at c.self.inside.bytes.now c.self.inside.splices.now) ∙ ap bytes_of c.self.view_is
