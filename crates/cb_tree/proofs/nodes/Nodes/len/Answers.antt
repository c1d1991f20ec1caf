use Rattle.std.proofs.Common.{arith}
use Rattle.cb_tree.proofs.Heads.{as_many}
use Rattle.cb_tree.proofs.nodes.Nodes.len.Goals as goal

pub returns : goal.returns
returns c = omega (arith, c.len.ensures, c.self.inside.heads.ok.0, as_many c.self.inside.heads.items c.self.inside.tokens.items c.args.self.now c.self.view_is)
