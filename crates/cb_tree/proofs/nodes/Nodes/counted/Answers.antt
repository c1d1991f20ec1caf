use Rattle.std.proofs.Common.{◌<◌, length, ap, sym, arith}
use Rattle.std.specs.Option.{option_map}
use Rattle.cb_tree.specs.Nodes.{Node}
use Rattle.cb_tree.proofs.Heads.{as_many, node_at}
use Rattle.cb_tree.proofs.nodes.Nodes.counted.Goals as goal

pub index-requires : goal.index-requires
index-requires c = omega (arith, c.requires, as_many c.self.inside.heads.items c.self.inside.tokens.items c.args.self.now c.self.view_is, c.self.inside.heads.ok.0)

pub returns : goal.returns
returns c =
    let at : c.args.at < length c.self.inside.heads.items = omega (arith, c.requires, as_many c.self.inside.heads.items c.self.inside.tokens.items c.args.self.now c.self.view_is) in
    rw (sym c.self.view_is)
    (ap (option_map (λ (n : Node). n.counted)) (node_at c.self.inside.heads.items c.self.inside.tokens.items 0 c.args.at c.index.result.now at c.index.ensures))
