use Rattle.std.proofs.Common.{◌<◌, length, ap, sym, arith}
use Rattle.cb_tree.proofs.Heads.{as_many, within_at, node_at}
use Rattle.cb_tree.proofs.nodes.Nodes.kept.Goals as goal

pub index-head-requires : goal.index-head-requires
index-head-requires c = omega (arith, c.requires, as_many c.self.inside.heads.items c.self.inside.tokens.items c.args.self.now c.self.view_is, c.self.inside.heads.ok.0)

pub kept_before-from-requires : goal.kept_before-from-requires
kept_before-from-requires c =
    omega (arith, c.requires, as_many c.self.inside.heads.items c.self.inside.tokens.items c.args.self.now c.self.view_is, ap length c.as_slice.ensures.value)

pub part-requires-clause-rises : goal.part-requires-clause-rises
part-requires-clause-rises c =
    let at : c.args.at < length c.self.inside.heads.items = omega (arith, c.requires, as_many c.self.inside.heads.items c.self.inside.tokens.items c.args.self.now c.self.view_is) in
    rw (c.kept_before-from.ensures, c.as_slice.ensures.value)
    (within_at c.self.inside.heads.items 0 (length c.self.inside.tokens.items) c.args.at c.index-head.result.now c.self.invariant.0 at c.index-head.ensures).0

pub part-requires-clause-within : goal.part-requires-clause-within
part-requires-clause-within c =
    let at : c.args.at < length c.self.inside.heads.items = omega (arith, c.requires, as_many c.self.inside.heads.items c.self.inside.tokens.items c.args.self.now c.self.view_is) in
    rw c.as_slice-2.ensures.value
    (within_at c.self.inside.heads.items 0 (length c.self.inside.tokens.items) c.args.at c.index-head.result.now c.self.invariant.0 at c.index-head.ensures).1

pub returns : goal.returns
returns c =
    let at : c.args.at < length c.self.inside.heads.items = omega (arith, c.requires, as_many c.self.inside.heads.items c.self.inside.tokens.items c.args.self.now c.self.view_is) in
    rw (c.part.ensures, c.as_slice-2.ensures.value, c.kept_before-from.ensures, c.as_slice.ensures.value, sym c.self.view_is)
    (node_at c.self.inside.heads.items c.self.inside.tokens.items 0 c.args.at c.index-head.result.now at c.index-head.ensures)
