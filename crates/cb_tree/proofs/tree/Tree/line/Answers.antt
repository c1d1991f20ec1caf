use Rattle.std.proofs.Common.{rules, ◌≡◌, ◌-◌, Some, slice_get, subst}
use Rattle.std.specs.Option.{option_map}
use Rattle.cb_tree.specs.Nodes.{AreCounted, node_line}
use Rattle.cb_tree.proofs.SomeReading.{line_of_node}
use Rattle.cb_tree.proofs.tree.Tree.line.Goals as goal

pub returns-clause-some : goal.returns-clause-some
returns-clause-some c =
    let counted : AreCounted c.args.self.now = subst AreCounted c.self.view_is c.self.invariant.counted in
    let is : option_map node_line (slice_get c.args.self.now (c.args.node - 1)) ≡ Some c.first_line.result = search rules in
    line_of_node c.args.self.now (c.args.node - 1) c.first_line.result counted.lines is
