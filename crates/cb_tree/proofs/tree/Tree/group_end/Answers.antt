use Rattle.std.proofs.Common.{◌≡◌, ◌≤◌, [], None, List, length, ap, ◌∙◌, sym, arith}
use Rattle.std.proofs.lemmas.List.{length-map}
use Rattle.cb_tree.specs.Nodes.{Node}
use Rattle.cb_tree.specs.Groups.{kinds_of}
use Rattle.cb_tree.proofs.GroupEnds.{end_is, end_within, length-ends}
use Rattle.cb_tree.specs.Sections.{first_fault}
use Rattle.cb_tree.proofs.EveryEnd.{every_end}
use Rattle.cb_tree.proofs.tree.Tree.group_end.Goals as goal

pub bounds-ends-node : goal.bounds-ends-node
bounds-ends-node c =
    let table = c.as_slice-ends.ensures.value ∙ c.self.invariant.ends_are in
    omega (arith, length-ends c.self.inside.nodes c.args.self.now c.as_slice-ends.result.now c.self.view_is table, c.requires)

pub returns-clause-end : goal.returns-clause-end
returns-clause-end c =
    let table = c.as_slice-ends.ensures.value ∙ c.self.invariant.ends_are in
    end_is c.self.inside.nodes c.args.self.now c.as_slice-ends.result.now c.args.node _ c.end_by_entry.result c.self.view_is table c.requires c.end_by_entry.ensures

pub returns-clause-behind : goal.returns-clause-behind
returns-clause-behind c =
    let few : c.args.node ≤ length (kinds_of c.args.self.now) = omega (arith, length-map c.args.self.now (λ n. n.kind), c.requires) in
    rw (← length-map c.args.self.now (λ n. n.kind)) (end_within (kinds_of c.args.self.now) c.args.node c.end_by_entry.result few (returns-clause-end c))

pub returns-clause-every : goal.returns-clause-every
returns-clause-every c = λ o.
    let sound : first_fault c.args.self.now [] ≡ None = ap (λ (x : List Node). first_fault x []) (sym c.self.view_is) ∙ c.self.invariant.no_fault in
    every_end c.args.self.now c.args.node c.end_by_entry.result sound c.requires.0 (returns-clause-end c) o
