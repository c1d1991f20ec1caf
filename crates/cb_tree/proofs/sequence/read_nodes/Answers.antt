use Rattle.std.proofs.Common.{◌≡◌, ℕ, ap, ◌∙◌, sym, subst, Ok, Err, arith}
use Rattle.std.proofs.lemmas.Result.{err_from_is_err_and}
use Rattle.cb_tree.specs.Nodes.{first_of}
use Rattle.cb_tree.specs.Sections.{sections_after}
use Rattle.cb_tree.specs.inner.Heads.{nodes_in, node_with}
use Rattle.cb_tree.proofs.Heads.{nodes_more, all_kept, all_within}
use Rattle.cb_tree.proofs.NodeSteps.{progress_on, refuses_node, refuses_open, refuses_at_end, sound_at_end, total_last}
use Rattle.cb_tree.proofs.sequence.read_nodes.Goals as goal

pub returns-in_err-read_node-clause-fault : goal.returns-in_err-read_node-clause-fault
returns-in_err-read_node-clause-fault c =
    let p = err_from_is_err_and c.from_residual.result c.from_residual.ensures.1 in
    rw (p.1, p.2) (refuses_open c.args.walk.now (nodes_in c.nodes.tokens.items 0 c.nodes.heads.items) c.nodes.sections c.nodes.walk c.in_err-read_node.field-0.0 c.nodes.invariant.0 c.in_err-read_node.ensures.tells)

pub nodes-preserved : goal.nodes-preserved
nodes-preserved c =
    let line : c.first_line-line.result ≡ first_of c.in-Some.head.counted = c.first_line-line.ensures ∙ ap first_of c.spans.ensures.lines in
    let ((own, adds, reads), shorter, few) = rw c.in-Some.is at c.in_ok-read_node.ensures.reads in
    rw (c.in_ok-push-in-Ok.ensures.items, nodes_more c.nodes.heads.items c.in-Some.head c.nodes.tokens.items c.read_node.new.tokens.items own c.nodes.invariant.1 c.nodes.invariant.4 adds) (
      progress_on c.args.walk.now (nodes_in c.nodes.tokens.items 0 c.nodes.heads.items) c.nodes.sections c.nodes.walk (node_with own c.in-Some.head) c.after.new.self
          c.read_node.new.walk c.nodes.invariant.0 reads shorter few
          (subst (λ (x : ℕ). sections_after c.in-Some.head.kind x c.nodes.sections ≡ Ok c.after.new.self) line c.in-Ok.ensures.ok),
      all_within c.nodes.heads.items c.in-Some.head c.nodes.tokens.items c.read_node.new.tokens.items own c.nodes.invariant.1 c.nodes.invariant.4 adds,
      omega (arith, c.nodes.invariant.2, c.in_ok-read_node.ensures.few_tokens),
      omega (arith, c.nodes.invariant.3, c.count-total.ensures, total_last (nodes_in c.nodes.tokens.items 0 c.nodes.heads.items) (node_with own c.in-Some.head)),
      all_kept c.nodes.heads.items c.in-Some.head c.nodes.tokens.items c.read_node.new.tokens.items own adds,
    )

pub overflow_add-total : goal.overflow_add-total
overflow_add-total c =
    let ((own, adds, reads), shorter, few) = rw c.in-Some.is at c.in_ok-read_node.ensures.reads in
    omega (arith, c.nodes.invariant.3, c.nodes.invariant.0.few_lines, few, c.count-total.ensures, c.requires)

pub returns-in-Err-clause-fault : goal.returns-in-Err-clause-fault
returns-in-Err-clause-fault c =
    let line : c.first_line-line.result ≡ first_of c.in-Some.head.counted = c.first_line-line.ensures ∙ ap first_of c.spans.ensures.lines in
    let ((own, adds, reads), shorter, few) = rw c.in-Some.is at c.in_ok-read_node.ensures.reads in
    refuses_node c.args.walk.now (nodes_in c.nodes.tokens.items 0 c.nodes.heads.items) c.nodes.sections c.nodes.walk (node_with own c.in-Some.head) c.read_node.new.walk
    c.in-Err.fault c.read_out.result c.nodes.invariant.0 reads
    (λ f e. subst (λ (x : ℕ). sections_after c.in-Some.head.kind x c.nodes.sections ≡ Err f) line (c.in-Err.ensures.err f (ap Err e)))
    c.read_out.ensures

pub invariant_of-result : goal.invariant_of-result
invariant_of-result c =
    let (reads, end, same) = rw c.in-None.is at c.in_ok-read_node.ensures.reads in
    rw same (c.nodes.invariant.1, c.nodes.invariant.3)

pub returns-in-None-fault_at_end-clause-nodes : goal.returns-in-None-fault_at_end-clause-nodes
returns-in-None-fault_at_end-clause-nodes c =
    let (reads, end, same) = rw c.in-None.is at c.in_ok-read_node.ensures.reads in
    rw same
    (sound_at_end c.args.walk.now (nodes_in c.nodes.tokens.items 0 c.nodes.heads.items) c.nodes.sections c.nodes.walk c.read_node.new.walk c.nodes.invariant.0 reads end
    (sym c.in-None-fault_at_end.ensures))

pub returns-in-Some-fault_at_end-clause-fault : goal.returns-in-Some-fault_at_end-clause-fault
returns-in-Some-fault_at_end-clause-fault c =
    let (reads, end, same) = rw c.in-None.is at c.in_ok-read_node.ensures.reads in
    refuses_at_end c.args.walk.now (nodes_in c.nodes.tokens.items 0 c.nodes.heads.items) c.nodes.sections c.nodes.walk c.read_node.new.walk c.in-Some-fault_at_end.fault
    c.nodes.invariant.0 reads end (sym c.in-Some-fault_at_end.ensures)

pub read_node-requires : goal.read_node-requires
read_node-requires c = record { room = omega (arith, c.nodes.invariant.2, c.requires) }
