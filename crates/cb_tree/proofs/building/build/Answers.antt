use Rattle.std.proofs.Common.{Ok, ap, inl}
use Rattle.std.proofs.lemmas.Result.{err_from_is_err_and}
use Rattle.cb_tree.proofs.OneReading.{same_fault, same_tree, same_nodes, not_sound}
use Rattle.cb_tree.proofs.building.build.Goals as goal

pub returns-in_err-nodes-clause-every_fault : goal.returns-in_err-nodes-clause-every_fault
returns-in_err-nodes-clause-every_fault c = λ f h.
    let p = err_from_is_err_and c.from_residual.result c.from_residual.ensures.1 in
    rw (p.1, p.2) (same_fault c.args.source.now (c.one_reading.ensures c.args.source.now) c.in_err-nodes.field-0.0 f c.in_err-nodes.ensures.fault h)

pub returns-clause-every_fault : goal.returns-clause-every_fault
returns-clause-every_fault c = λ f h.
    absurd (not_sound c.args.source.now (c.one_reading.ensures c.args.source.now) _ f c.in_ok-nodes.ensures.nodes h)

pub returns-in_err-nodes-clause-every_tree : goal.returns-in_err-nodes-clause-every_tree
returns-in_err-nodes-clause-every_tree c = λ nodes h.
    let p = err_from_is_err_and c.from_residual.result c.from_residual.ensures.1 in
    rw (p.1, p.2) (same_tree c.args.source.now (c.one_reading.ensures c.args.source.now) c.in_err-nodes.field-0.0 nodes c.in_err-nodes.ensures.fault h)

pub returns-clause-every_tree : goal.returns-clause-every_tree
returns-clause-every_tree c = λ nodes h.
    inl (ap Ok (same_nodes c.args.source.now (c.one_reading.ensures c.args.source.now) _ nodes c.in_ok-nodes.ensures.nodes h))
