use Rattle.std.proofs.Common.{◌≡◌, List, length, ap, ◌∙◌, subst, arith}
use Rattle.std.proofs.lemmas.Result.{err_from_is_err_and}
use Rattle.cb_lines.specs.declared.mark.Mark.{Mark}
use Rattle.cb_lines.specs.Marks.{marks_of}
use Rattle.cb_tree.specs.inner.Reads.{AreSound, Refuses}
use Rattle.cb_tree.proofs.Built.{read_sound, read_as, few_marks}
use Rattle.cb_tree.proofs.building.read_source.Goals as goal

pub returns-clause-nodes : goal.returns-clause-nodes
returns-clause-nodes c =
    let walk_is : c.new-walk.result ≡ marks_of c.args.source.now = c.new-walk.ensures ∙ c.in_ok-marks.ensures in
    let P : List Mark → Type 0 = λ ms. AreSound ms c.in_ok-nodes.nodes in
    read_sound c.args.source.now c.in_ok-nodes.nodes c.in_ok-check_size.ensures (subst P walk_is c.in_ok-nodes.ensures.nodes)

pub returns-clause-few : goal.returns-clause-few
returns-clause-few c =
    let walk_is : c.new-walk.result ≡ marks_of c.args.source.now = c.new-walk.ensures ∙ c.in_ok-marks.ensures in
    omega (arith, few_marks c.args.source.now, ap length walk_is, c.in_ok-nodes.ensures.nodes.few, c.in_ok-check_size.ensures.bytes)

pub returns-in_err-nodes-clause-fault : goal.returns-in_err-nodes-clause-fault
returns-in_err-nodes-clause-fault c =
    let walk_is : c.new-walk.result ≡ marks_of c.args.source.now = c.new-walk.ensures ∙ c.in_ok-marks.ensures in
    let p = err_from_is_err_and c.from_residual-in_err-nodes.result c.from_residual-in_err-nodes.ensures.1 in
    let P : List Mark → Type 0 = λ ms. Refuses ms c.in_err-nodes.field-0.0 in
    rw (p.1, p.2) (read_as c.args.source.now c.in_err-nodes.field-0.0 c.in_ok-check_size.ensures (subst P walk_is c.in_err-nodes.ensures.fault))

pub read_nodes-requires : goal.read_nodes-requires
read_nodes-requires c =
    let walk_is : c.new-walk.result ≡ marks_of c.args.source.now = c.new-walk.ensures ∙ c.in_ok-marks.ensures in
    omega (arith, few_marks c.args.source.now, ap length walk_is, c.in_ok-check_size.ensures.bytes)

pub returns-clause-counted : goal.returns-clause-counted
returns-clause-counted c = c.every_reading.ensures.counted c.args.source.now c.in_ok-nodes.nodes (returns-clause-nodes c)
