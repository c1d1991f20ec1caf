use Rattle.std.proofs.Common.{◌<◌, [], ◌++◌, length, ap, ◌∙◌, arith}
use Rattle.std.specs.Prelude.{if◌then◌else◌}
use Rattle.cb_pass.specs.Reached.{has_bit}
use Rattle.codebasin.specs.Texts.{numbers_text}
use Rattle.codebasin.proofs.ReachedLines.{text_more}
use Rattle.codebasin.proofs.reached.reached_text.Goals as goal

pub nodes-preserved : goal.nodes-preserved
nodes-preserved c =
    let tree = c.args.tree.now in
    let index = c.nodes.index in
    let counted = c.counted.result.now in
    let text = c.nodes.text.items in
    let within : index < length tree = omega (arith, c.len-index-end.ensures.count, c.nodes-test.true) in
    let added = c.in_ok-push_where.ensures ∙ ap (λ r. text ++ numbers_text (if r then counted else [])) c.has.ensures in
    text_more (has_bit c.args.row.now) tree index counted text c.push_where.new.text.items within c.counted.ensures.lines added
    ∙ c.nodes.invariant
