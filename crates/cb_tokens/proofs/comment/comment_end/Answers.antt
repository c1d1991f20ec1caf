use Rattle.std.proofs.Common.{arith}
use Rattle.cb_tokens.proofs.Comments.{ahead_start, ahead_more, ahead_here, ahead_end, ahead_run}
use Rattle.cb_tokens.proofs.comment.comment_end.Goals as goal

pub bytes-init : goal.bytes-init
bytes-init c = (omega arith, ahead_start c.args.bytes.now)

pub bytes-preserved : goal.bytes-preserved
bytes-preserved c =
    let within = c.endless_to-n.ensures.within in
    let run = ahead_run c.args.bytes.now c.bytes.n c.endless_to-n.result within.0 (omega (arith, within.1)) c.endless_to-n.ensures.goes c.bytes.invariant.1 in
    (omega (arith, within.1), ahead_more c.args.bytes.now c.endless_to-n.result within.1 (cc) run)

pub returns-then-ends_at : goal.returns-then-ends_at
returns-then-ends_at c =
    let within = c.endless_to-n.ensures.within in
    let run = ahead_run c.args.bytes.now c.bytes.n c.endless_to-n.result within.0 (omega (arith, within.1)) c.endless_to-n.ensures.goes c.bytes.invariant.1 in
    ahead_here c.args.bytes.now c.endless_to-n.result within.1 (cc) run

pub returns : goal.returns
returns c = ahead_end c.args.bytes.now c.bytes.n c.bytes-test.false c.bytes.invariant.1
