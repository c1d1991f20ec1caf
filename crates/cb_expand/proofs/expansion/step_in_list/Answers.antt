use Rattle.std.proofs.Common.{arith}
use Rattle.cb_expand.proofs.Runs.{some_frames}
use Rattle.cb_expand.proofs.expansion.step_in_list.Goals as goal

pub returns-clause-steps : goal.returns-clause-steps
returns-clause-steps c =
    let ms = c.args.macros.now in
    let w = c.args.work.now in
    let h = c.requires.work in
    c.in_ok-call.ensures ms c.args.mode h (some_frames ms w h.frames (omega (arith, c.len.ensures, w.row.tokens.ok.0)) c.requires.more)
