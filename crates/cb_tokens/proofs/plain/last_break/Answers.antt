use Rattle.std.proofs.Common.{arith}
use Rattle.cb_tokens.proofs.QuietEnds.{break_at}
use Rattle.cb_tokens.proofs.plain.last_break.Goals as goal

pub returns-then-may_go_on-clause-stops : goal.returns-then-may_go_on-clause-stops
returns-then-may_go_on-clause-stops c = λ lt.
    let end = c.last_end_of_white-then-may_go_on in
    let within = end.ensures.within in
    break_at c.args.bytes.now c.args.from end.result (omega (arith, within, c.requires.within)) (λ k from before. c.requires.quiet k from (omega (arith, within))) (end.ensures.ends lt) lt
