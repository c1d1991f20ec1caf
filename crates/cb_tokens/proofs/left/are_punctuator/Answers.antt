use Rattle.std.proofs.Common.{sym}
use Rattle.cb_tokens.proofs.MarksLeft.{some_next, five_left}
use Rattle.cb_tokens.proofs.left.are_punctuator.Goals as goal

pub returns-then-is_some : goal.returns-then-is_some
returns-then-is_some c =
    sym (five_left c.args.first c.in-Some.second c.in-Some-next.third c.in-Some-next-2.fourth c.args.marker.now c.next.new.self c.next-2.new.self c.next-3.new.self c.next-4.new.self c.in-Some.ensures.mark c.in-Some-next.ensures.mark c.in-Some-next-2.ensures.mark
    (some_next c.next-4.result c.next-3.new.self c.next-4.new.self c.next-4.ensures.mark (cc)))
