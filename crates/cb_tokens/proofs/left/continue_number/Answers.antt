use Rattle.std.proofs.Common.{sym}
use Rattle.cb_tokens.proofs.MarksLeft.{number_begin, number_turn, number_stop, number_done}
use Rattle.cb_tokens.proofs.left.continue_number.Goals as goal

pub marks-init : goal.marks-init
marks-init c = number_begin c.args.before c.args.marker.now c.next-next.result c.next-next.new.self c.next-next.ensures.mark

pub returns-then-not-continues_number : goal.returns-then-not-continues_number
returns-then-not-continues_number c =
    sym (number_stop c.args.before c.marks.last c.args.marker.now c.marks.next c.marks.marker c.in-Some.mark c.next-after.result c.next-after.new.self c.marks.invariant c.in-Some.is c.next-after.ensures.mark (cc))

pub marks-preserved : goal.marks-preserved
marks-preserved c =
    number_turn c.args.before c.marks.last c.args.marker.now c.marks.next c.marks.marker c.in-Some.mark c.next-after.result c.next-after.new.self c.marks.invariant c.in-Some.is c.next-after.ensures.mark (cc)

pub returns : goal.returns
returns c = sym (number_done c.args.before c.marks.last c.args.marker.now c.marks.next c.marks.marker c.marks.invariant c.in_default.is)
