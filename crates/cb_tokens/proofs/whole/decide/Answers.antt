use Rattle.std.proofs.Common.{◌≡◌, ℕ, ◌<◌, Option, None, List, ◌∷◌, sym, ◌∙◌, subst, arith}
use Rattle.cb_lines.specs.declared.mark.Mark.{Mark}
use Rattle.cb_lines.specs.Marks.{marks_of, bytes_of}
use Rattle.cb_tokens.specs.declared.token.TokenKind.{TokenKind}
use Rattle.cb_tokens.specs.declared.class.Class.{Class}
use Rattle.cb_tokens.specs.declared.class.Class.TheVariants as classes
use Rattle.cb_tokens.specs.inner.Classes.{class_of, BeginsIn}
use Rattle.cb_tokens.specs.inner.Whole.{IsDecided}
use Rattle.cb_tokens.proofs.MarksLeft.{none_is, whole_is}
use Rattle.cb_tokens.proofs.Decided.{nothing_decided, white_decided, line_end_decided, name_decided, number_decided, single_decided, operator_decided, slash_decided, stray_decided}
use Rattle.cb_tokens.proofs.whole.decide.Goals as goal

begins : (k : Class) (b : ℕ) (bs : List ℕ) → b < 256 → k ≡ class_of b → BeginsIn k (b ∷ bs)
begins k b bs byte is = record { some = omega arith; byte = byte; is = sym is }

-- what is decided of the first mark and the others is decided of the source
decided : (source : List ℕ) (ms : List Mark) (m : Mark) (rest : List Mark) (r r' : Option TokenKind) → ms ≡ marks_of source → ms ≡ m ∷ rest → r' ≡ r → IsDecided (m.byte ∷ bytes_of rest) r → IsDecided (bytes_of (marks_of source)) r'
decided source ms m rest r r' e f g d =
    subst (IsDecided (bytes_of (marks_of source))) (sym g) (subst (λ ns. IsDecided (bytes_of ns) r) (sym f ∙ e) d)

pub returns-in_default : goal.returns-in_default
returns-in_default c =
    subst (λ ns. IsDecided (bytes_of ns) None) (sym c.in_default.ensures.mark ∙ c.new-marker.ensures) nothing_decided

pub returns-in-White : goal.returns-in-White
returns-in-White c =
    let m = c.in-Some.mark in
    let rest = c.next.new.self in
    subst (λ ns. IsDecided (bytes_of ns) None) (sym c.in-Some.ensures.mark ∙ c.new-marker.ensures)
    (white_decided m.byte (bytes_of rest) (begins classes.White m.byte (bytes_of rest) (omega arith) c.in-White.ensures))

pub returns-in-LineFeed : goal.returns-in-LineFeed
returns-in-LineFeed c =
    let m = c.in-Some.mark in
    let rest = c.next.new.self in
    subst (λ ns. IsDecided (bytes_of ns) None) (sym c.in-Some.ensures.mark ∙ c.new-marker.ensures)
    (line_end_decided m.byte (bytes_of rest) (begins classes.LineFeed m.byte (bytes_of rest) (omega arith) c.in-LineFeed.ensures))

pub returns-in-Name : goal.returns-in-Name
returns-in-Name c =
    let m = c.in-Some.mark in
    let rest = c.next.new.self in
    decided c.args.bytes.now c.new-marker.result m rest _ c.then_some.result c.new-marker.ensures c.in-Some.ensures.mark c.then_some.ensures
    (name_decided m.byte (bytes_of rest) c.are_names.result (begins classes.Name m.byte (bytes_of rest) (omega arith) c.in-Name.ensures) c.are_names.ensures)

pub returns-in-Digit : goal.returns-in-Digit
returns-in-Digit c =
    let m = c.in-Some.mark in
    let rest = c.next.new.self in
    decided c.args.bytes.now c.new-marker.result m rest _ c.then_some-in-Digit.result c.new-marker.ensures c.in-Some.ensures.mark c.then_some-in-Digit.ensures
    (number_decided m.byte (bytes_of rest) c.continue_number.result (begins classes.Digit m.byte (bytes_of rest) (omega arith) c.in-Digit.ensures) c.continue_number.ensures)

pub returns-in-Slash : goal.returns-in-Slash
returns-in-Slash c =
    let m = c.in-Some.mark in
    let rest = c.next.new.self in
    decided c.args.bytes.now c.new-marker.result m rest _ c.then_some-in-Slash.result c.new-marker.ensures c.in-Some.ensures.mark c.then_some-in-Slash.ensures
    (slash_decided m.byte (bytes_of rest) c.are_punctuator.result (begins classes.Slash m.byte (bytes_of rest) (omega arith) c.in-Slash.ensures) c.are_punctuator.ensures)

pub returns-in-Single : goal.returns-in-Single
returns-in-Single c =
    let m = c.in-Some.mark in
    let rest = c.next.new.self in
    decided c.args.bytes.now c.new-marker.result m rest _ c.then_some-in-Single.result c.new-marker.ensures c.in-Some.ensures.mark c.then_some-in-Single.ensures
    (single_decided m.byte (bytes_of rest) c.are_punctuator-in-Single.result (begins classes.Single m.byte (bytes_of rest) (omega arith) c.in-Single.ensures) c.are_punctuator-in-Single.ensures)

pub returns-in-Operator : goal.returns-in-Operator
returns-in-Operator c =
    let m = c.in-Some.mark in
    let rest = c.next.new.self in
    decided c.args.bytes.now c.new-marker.result m rest _ c.then_some-in-Operator.result c.new-marker.ensures c.in-Some.ensures.mark c.then_some-in-Operator.ensures
    (operator_decided m.byte (bytes_of rest) c.are_punctuator-in-Operator.result (begins classes.Operator m.byte (bytes_of rest) (omega arith) c.in-Operator.ensures) c.are_punctuator-in-Operator.ensures)

pub returns-in-Stray : goal.returns-in-Stray
returns-in-Stray c =
    let m = c.in-Some.mark in
    let rest = c.next.new.self in
    decided c.args.bytes.now c.new-marker.result m rest _ c.then_some-in-Stray.result c.new-marker.ensures c.in-Some.ensures.mark c.then_some-in-Stray.ensures
    (stray_decided m.byte (bytes_of rest) c.is_none.result (begins classes.Stray m.byte (bytes_of rest) (omega arith) c.in-Stray.ensures) (none_is c.next-in-Stray.result rest c.next-in-Stray.new.self c.is_none.result c.next-in-Stray.ensures.mark c.is_none.ensures))

pub returns-in-Prefix : goal.returns-in-Prefix
returns-in-Prefix c =
    subst (λ l. IsDecided l c.prefixed.result) (whole_is (marks_of c.args.bytes.now) c.in-Some.mark c.next.new.self (sym c.new-marker.ensures ∙ c.in-Some.ensures.mark)) c.prefixed.ensures

pub returns-in-Point : goal.returns-in-Point
returns-in-Point c =
    subst (λ l. IsDecided l c.point.result) (whole_is (marks_of c.args.bytes.now) c.in-Some.mark c.next.new.self (sym c.new-marker.ensures ∙ c.in-Some.ensures.mark)) c.point.ensures
