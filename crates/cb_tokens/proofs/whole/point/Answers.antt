use Rattle.std.proofs.Common.{drop, sym, ap, ◌∙◌, subst, ◌∷◌}
use Rattle.cb_lines.specs.Marks.{marks_of, bytes_of}
use Rattle.cb_tokens.specs.Forms.{is_number_rest, is_punctuator, fits}
use Rattle.cb_tokens.specs.inner.Whole.{IsDecided}
use Rattle.cb_tokens.proofs.MarksLeft.{digit_none, digit_is}
use Rattle.cb_tokens.proofs.Decided.{point_number, point_none}
use Rattle.cb_tokens.proofs.whole.point.Goals as goal

pub returns-then-are_punctuator : goal.returns-then-are_punctuator
unfolding fits
returns-then-are_punctuator c =
    sym (ap (λ ms. is_punctuator (c.args.first ∷ bytes_of ms)) c.behind_first.ensures) ∙ sym c.are_punctuator.ensures ∙ c.if-are_punctuator.true

pub returns-in_default : goal.returns-in_default
returns-in_default c =
    point_none c.args.first (bytes_of (drop 1 (marks_of c.args.bytes.now))) c.requires
    (sym (ap (λ ms. is_punctuator (c.args.first ∷ bytes_of ms)) c.behind_first.ensures) ∙ sym c.are_punctuator.ensures ∙ c.if-are_punctuator.false)
    (digit_none (drop 1 (marks_of c.args.bytes.now)) (sym c.behind_first-2.ensures ∙ c.in_default.ensures.mark))

pub returns-then-not-is_ascii_digit : goal.returns-then-not-is_ascii_digit
returns-then-not-is_ascii_digit c =
    point_none c.args.first (bytes_of (drop 1 (marks_of c.args.bytes.now))) c.requires
    (sym (ap (λ ms. is_punctuator (c.args.first ∷ bytes_of ms)) c.behind_first.ensures) ∙ sym c.are_punctuator.ensures ∙ c.if-are_punctuator.false)
    (digit_is (drop 1 (marks_of c.args.bytes.now)) c.in-Some.second c.next.new.self _ (sym c.behind_first-2.ensures ∙ c.in-Some.ensures.mark) (sym c.is_ascii_digit.ensures.value ∙ c.if-not-is_ascii_digit.true))

pub returns : goal.returns
returns c =
    let ms = drop 1 (marks_of c.args.bytes.now) in
    subst (IsDecided (c.args.first ∷ bytes_of ms)) (sym c.then_some.ensures)
    (point_number c.args.first (bytes_of ms) c.continue_number.result c.requires
    (sym (ap (λ ns. is_punctuator (c.args.first ∷ bytes_of ns)) c.behind_first.ensures) ∙ sym c.are_punctuator.ensures ∙ c.if-are_punctuator.false)
    (digit_is ms c.in-Some.second c.next.new.self _ (sym c.behind_first-2.ensures ∙ c.in-Some.ensures.mark) (sym c.is_ascii_digit.ensures.value ∙ c.if-not-is_ascii_digit.false))
    (c.continue_number.ensures ∙ ap (λ ns. is_number_rest c.args.first (bytes_of ns)) c.behind_first-3.ensures))
