use Rattle.std.proofs.Common.{◌∷◌, refl, ap, sym, ◌∙◌, get_or}
use Rattle.cb_lines.specs.Marks.{bytes_of}
use Rattle.cb_tokens.specs.Forms.{is_quote}
use Rattle.cb_tokens.proofs.MarksLeft.{two_first}
use Rattle.cb_tokens.proofs.Decided.{prefix_char_at, prefix_string_at, prefix_other_at, u8_at, not_u, not_8, not_quote}
use Rattle.cb_tokens.proofs.whole.prefixed_quote.Goals as goal

pub quote_left-requires : goal.quote_left-requires
unfolding is_quote
quote_left-requires c = refl

pub quote_left-requires-then-second-eq34 : goal.quote_left-requires-then-second-eq34
unfolding is_quote
quote_left-requires-then-second-eq34 c = refl

pub quote_left-requires-2 : goal.quote_left-requires-2
unfolding is_quote
quote_left-requires-2 c = refl

pub returns-then-second-eq39 : goal.returns-then-second-eq39
returns-then-second-eq39 c =
    prefix_char_at c.args.first (bytes_of c.args.marker.now) (bytes_of c.next.new.self) c.quote_left.result c.closed_as.result c.requires.letter c.requires.no_name
    (ap bytes_of c.in-Some.ensures.mark ∙ ap (λ v. v ∷ bytes_of c.next.new.self) c.if-second-eq39.true) c.quote_left.ensures c.closed_as.ensures

pub returns-then-second-eq34 : goal.returns-then-second-eq34
returns-then-second-eq34 c =
    prefix_string_at c.args.first (bytes_of c.args.marker.now) (bytes_of c.next.new.self) c.quote_left-then-second-eq34.result c.closed_as-then-second-eq34.result c.requires.letter c.requires.no_name
    (ap bytes_of c.in-Some.ensures.mark ∙ ap (λ v. v ∷ bytes_of c.next.new.self) c.if-second-eq34.true) c.quote_left-then-second-eq34.ensures c.closed_as-then-second-eq34.ensures

pub returns-then-first-ne117 : goal.returns-then-first-ne117
returns-then-first-ne117 c =
    prefix_other_at c.args.first c.in-Some.second.byte (bytes_of c.args.marker.now) (bytes_of c.next.new.self) c.requires.letter c.requires.no_name
    (ap bytes_of c.in-Some.ensures.mark) c.if-second-eq39.false c.if-second-eq34.false (not_u c.args.first c.in-Some.second.byte _ c.if-first-ne117.true)

pub returns-then-second-ne56 : goal.returns-then-second-ne56
returns-then-second-ne56 c =
    prefix_other_at c.args.first c.in-Some.second.byte (bytes_of c.args.marker.now) (bytes_of c.next.new.self) c.requires.letter c.requires.no_name
    (ap bytes_of c.in-Some.ensures.mark) c.if-second-eq39.false c.if-second-eq34.false (not_8 c.args.first c.in-Some.second.byte _ c.if-second-ne56.true)

pub returns-in_default-next : goal.returns-in_default-next
returns-in_default-next c =
    prefix_other_at c.args.first c.in-Some.second.byte (bytes_of c.args.marker.now) (bytes_of c.next.new.self) c.requires.letter c.requires.no_name
    (ap bytes_of c.in-Some.ensures.mark) c.if-second-eq39.false c.if-second-eq34.false
    (not_quote c.args.first c.in-Some.second.byte _ (λ e. absurd (cc (ap (λ ms. get_or (bytes_of ms) 0 0) c.in_default-next.ensures.mark))))

pub returns-then-third-ne34 : goal.returns-then-third-ne34
returns-then-third-ne34 c =
    prefix_other_at c.args.first c.in-Some.second.byte (bytes_of c.args.marker.now) (bytes_of c.next.new.self) c.requires.letter c.requires.no_name
    (ap bytes_of c.in-Some.ensures.mark) c.if-second-eq39.false c.if-second-eq34.false
    (not_quote c.args.first c.in-Some.second.byte _ (λ e. c.if-third-ne34.true (sym (ap (λ ms. get_or (bytes_of ms) 0 0) c.in-Some-next.ensures.mark) ∙ e)))

pub returns : goal.returns
returns c =
    u8_at c.args.first (bytes_of c.args.marker.now) (bytes_of c.next-2.new.self) c.quote_left-2.result c.closed_as-2.result c.requires.letter c.requires.no_name c.if-first-ne117.false
    (two_first c.args.marker.now c.next.new.self c.next-2.new.self c.in-Some.second c.in-Some-next.third 56 34 c.in-Some.ensures.mark c.in-Some-next.ensures.mark c.if-second-ne56.false c.if-third-ne34.false)
    c.quote_left-2.ensures c.closed_as-2.ensures
