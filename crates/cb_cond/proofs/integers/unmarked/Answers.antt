use Rattle.std.proofs.Common.{take, drop, ap, sym, ◌∙◌}
use Rattle.cb_cond.specs.Integers.{with_suffix, behind_mark}
use Rattle.cb_cond.proofs.Leading.{same-front, are-front, behind-whole}
use Rattle.cb_cond.proofs.integers.unmarked.Goals as goal

pub returns-then-not-is_quote_at : goal.returns-then-not-is_quote_at
unfolding behind_mark
returns-then-not-is_quote_at c =
    let base = c.args.base in
    let text = c.args.text.now in
    let n = c.in-Some.len in
    c.ended.ensures base (take n text) (are-front base text n c.requires.hexadecimal c.in-Some.ensures.len c.if-len-gt0.true) c.in-Some.ensures.value
    ∙ ap (with_suffix base (take n text)) (behind-whole text n)
    ∙ ap (λ m. with_suffix base (take m text) (drop m text)) (sym (same-front base text n c.in-Some.ensures.len (sym c.if-not-is_quote_at.ensures)))
