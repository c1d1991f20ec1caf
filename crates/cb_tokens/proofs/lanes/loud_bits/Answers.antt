use Rattle.std.proofs.Common.{sym, ap, ◌∙◌}
use Rattle.cb_tokens.specs.Plain.{is_quiet}
use Rattle.cb_tokens.proofs.Masks.{some_loud, none_loud}
use Rattle.cb_tokens.proofs.lanes.loud_bits.Goals as goal

pub returns-clause-loud : goal.returns-clause-loud
returns-clause-loud c = λ k h.
    let l = some_loud c.load-ahead.result c.bits_of.result c.bits_of-2.result c.bits_of-3.result c.bits_of-4.result k c.bits_of.ensures.within c.bits_of-2.ensures.within c.bits_of-3.ensures.within c.bits_of-4.ensures.within
    c.bits_of.ensures.there c.bits_of-2.ensures.there c.bits_of-3.ensures.there c.bits_of-4.ensures.there h in
    (l.0, ap is_quiet (sym (c.load-ahead.ensures.each k l.0)) ∙ l.1)

pub returns-clause-quiet : goal.returns-clause-quiet
returns-clause-quiet c = λ k lt h.
    ap is_quiet (sym (c.load-ahead.ensures.each k lt))
    ∙ none_loud c.load-ahead.result c.bits_of.result c.bits_of-2.result c.bits_of-3.result c.bits_of-4.result k c.bits_of.ensures.there c.bits_of-2.ensures.there c.bits_of-3.ensures.there c.bits_of-4.ensures.there h
