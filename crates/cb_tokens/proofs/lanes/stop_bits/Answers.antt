use Rattle.std.proofs.Common.{sym, ap, ◌∙◌}
use Rattle.cb_tokens.specs.inner.Scan.{is_inner}
use Rattle.cb_tokens.proofs.Masks.{some_stop, none_stops}
use Rattle.cb_tokens.proofs.lanes.stop_bits.Goals as goal

pub returns-clause-within : goal.returns-clause-within
returns-clause-within c = λ k h.
    some_stop c.bits_of.result c.bits_of-2.result c.bits_of-3.result k c.bits_of.ensures.within c.bits_of-2.ensures.within c.bits_of-3.ensures.within h

pub returns-clause-inner : goal.returns-clause-inner
returns-clause-inner c = λ k lt h.
    ap (is_inner c.args.quote) (sym (c.load-ahead.ensures.each k lt))
    ∙ none_stops c.load-ahead.result c.args.quote c.bits_of.result c.bits_of-2.result c.bits_of-3.result k c.bits_of.ensures.there c.bits_of-2.ensures.there c.bits_of-3.ensures.there h
