use Rattle.std.proofs.Common.{◌≡◌, ℕ, ◌+◌, get_or, sym, ap, ◌∙◌, arith}
use Rattle.cb_tokens.specs.inner.Scan.{ends_with}
use Rattle.cb_tokens.proofs.Masks.{both_there, not_both}
use Rattle.cb_tokens.proofs.lanes.end_bits.Goals as goal

pub returns-clause-within : goal.returns-clause-within
returns-clause-within c = λ k h. both_there c.bits_of.result c.bits_of-2.result k c.bits_of.ensures.within h

pub returns-clause-goes : goal.returns-clause-goes
returns-clause-goes c = λ k lt h.
    let next : c.args.at + 1 + k ≡ c.args.at + k + 1 = omega arith in
    let second : get_or c.load-2.result k 0 ≡ get_or c.args.bytes.now (c.args.at + k + 1) 0 = c.load-2.ensures.each k lt ∙ ap (λ (i : ℕ). get_or c.args.bytes.now i 0) next in
    ap (λ (x : ℕ). ends_with x (get_or c.args.bytes.now (c.args.at + k + 1) 0)) (sym (c.load.ensures.each k lt)) ∙ ap (ends_with (get_or c.load.result k 0)) (sym second)
    ∙ not_both c.load.result c.load-2.result c.bits_of.result c.bits_of-2.result k c.bits_of.ensures.there c.bits_of-2.ensures.there h
