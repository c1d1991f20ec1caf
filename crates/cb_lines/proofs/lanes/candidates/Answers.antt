use Rattle.std.proofs.Common.{◌≡◌, ℕ, ◌+◌, get_or, ap, ◌∙◌, arith}
use Rattle.cb_lines.proofs.Candidates.{either_found, both_found, found_within}
use Rattle.cb_lines.proofs.lanes.candidates.Goals as goal

pub returns-clause-set : goal.returns-clause-set
returns-clause-set c = λ k low special ending.
    let next : c.args.at + 1 + k ≡ c.args.at + k + 1 = omega arith in
    let behind : get_or c.load-behind.result k 0 ≡ get_or c.args.source.now (c.args.at + k + 1) 0 = c.load-behind.ensures.each k low ∙ ap (λ (i : ℕ). get_or c.args.source.now i 0) next in
    both_found _ _ k
    (either_found c.load-here.result 92 13 c.bits_of.result c.bits_of-2.result k _ c.bits_of.ensures.there c.bits_of-2.ensures.there (c.load-here.ensures.each k low) special)
    (either_found c.load-behind.result 10 13 c.bits_of-3.result c.bits_of-4.result k _ c.bits_of-3.ensures.there c.bits_of-4.ensures.there behind ending)

pub returns-clause-within : goal.returns-clause-within
returns-clause-within c = λ k h. found_within c.bits_of.result c.bits_of-2.result _ k c.bits_of.ensures.within c.bits_of-2.ensures.within h
