use Rattle.std.proofs.Common.{◌≡◌, ℕ, ◌+◌, true, get_or, sym, arith, ◌<◌, inl, inr}
use Rattle.std.proofs.lemmas.Bool.{cases_lt}
use Rattle.std.proofs.lemmas.List.Sums.{prefix_len_is}
use Rattle.cb_tokens.specs.Forms.{is_name_byte}
use Rattle.cb_tokens.proofs.Masks.{pass_on}
use Rattle.cb_tokens.proofs.runs.name_len.Goals as goal

pub returns-then-len-lt16 : goal.returns-then-len-lt16
returns-then-len-lt16 c =
    let len : ℕ = c.name_len_of_16-len.result in
    let names = pass_on (λ (k : ℕ). is_name_byte (get_or c.args.bytes.now k 0)) true 0 c.lanes.at len c.lanes.invariant.names c.name_len_of_16-len.ensures.names in
    sym (prefix_len_is is_name_byte c.args.bytes.now (c.lanes.at + len) 0 (omega arith) (λ k lt. names k (omega arith) lt) (λ lt. c.name_len_of_16-len.ensures.stops c.if-len-lt16.true))

pub lanes-preserved : goal.lanes-preserved
lanes-preserved c =
    let few = c.name_len_of_16-len.ensures.few in
    let all : c.name_len_of_16-len.result ≡ 16 = omega arith in
    record {
      within = omega arith;
      names = pass_on (λ (k : ℕ). is_name_byte (get_or c.args.bytes.now k 0)) true 0 c.lanes.at 16 c.lanes.invariant.names (λ k lt. c.name_len_of_16-len.ensures.names k (omega arith));
    }

pub returns : goal.returns
returns c =
    let names : (k : ℕ) → k < c.name_end.result → is_name_byte (get_or c.args.bytes.now k 0) ≡ true = λ k lt.
    elim (cases_lt k c.lanes.at) [ inl l ↦ c.lanes.invariant.names k (omega arith) l | inr ge ↦ c.name_end.ensures.names k ge lt ] in
    sym (prefix_len_is is_name_byte c.args.bytes.now c.name_end.result 0 (omega (arith, c.name_end.ensures.within.1)) names (λ lt. c.name_end.ensures.stops lt))
