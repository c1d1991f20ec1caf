use Rattle.std.proofs.Common.{◌++◌, ◌∙◌, ap}
use Rattle.cb_pass.proofs.Joined.{begins, goes_on, ends, over, tested}
use Rattle.cb_pass.proofs.header.up_to_greater.Goals as goal

pub tokens-init : goal.tokens-init
tokens-init c = begins c.new-text.result.items c.args.tokens.now c.new-text.ensures.items

pub tokens-preserved : goal.tokens-preserved
tokens-preserved c =
    goes_on c.args.tokens.now c.tokens.token-index c.token-item.result c.tokens.text.items c.push_space.new.text.items c.extend_from_slice.new.self.items _
    c.tokens-test.true c.token-item.is (tested c.eq.result _ _ _ _ _ c.eq.ensures c.as_slice.ensures c.as_slice-in-tokens.ensures c.if-eq.false)
    c.in_ok-push_space.ensures
    (c.in_ok-extend_from_slice.ensures.items ∙ ap (λ word. c.push_space.new.text.items ++ word) c.as_slice-in-tokens-2.ensures)
    c.tokens.invariant

pub returns-then-eq : goal.returns-then-eq
returns-then-eq c =
    ends c.args.tokens.now c.tokens.token-index c.token-item.result c.tokens.text.items c.push_space.new.text.items _
    c.tokens-test.true c.token-item.is (tested c.eq.result _ _ _ _ _ c.eq.ensures c.as_slice.ensures c.as_slice-in-tokens.ensures c.if-eq.true)
    c.in_ok-push_space.ensures c.tokens.invariant

pub returns : goal.returns
returns c = over c.args.tokens.now c.tokens.token-index c.tokens.text.items _ c.tokens-test.false c.tokens.invariant
