use Rattle.std.proofs.Common.{ℕ, List, get_or, ap, ◌∙◌, arith}
use Rattle.cb_tokens.proofs.Stretches.{plain_token}
use Rattle.cb_tokens.proofs.Feeds.{token_no_feed}
use Rattle.cb_tokens.proofs.plain.tokens_over.Goals as goal

pub tokens-preserved : goal.tokens-preserved
tokens-preserved c =
    let bs : List ℕ = c.args.bytes.now in
    let next = c.in-Some.ensures.within in
    record {
      within = (omega (arith, next.0, c.tokens.invariant.within.0), next.1);
      plain = λ p. plain_token bs c.tokens.at c.in-Some.next next.0 c.in-Some.ensures.token (c.tokens.invariant.plain p);
      no_feed = λ f. token_no_feed bs c.tokens.at c.in-Some.next (c.tokens.invariant.no_feed f) c.in-Some.ensures.token;
      line = λ h. absurd (c.in-Some.ensures.line (ap (λ (i : ℕ). get_or bs i 0) (c.tokens.invariant.line h) ∙ h));
    }
