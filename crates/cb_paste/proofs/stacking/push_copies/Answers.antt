use Rattle.std.proofs.Common.{◌∷◌, ◌++◌, ◌-◌, map, length, take, ◌∙◌, ap, arith}
use Rattle.cb_paste.specs.Sets.{hides}
use Rattle.cb_paste.specs.Shades.{seen, waiting, shaded, all_shaded}
use Rattle.cb_paste.proofs.Arenas.{extends_length, extends_trans}
use Rattle.cb_paste.proofs.Stacks.{token_step, take_back, in_at}
use Rattle.cb_paste.proofs.stacking.push_copies.Goals as goal

pub push_token-requires-clause-token : goal.push_token-requires-clause-token
push_token-requires-clause-token c =
    omega
    (arith, in_at (length c.args.arena.now) c.args.tokens.now (c.tokens.at - 1) c.index-tokens-at.result (omega (arith, c.tokens.invariant.at, c.tokens-test.true)) c.index-tokens-at.is c.requires.tokens, ap (λ t. t.hides) c.in_ok-token.ensures, extends_length c.tokens.invariant.kept)

pub tokens-preserved : goal.tokens-preserved
tokens-preserved c = record {
  put = token_step c.tokens.invariant.kept c.args.extra c.requires.extra (take (c.tokens.at - 1) c.args.tokens.now) c.index-tokens-at.result
      (in_at (length c.args.arena.now) c.args.tokens.now (c.tokens.at - 1) c.index-tokens-at.result (omega (arith, c.tokens.invariant.at, c.tokens-test.true)) c.index-tokens-at.is c.requires.tokens) (waiting c.tokens.arena c.tokens.stack.items) (waiting c.push_token.new.arena c.push_token.new.stack.items)
      (c.in_ok-push_token.ensures.put ∙ ap (λ t. shaded (hides c.tokens.arena c.args.extra) (seen c.tokens.arena t) ∷ waiting c.tokens.arena c.tokens.stack.items) c.in_ok-token.ensures)
      ∙ (ap (λ l. all_shaded (hides c.args.arena.now c.args.extra) (map (seen c.args.arena.now) l) ++ waiting c.tokens.arena c.tokens.stack.items)
      (take_back c.args.tokens.now (c.tokens.at - 1) c.tokens.at c.index-tokens-at.result (omega (arith, c.tokens-test.true)) (omega (arith, c.tokens.invariant.at, c.tokens-test.true)) c.index-tokens-at.is)
      ∙ c.tokens.invariant.put);
  at = omega (arith, c.tokens.invariant.at);
  stack = c.in_ok-push_token.ensures.within;
  kept = extends_trans c.tokens.invariant.kept c.in_ok-push_token.ensures.kept;
}
