use Rattle.std.proofs.Common.{◌++◌, map, length, sym, subst, ◌∙◌, ap, arith}
use Rattle.cb_paste.specs.Sets.{hides}
use Rattle.cb_paste.specs.Shades.{seen, waiting, all_shaded, AreIn}
use Rattle.cb_paste.proofs.Arenas.{extends_length, extends_trans}
use Rattle.cb_paste.proofs.Stacks.{token_step, in_front}
use Rattle.cb_paste.proofs.stacking.push_moved.Goals as goal

pub push_token-requires-clause-token : goal.push_token-requires-clause-token
push_token-requires-clause-token c =
    let old = in_front (length c.args.arena.now) c.pop.new.self.items c.in-Some.token (subst (λ l. AreIn (length c.args.arena.now) l) c.in-Some.ensures.items c.tokens.invariant.tokens) in
    omega (arith, old.1, extends_length c.tokens.invariant.kept)

pub tokens-preserved : goal.tokens-preserved
tokens-preserved c =
    let old = in_front (length c.args.arena.now) c.pop.new.self.items c.in-Some.token (subst (λ l. AreIn (length c.args.arena.now) l) c.in-Some.ensures.items c.tokens.invariant.tokens) in
    record {
      put = token_step c.tokens.invariant.kept c.args.extra c.requires.extra c.pop.new.self.items c.in-Some.token old.1 (waiting c.tokens.arena c.tokens.stack.items) (waiting c.push_token.new.arena c.push_token.new.stack.items) c.in_ok-push_token.ensures.put
          ∙ (ap (λ l. all_shaded (hides c.args.arena.now c.args.extra) (map (seen c.args.arena.now) l) ++ waiting c.tokens.arena c.tokens.stack.items) (sym c.in-Some.ensures.items)
          ∙ c.tokens.invariant.put);
      tokens = old.0;
      stack = c.in_ok-push_token.ensures.within;
      kept = extends_trans c.tokens.invariant.kept c.in_ok-push_token.ensures.kept;
    }
