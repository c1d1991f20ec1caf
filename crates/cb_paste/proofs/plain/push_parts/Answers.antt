use Rattle.std.proofs.Common.{◌≡◌, ◌+◌, ◌-◌, ◌++◌, map, take, sym, subst, ◌∙◌, ap, arith}
use Rattle.cb_paste.specs.Sets.{hides}
use Rattle.cb_paste.specs.Shades.{waiting, all_shaded}
use Rattle.cb_paste.specs.Puts.{seen_argument}
use Rattle.cb_paste.specs.inner.Uses.{is_used_plainly, Kept}
use Rattle.cb_paste.specs.inner.Plain.{plain_all}
use Rattle.cb_paste.proofs.Arenas.{extends_length, extends_trans}
use Rattle.cb_paste.proofs.Copies.{arguments_more}
use Rattle.cb_paste.proofs.Moves.{kept_trans}
use Rattle.cb_paste.proofs.Unglued.{used_before, plain_step}
use Rattle.cb_paste.proofs.plain.push_parts.Goals as goal

pub push_part-requires-clause-given : goal.push_part-requires-clause-given
push_part-requires-clause-given c =
    arguments_more _ _ (extends_length c.parts.invariant.kept) c.parts.arguments (c.parts.invariant.others.within _ c.requires.given)

pub parts-preserved : goal.parts-preserved
parts-preserved c =
    let back : c.parts.at ≡ (c.parts.at - 1) + 1 = omega (arith, c.parts-test.true) in
    let others = subst (λ n. Kept (is_used_plainly (take n c.args.parts.now)) c.args.arguments.now c.parts.arguments) back c.parts.invariant.others in
    record {
      put = plain_step c.parts.invariant.kept c.args.extra c.requires.extra c.args.arguments.now c.parts.arguments c.args.parts.now (c.parts.at - 1) c.index-parts-at.result (omega (arith, c.parts.invariant.at, c.parts-test.true)) c.index-parts-at.is c.requires.given others (waiting c.parts.arena c.parts.stack.items) (waiting c.push_part.new.arena c.push_part.new.stack.items) c.in_ok-push_part.ensures.put
          ∙ (ap (λ n. all_shaded (hides c.args.arena.now c.args.extra) (plain_all (map (seen_argument c.args.arena.now) c.args.arguments.now) (take n c.args.parts.now)) ++ waiting c.parts.arena c.parts.stack.items) (sym back)
          ∙ c.parts.invariant.put);
      at = omega (arith, c.parts.invariant.at);
      others = kept_trans _ _ c.args.arguments.now c.parts.arguments _ (used_before c.args.parts.now (c.parts.at - 1)) others c.in_ok-push_part.ensures.others;
      stack = c.in_ok-push_part.ensures.within;
      kept = extends_trans c.parts.invariant.kept c.in_ok-push_part.ensures.kept;
    }
