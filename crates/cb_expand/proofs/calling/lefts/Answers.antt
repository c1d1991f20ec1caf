use Rattle.std.proofs.Common.{◌≡◌, ◌-◌, suc, length, drop, subst, arith}
use Rattle.std.specs.Prelude.{reverse}
use Rattle.std.proofs.lemmas.List.{drop_all}
use Rattle.cb_expand.specs.inner.Lefts.{AreLefts, begin_of}
use Rattle.cb_expand.proofs.Begun.{begin_within, end_below, lefts_none, lefts_more}
use Rattle.cb_expand.proofs.calling.lefts.Goals as goal

pub left_of-requires-clause-end : goal.left_of-requires-clause-end
left_of-requires-clause-end c =
    omega (arith, end_below c.args.height c.args.ends.now (c.ends.at - 1) c.requires.descending (omega (arith, c.ends.invariant.within, c.ends-test.true)), c.begin_below-from.ensures)

pub left_of-requires-clause-from : goal.left_of-requires-clause-from
left_of-requires-clause-from c =
    omega (arith, begin_within c.args.height c.args.ends.now (c.ends.at - 1) c.requires.descending (omega (arith, c.ends.invariant.within)), c.begin_below-from.ensures, c.requires.height)

pub ends-init : goal.ends-init
ends-init c = record {
  within = omega arith;
  left = lefts_none _ _ _ _ _ _ (drop_all (length c.args.ends.now) c.args.ends.now (omega arith)) c.in_ok-lefts.ensures.items;
}

pub ends-preserved : goal.ends-preserved
ends-preserved c =
    let n : c.ends.at ≡ suc (c.ends.at - 1) = omega (arith, c.ends-test.true) in
    record {
      within = omega (arith, c.ends.invariant.within);
      left = lefts_more _ _ c.args.height c.args.ends.now (c.ends.at - 1) c.ends.at _ _ _ _ (omega (arith, c.ends.invariant.within, c.ends-test.true)) n c.begin_below-from.ensures
          c.in_ok-left.ensures c.ends.invariant.left c.in_ok-push.ensures.items;
    }

pub returns : goal.returns
returns c =
    let z : c.ends.at ≡ 0 = omega (arith, c.ends-test.false) in
    subst (λ n. AreLefts c.args.body.now c.args.tokens.now n (begin_of c.args.height c.args.ends.now n) (drop n c.args.ends.now) (reverse c.ends.lefts.items)) z c.ends.invariant.left
