use Rattle.std.proofs.Common.{◌≡◌, ap, sym, ◌∙◌, subst, arith, true, false, rules}
use Rattle.cb_expand.specs.Arguments.{gather}
use Rattle.cb_expand.specs.inner.Rows.{between}
use Rattle.cb_expand.specs.inner.Works.{seen_all}
use Rattle.cb_expand.specs.inner.Gathers.{IsGathered}
use Rattle.cb_expand.proofs.ByEnds.{none_wrong, none_empty, none_is}
use Rattle.cb_expand.proofs.Resuming.{between_none}
use Rattle.cb_expand.proofs.gathering.argument_ends.Goals as goal

pub returns-then-height-floor : goal.returns-then-height-floor
returns-then-height-floor c = λ sets.
    let z : c.args.count ≡ 0 = omega (arith, c.if-count-gt0.false) in
    ap (λ n. gather c.args.is_variadic n (between c.args.floor c.args.height (seen_all sets c.args.row.now.tokens.items))) z
    ∙ none_empty c.args.is_variadic _ (between_none c.args.floor c.args.height (seen_all sets c.args.row.now.tokens.items) (omega (arith, c.if-height-floor.true)))

pub returns-then-not-is_close : goal.returns-then-not-is_close
returns-then-not-is_close c = λ sets.
    let z : c.args.count ≡ 0 = omega (arith, c.if-count-gt0.false) in
    let n : c.is_close.result ≡ false = search rules in
    ap (λ n. gather c.args.is_variadic n (between c.args.floor c.args.height (seen_all sets c.args.row.now.tokens.items))) z
    ∙ none_wrong sets c.args.row.now.tokens.items c.args.floor c.args.height c.args.is_variadic c.sign.result (omega (arith, c.requires.floor, c.if-height-floor.false)) c.requires.within c.sign.ensures (sym c.is_close.ensures ∙ n)

pub returns : goal.returns
returns c = λ sets.
    let z : c.args.count ≡ 0 = omega (arith, c.if-count-gt0.false) in
    let n : c.is_close.result ≡ true = search rules in
    subst (λ n. IsGathered (gather c.args.is_variadic n (between c.args.floor c.args.height (seen_all sets c.args.row.now.tokens.items))) (seen_all sets c.args.row.now.tokens.items) n c.args.floor c.args.height c.new.result.items false) (sym z)
    (none_is sets c.args.row.now.tokens.items c.args.floor c.args.height c.args.is_variadic c.sign.result c.new.result.items (omega (arith, c.requires.floor, c.if-height-floor.false)) c.requires.within c.sign.ensures (sym c.is_close.ensures ∙ n) c.new.ensures.items)
