-- One more name is the same.
use Rattle.std.proofs.Common.{◌<◌, ◌∙◌, sym, arith, length}
use Rattle.std.proofs.lemmas.List.{take_more_same, get_or_default}
use Rattle.std.proofs.lemmas.Slice.Eq.{bytes_eq-Decides}
use Rattle.cb_macro.proofs.same.same_names.Goals as goal

pub loop-at-preserved : goal.loop-at-preserved
loop-at-preserved c =
    let within : c.loop-at.at < length c.args.others.now = omega arith in
    let same = (bytes_eq-Decides _ _).0 (sym c.if-not-same_bytes.ensures) in
    take_more_same _ _ _ c.index-names-at.result c.loop-at-test.true within c.loop-at.invariant
    (sym c.index-names-at.is ∙ (sym c.as_slice.ensures ∙ (same ∙ (c.as_slice-in-loop-at.ensures ∙ (c.index-others-at.is ∙ get_or_default _ _ _ _ within)))))
