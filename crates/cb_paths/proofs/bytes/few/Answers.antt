use Rattle.std.proofs.Common.{◌<◌, ◌≤◌, length, get_or, ap, sym, ◌++◌, ◌∷◌, [], ◌∙◌, arith}
use Rattle.std.proofs.lemmas.List.{take_more, take_more_set, length-set}
use Rattle.cb_paths.proofs.bytes.few.Goals as goal

pub loop-i-preserved : goal.loop-i-preserved
loop-i-preserved c =
    let few : length c.args.bytes.now ≤ 14 = c.requires in
    let within : c.loop-i.i < length c.loop-i.held = omega (arith, c.loop-i-test.true, few, c.loop-i.invariant.1) in (
      take_more_set c.loop-i.held c.loop-i.i (get_or c.args.bytes.now c.loop-i.i 0) within
          ∙ (ap (λ bytes. bytes ++ get_or c.args.bytes.now c.loop-i.i 0 ∷ []) c.loop-i.invariant.0
          ∙ sym (take_more c.args.bytes.now c.loop-i.i 0 c.loop-i-test.true)),
      length-set c.loop-i.held c.loop-i.i (get_or c.args.bytes.now c.loop-i.i 0) ∙ c.loop-i.invariant.1,
    )
