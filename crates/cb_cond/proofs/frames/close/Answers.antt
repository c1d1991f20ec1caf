use Rattle.std.proofs.Common.{◌+◌, drop, ap, sym, ◌∙◌, arith}
use Rattle.cb_cond.specs.inner.Frames.{closed}
use Rattle.cb_cond.proofs.Closing.{closed-next, closed-stops, closed-end}
use Rattle.cb_cond.proofs.frames.close.Goals as goal

pub returns-then-not-ends_at-clause-value : goal.returns-then-not-ends_at-clause-value
returns-then-not-ends_at-clause-value c =
    sym (closed-stops c.args.level c.args.frames.now c.frames.top _ c.frames.operand c.frames-test.true (sym c.if-not-ends_at.ensures)) ∙ c.frames.invariant.value

pub frames-preserved : goal.frames-preserved
frames-preserved c = record {
  value =
      ap (closed c.args.level (drop (c.frames.top + 1) c.args.frames.now)) c.join-operand.ensures
      ∙ sym (closed-next c.args.level c.args.frames.now c.frames.top _ c.frames.operand c.frames-test.true (sym c.if-not-ends_at.ensures))
      ∙ c.frames.invariant.value;
  above = omega arith;
  within = omega arith;
}

pub returns-clause-value : goal.returns-clause-value
returns-clause-value c =
    sym (closed-end c.args.level c.args.frames.now c.frames.top c.frames.operand c.frames-test.false) ∙ c.frames.invariant.value
