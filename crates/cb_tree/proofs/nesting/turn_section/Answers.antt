use Rattle.std.proofs.Common.{length, reverse, ap, arith, length-append}
use Rattle.cb_tree.specs.declared.nesting.Frame.{Frame}
use Rattle.cb_tree.proofs.FrameSteps.{innermost, turned, turned-within, framed}
use Rattle.cb_tree.proofs.nesting.turn_section.Goals as goal

pub returns : goal.returns
returns c =
    let w = innermost c.args.nesting.now.frames.items c.pop.new.self.items c.in-Some.frame _ _ c.in-Some.ensures.items c.requires.stacked in
    record {
      places =
          rw (framed _ _ _ c.in-Some.ensures.items, framed _ _ _ c.in_ok-push.ensures.items, c.in_ok-end_group.ensures.parts)
          (turned c.in-Some.frame (reverse c.pop.new.self.items) c.args.nesting.now.parts.items c.args.nesting.now.groups.items _ c.args.node w c.in_ok-end_group.ensures.groups);
      depth = omega (arith, ap length c.in_ok-push.ensures.items, ap length c.in-Some.ensures.items, length-append {A = Frame});
      stacked =
          rw (framed _ _ _ c.in_ok-push.ensures.items, c.in_ok-end_group.ensures.parts)
          (turned-within c.in-Some.frame (reverse c.pop.new.self.items) c.args.nesting.now.parts.items c.args.nesting.now.groups.items _ c.args.node w c.in_ok-end_group.ensures.groups);
    }
