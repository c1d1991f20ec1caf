use Rattle.std.proofs.Common.{length, reverse, ap, arith, length-append}
use Rattle.cb_tree.specs.declared.nesting.Frame.{Frame}
use Rattle.cb_tree.proofs.FrameSteps.{innermost, framed, closed, closed-within}
use Rattle.cb_tree.proofs.nesting.close_section.Goals as goal

pub returns : goal.returns
returns c =
    let w = innermost c.args.nesting.now.frames.items c.pop.new.self.items c.in-Some.frame _ _ c.in-Some.ensures.items c.requires.stacked in
    let r = rw (c.in_ok-end_group.ensures.parts, c.in_ok-groups.ensures.top) at c.in_ok-push_section.ensures in
    record {
      places =
          rw (framed _ _ _ c.in-Some.ensures.items, c.in_ok-groups.ensures.rest)
          (closed c.in-Some.frame (reverse c.pop.new.self.items) c.args.nesting.now.parts.items _ c.args.nesting.now.groups.items _ c.args.node w c.in_ok-end_group.ensures.groups r);
      depth = omega (arith, ap length c.in-Some.ensures.items, length-append {A = Frame});
      stacked =
          rw c.in_ok-groups.ensures.rest
          (closed-within c.in-Some.frame (reverse c.pop.new.self.items) c.args.nesting.now.parts.items _ c.args.nesting.now.groups.items _ _ w c.in_ok-end_group.ensures.groups r);
    }
