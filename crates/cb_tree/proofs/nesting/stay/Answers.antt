use Rattle.std.proofs.Common.{reverse, refl}
use Rattle.cb_tree.proofs.FrameSteps.{stayed, stayed-within}
use Rattle.cb_tree.proofs.nesting.stay.Goals as goal

pub returns : goal.returns
returns c = record {
  places = stayed (reverse c.args.nesting.now.frames.items) c.args.nesting.now.parts.items _ c.args.nesting.now.groups.items _ c.requires c.in_ok-push_plain.ensures;
  depth = refl;
  stacked = stayed-within (reverse c.args.nesting.now.frames.items) c.args.nesting.now.parts.items _ _ _ c.requires c.in_ok-push_plain.ensures;
}
