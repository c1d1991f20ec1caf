use Rattle.std.proofs.Common.{[], refl}
use Rattle.cb_paths.proofs.trail.Trail.new.Goals as goal

pub returns : goal.returns
returns c = record {
  ups = [];
  back = [];
  is_normal = refl;
  up = refl;
  plain = refl;
  text = c.new.ensures.items;
  starts = c.new-2.ensures.items;
  climbed = refl;
}
