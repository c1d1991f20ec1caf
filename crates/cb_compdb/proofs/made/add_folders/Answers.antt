use Rattle.std.proofs.Common.{◌++◌}
use Rattle.cb_compdb.specs.Options.{effects_of}
use Rattle.cb_compdb.specs.Commands.{folders_of}
use Rattle.cb_compdb.proofs.Filtering.{folders_more, folders_end}
use Rattle.cb_compdb.proofs.made.add_folders.Goals as goal

pub effects-preserved : goal.effects-preserved
effects-preserved c =
    folders_more c.args.kind c.args.work.now (c.args.folders.now ++ folders_of c.args.kind c.args.work.now (effects_of c.args.words.now)) c.effects.folders c.add_folder.new.folders (effects_of c.effects.left.now) (c.in-Some.effect.kind, c.in-Some.effect.text.now) (effects_of c.in-Some.behind.now) c.effects.invariant c.in-Some.ensures.effect c.in_ok-add_folder.ensures

pub returns : goal.returns
returns c =
    folders_end c.args.kind c.args.work.now (c.args.folders.now ++ folders_of c.args.kind c.args.work.now (effects_of c.args.words.now)) c.effects.folders (effects_of c.effects.left.now) c.effects.invariant c.in_default.ensures.effect
