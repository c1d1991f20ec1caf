use Rattle.cb_compdb.specs.Options.{effects_of}
use Rattle.cb_compdb.specs.Commands.{ops_of}
use Rattle.cb_compdb.proofs.Filtering.{ops_more, ops_end}
use Rattle.cb_compdb.proofs.made.ops_of.Goals as goal

pub effects-preserved : goal.effects-preserved
effects-preserved c =
    ops_more (ops_of (effects_of c.args.words.now)) c.effects.ops c.add_op.new.ops (effects_of c.effects.left.now) (c.in-Some.effect.kind, c.in-Some.effect.text.now) (effects_of c.in-Some.behind.now) c.effects.invariant c.in-Some.ensures.effect c.in_ok-add_op.ensures

pub returns : goal.returns
returns c = ops_end (ops_of (effects_of c.args.words.now)) c.effects.ops (effects_of c.effects.left.now) c.effects.invariant c.in_default.ensures.effect
