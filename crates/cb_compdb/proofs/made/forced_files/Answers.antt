use Rattle.cb_compdb.specs.Options.{effects_of}
use Rattle.cb_compdb.specs.Commands.{texts_of}
use Rattle.cb_compdb.specs.declared.form.OptionKind.TheVariants.{ForcedFile}
use Rattle.cb_compdb.proofs.Filtering.{texts_more, texts_end}
use Rattle.cb_compdb.proofs.made.forced_files.Goals as goal

pub effects-preserved : goal.effects-preserved
effects-preserved c =
    texts_more ForcedFile (texts_of ForcedFile (effects_of c.args.words.now)) c.effects.texts c.add_text.new.texts (effects_of c.effects.left.now) (c.in-Some.effect.kind, c.in-Some.effect.text.now) (effects_of c.in-Some.behind.now) c.effects.invariant c.in-Some.ensures.effect c.in_ok-add_text.ensures

pub returns : goal.returns
returns c =
    texts_end ForcedFile (texts_of ForcedFile (effects_of c.args.words.now)) c.effects.texts (effects_of c.effects.left.now) c.effects.invariant c.in_default.ensures.effect
