use Rattle.std.proofs.Common.{◌+◌, drop, Some, ap, ◌∙◌}
use Rattle.std.specs.Option.{option_map}
use Rattle.cb_words.specs.Parts.{Given, joined_at}
use Rattle.cb_words.proofs.Lists.{take_rest}
use Rattle.cb_words.proofs.cutting.joined.Goals as goal

pub returns-in_default : goal.returns-in_default
returns-in_default c = ap (joined_at c.args.options.now c.args.word.now) c.in_default.ensures.value

pub returns-in_default-option_named : goal.returns-in_default-option_named
returns-in_default-option_named c =
    ap (option_map (λ option. Given option (drop (c.in-Some.at + 1) c.args.word.now))) c.in_default-option_named.ensures
    ∙ ap (joined_at c.args.options.now c.args.word.now) c.in-Some.ensures.value

pub returns : goal.returns
returns c =
    ap (λ value. Some (Given c.in-Some-option_named.option value)) (take_rest c.args.word.now (c.in-Some.at + 1))
    ∙ (ap (option_map (λ option. Given option (drop (c.in-Some.at + 1) c.args.word.now))) c.in-Some-option_named.ensures
    ∙ ap (joined_at c.args.options.now c.args.word.now) c.in-Some.ensures.value)
