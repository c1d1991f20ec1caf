use Rattle.std.proofs.Common.{◌≡◌, [], ◌∷◌, ◌++◌, subst, arith}
use Rattle.std.specs.List.{filter_map}
use Rattle.cb_words.specs.Values.{plain_word}
use Rattle.cb_words.proofs.Lists.{words_more}
use Rattle.cb_words.proofs.values.all_plain_words.Goals as goal

pub parts-preserved : goal.parts-preserved
parts-preserved c =
    words_more c.args.parts.now c.parts.part-index c.part-item.result c.parts.words c.push_plain_word.new.words (omega (arith, c.parts-test.true)) c.parts.invariant
    (subst (λ p. c.push_plain_word.new.words ≡ c.parts.words ++ filter_map plain_word (p ∷ [])) c.part-item.is c.in_ok-push_plain_word.ensures)
