use Rattle.std.proofs.Common.{◌++◌, ◌∷◌, [], true, map, ◌∙◌, ap, arith}
use Rattle.std.proofs.lemmas.List.{take_all}
use Rattle.cb_paste.specs.Shades.{seen}
use Rattle.cb_paste.specs.Strings.{spelled_all}
use Rattle.cb_paste.proofs.Spelling.{spelled_more}
use Rattle.cb_paste.proofs.quoting.quoted.Goals as goal

pub tokens-preserved : goal.tokens-preserved
tokens-preserved c = λ sets.
    spelled_more sets c.tokens.text.items c.push_token.new.text.items c.args.tokens.now c.tokens.at c.index-tokens-at.result c.tokens-test.true c.index-tokens-at.is (c.tokens.invariant sets) c.in_ok-push_token.ensures

pub returns : goal.returns
returns c = λ sets.
    c.in_ok-text.ensures
    ∙ (c.in_ok-push-2.ensures.items
    ∙ ap (λ l. l ++ 34 ∷ [])
    (c.tokens.invariant sets ∙ ap (λ l. 34 ∷ spelled_all true (map (seen sets) l)) (take_all c.tokens.at c.args.tokens.now (omega arith))))
