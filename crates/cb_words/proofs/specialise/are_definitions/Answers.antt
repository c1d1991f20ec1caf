use Rattle.std.proofs.Common.{◌≡◌, ℕ, ◌<◌, false, true, List, get_or, length, subst, sym, ◌∙◌, arith, below_more, rules}
use Rattle.std.specs.Prelude.{IsTrue}
use Rattle.std.proofs.lemmas.List.{get_or_default}
use Rattle.cb_words.specs.Specialise.{IsDefinition}
use Rattle.cb_words.proofs.specialise.are_definitions.Goals as goal

pub words-preserved : goal.words-preserved
words-preserved c =
    let words = c.args.words.now in
    let i = c.words.word-index in
    let within : i < length words = omega (arith, c.words-test.true) in
    let is : IsTrue c.in_ok-is_definition.field-0 = search rules in
    let here : IsDefinition c.as_slice.result.now = c.in_ok-is_definition.ensures.0 is in
    below_more (λ k. (d : List ℕ) → IsDefinition (get_or words k d)) i c.words.invariant
    (λ d. subst IsDefinition (c.as_slice.ensures ∙ (c.word-item.is ∙ get_or_default words i c.word-item.result d within)) here)

pub returns-then-not-branch : goal.returns-then-not-branch
returns-then-not-branch c =
    let words = c.args.words.now in
    let i = c.words.word-index in
    let within : i < length words = omega (arith, c.words-test.true) in (
      λ is. absurd cc,
      λ all.
          let here : IsDefinition c.as_slice.result.now = subst IsDefinition (sym (c.as_slice.ensures ∙ c.word-item.is)) (all i c.word-item.result within) in
          let is : IsTrue c.in_ok-is_definition.field-0 = c.in_ok-is_definition.ensures.1 here in
          absurd (let e : false ≡ true = sym c.if-not-branch.true ∙ is in cc),
    )
