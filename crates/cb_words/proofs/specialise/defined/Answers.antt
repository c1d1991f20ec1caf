use Rattle.std.proofs.Common.{◌≡◌, false, true, Some, Ok, map, string_bytes, sym, ap, subst, ◌∙◌}
use Rattle.std.specs.Prelude.{All}
use Rattle.std.specs.Option.{option_map}
use Rattle.cb_words.specs.Specialise.{words_in, IsDefinition, Defines, stray, unsound, sound}
use Rattle.cb_words.proofs.specialise.defined.Goals as goal

pub returns-in_default-clause-bad : goal.returns-in_default-clause-bad
returns-in_default-clause-bad c = stray (sym c.in_ok-found.ensures ∙ ap (option_map (λ found. found.items)) c.in_default.is)

pub returns-then-branch-clause-words : goal.returns-then-branch-clause-words
returns-then-branch-clause-words c =
    let words = map string_bytes c.args.words.now in
    let found = c.in-Some.found.items in
    let some : words_in words ≡ Some found = sym c.in_ok-found.ensures ∙ ap (option_map (λ found. found.items)) c.in-Some.is in
    let all : All IsDefinition found = subst (All IsDefinition) c.as_slice.ensures.value (c.in_ok-are_definitions.ensures.0 c.if-branch.true) in
    subst (λ result. Defines words (Ok result)) (sym c.from_vec.ensures) (sound found some all)

pub returns-else-branch-clause-bad : goal.returns-else-branch-clause-bad
returns-else-branch-clause-bad c =
    let words = map string_bytes c.args.words.now in
    let found = c.in-Some.found.items in
    let some : words_in words ≡ Some found = sym c.in_ok-found.ensures ∙ ap (option_map (λ found. found.items)) c.in-Some.is in
    unsound found some
    (λ all. let e : false ≡ true = sym c.if-branch.false ∙ c.in_ok-are_definitions.ensures.1 (subst (All IsDefinition) (sym c.as_slice.ensures.value) all) in absurd cc)
