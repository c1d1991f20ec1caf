use Rattle.std.proofs.Common.{◌≡◌, false, true, Some, map, string_bytes, sym, ap, subst, ◌∙◌}
use Rattle.std.specs.Prelude.{All}
use Rattle.std.specs.Option.{option_map}
use Rattle.codebasin.specs.Words.{words_asked, IsDefinition}
use Rattle.codebasin.proofs.Asking.{asks_unsound, asks_sound}
use Rattle.codebasin.proofs.words.asked.Goals as goal

pub returns-then-branch : goal.returns-then-branch
returns-then-branch c =
    let arguments = map string_bytes c.args.arguments.now in
    let some : words_asked arguments ≡ Some c.in-Some.words.items = sym c.in_ok-words.ensures ∙ ap (option_map (λ found. found.items)) c.in-Some.is in
    asks_sound arguments c.in-Some.words.items some (subst (All IsDefinition) c.as_slice.ensures.value (c.in_ok-are_definitions.ensures.0 c.if-branch.true))

pub returns-else-branch : goal.returns-else-branch
returns-else-branch c =
    let arguments = map string_bytes c.args.arguments.now in
    let some : words_asked arguments ≡ Some c.in-Some.words.items = sym c.in_ok-words.ensures ∙ ap (option_map (λ found. found.items)) c.in-Some.is in
    asks_unsound arguments c.in-Some.words.items some
    (λ all. let e : false ≡ true = sym c.if-branch.false ∙ c.in_ok-are_definitions.ensures.1 (subst (All IsDefinition) (sym c.as_slice.ensures.value) all) in absurd cc)
