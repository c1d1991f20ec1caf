-- What arguments ask for, by the words of each -D among them.
use Rattle.std.proofs.Common.{◌≡◌, ℕ, List, Some, None, sym, ap, subst, ◌∙◌}
use Rattle.std.specs.Prelude.{All}
use Rattle.std.specs.Option.{option_map}
use Rattle.codebasin.specs.Words.{Specialise, words_asked, IsDefinition, Asks, AsksNothing}

-- the arguments have not the form of a command
pub asks_nothing : (arguments : List (List ℕ)) → words_asked arguments ≡ None → AsksNothing arguments
asks_nothing arguments none (Specialise words) asks =
    let e : None ≡ Some (Specialise words) = sym (ap (option_map Specialise) none) ∙ asks.is in absurd cc

-- a word is no definition
pub asks_unsound : (arguments words : List (List ℕ)) → words_asked arguments ≡ Some words → (All IsDefinition words → ⊥) → AsksNothing arguments
asks_unsound arguments words some unsound (Specialise others) asks =
    let e : Some (Specialise words) ≡ Some (Specialise others) = sym (ap (option_map Specialise) some) ∙ asks.is in
    let same : others ≡ words = cc in
    unsound (subst (All IsDefinition) same asks.sound)

-- each word is a definition
pub asks_sound : (arguments words : List (List ℕ)) → words_asked arguments ≡ Some words → All IsDefinition words → Asks arguments (Specialise words)
asks_sound arguments words some sound = record { is = ap (option_map Specialise) some; sound = sound }
