-- What of a source is read before the first name of a macro.
use Rattle.std.specs.Prelude.{◌≡◌, ℕ, ◌+◌, ◌≤◌, ◌<◌, Bool, true, false, List, [], ◌∷◌, ◌++◌, length, drop, map, Option, None, Some, MatchOption, IsSomeAnd, slice_get}
use Rattle.std.specs.List.{slice_index_or}
use Rattle.cb_tokens.specs.Kinds.{is_identifier_kind}
use Rattle.cb_tokens.specs.declared.token.Token.{Token}
use Rattle.cb_paste.specs.declared.part.Shape.TheVariants.{Fixed}
use Rattle.cb_paste.specs.Shades.{Shaded}
use Rattle.cb_macro.specs.Definitions.{Definition}
use Rattle.cb_macro.specs.Parts.{parts}
use Rattle.cb_expand.specs.declared.front.Asked.{Asked}
use Rattle.cb_expand.specs.declared.front.Front.{Front}
use Rattle.cb_expand.specs.declared.front.Front.TheVariants as fronts
use Rattle.cb_expand.specs.declared.mode.Mode.{Mode}
use Rattle.cb_expand.specs.Heads.{Named, Stands, head, named, answer_token}
use Rattle.cb_expand.specs.Expansion.{bare, IsExpansion}

-- the name that is asked for, and what is behind it (own)
abbrev pub IsAsked : List Token → Option (List ℕ × List Shaded) → Option Asked → Type 0
IsAsked ts o asked = MatchOption asked (o ≡ None)
    (λ a. (a.name < length ts) × (a.count ≤ length ts)
    × ((name : Token) → slice_index_or ts a.name name ≡ name → o ≡ Some (name.text, map bare (drop a.count ts))))

-- what stands at the front of tokens (own)
abbrev pub IsFront : Named → Mode → Token → List Token → Front → Type 0
IsFront ms mode t ts fronts.Stays = head ms mode (bare t) (map bare ts) ≡ Stands (bare t) (map bare ts)
IsFront ms mode t ts (fronts.Asks is_defined count) =
    (count ≤ length ts) × (head ms mode (bare t) (map bare ts) ≡ Stands (answer_token (bare t) is_defined) (map bare (drop count ts)))
IsFront ms mode t ts (fronts.Names place) =
    (place < length ms) × IsSomeAnd (slice_get ms place) (λ e. head ms mode (bare t) (map bare ts) ≡ named (Some (place, e.1)) (bare t) (map bare ts))

-- a macro has no parameters, and its name becomes this one token, which is no identifier (own)
pub record PutsOne (d : Definition) (t : Token) : Type 0 where
  pub object : d.is_function ≡ false
  pub plain : is_identifier_kind t.kind ≡ false
  pub spaced : Bool
  pub parts : parts d ≡ record { glued = false; spaced = spaced; shape = Fixed t.kind t.text } ∷ []

-- such a token of the macro in a place was put behind others, with this white space before it; or nothing was (own)
abbrev pub WasPut : Named → ℕ → Bool → List Token → List Token → Bool → Type 0
WasPut ms place spaced old new false = new ≡ old
WasPut ms place spaced old new true =
    (v : Token) × (new ≡ old ++ v ∷ []) × (v.spaced ≡ spaced) × IsSomeAnd (slice_get ms place) (λ e. PutsOne e.1 v)

-- so many tokens from the front became these at a cost, and those behind them expand as they do alone (own)
pub record AreRead (ms : Named) (mode : Mode) (ts : List Token) (count : ℕ) (read : List Token) (paid : ℕ) : Type 0 where
  pub within : count ≤ length ts
  pub forth : (more : List Token) (n : ℕ) → IsExpansion ms mode (drop count ts) more n → IsExpansion ms mode ts (read ++ more) (n + paid)
  pub back : (all : List Token) (n : ℕ) → IsExpansion ms mode ts all n
      → (more : List Token) × (m : ℕ) × IsExpansion ms mode (drop count ts) more m × (n ≡ m + paid)
