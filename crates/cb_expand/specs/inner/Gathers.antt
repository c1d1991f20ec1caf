-- Gathering the arguments of a call.
use Rattle.std.specs.Prelude.{◌≡◌, ℕ, zero, suc, ◌+◌, ◌-◌, ◌<◌, ◌≤◌, Bool, true, not, List, [], ◌∷◌, ◌++◌, length, slice_index_or, Option, Some, None}
use Rattle.std.specs.Option.{option_map}
use Rattle.cb_paste.specs.Shades.{Shaded}
use Rattle.cb_expand.specs.declared.sign.Sign.{Sign}
use Rattle.cb_expand.specs.declared.sign.Sign.TheVariants as signs
use Rattle.cb_expand.specs.declared.gathering.Turn.{Turn}
use Rattle.cb_expand.specs.declared.gathering.Turn.TheVariants.{Wrong, More, Last, Lacks}
use Rattle.cb_expand.specs.Arguments.{Gathered, gather, with_argument}
use Rattle.cb_expand.specs.inner.Rows.{between}
use Rattle.cb_paste.specs.declared.work_token.WorkToken.{WorkToken}
use Rattle.cb_expand.specs.inner.Works.{lacking, seen_all}

-- what the end of an argument means where so many parameters are left, with its own (own)
unfoldable pub turn_of : Sign → Bool → ℕ → Turn
turn_of signs.Close variadic (suc zero) = Last
turn_of signs.Close true (suc (suc zero)) = Lacks
turn_of signs.Comma variadic (suc (suc n)) = More
turn_of _ variadic left = Wrong

-- commas end the argument, but that which stands for ... (own)
unfoldable pub commas_end : Bool → ℕ → Bool
commas_end variadic (suc zero) = not variadic
commas_end variadic _ = true

-- the arguments so far, and then what is gathered behind them (own)
abbrev pub behind : List (List Shaded) → Gathered → Gathered
behind args g = record g { arguments = args ++ g.arguments }

-- the same, or nothing (own)
abbrev pub with_front : List (List Shaded) → Option Gathered → Option Gathered
with_front args o = option_map (behind args) o

-- what is gathered by such an end (own)
abbrev pub by_turn : Turn → List Shaded → Shaded → List Shaded → Option Gathered → Option Gathered
by_turn Wrong a c rest others = None
by_turn Last a c rest others = Some (record { arguments = a ∷ []; close = c; rest = rest })
by_turn Lacks a c rest others = Some (record { arguments = a ∷ [] ∷ []; close = c; rest = rest })
by_turn More a c rest others = option_map (with_argument a) others

-- the arguments between the ends below a height (own)
abbrev pub pieces : List Shaded → ℕ → List ℕ → List (List Shaded)
pieces ss from [] = []
pieces ss from (e ∷ es) = between e from ss ∷ pieces ss (e - 1) es

-- the ends lie below one another, and above the end of the list (own)
abbrev pub AreDescending : ℕ → ℕ → List ℕ → Type 0
AreDescending from floor [] = Unit {0}
AreDescending from floor (e ∷ es) = (e ≤ from) × (floor < e) × AreDescending (e - 1) floor es

-- what is below the last of the ends (own)
abbrev pub end_of : ℕ → List ℕ → ℕ
end_of from [] = from
end_of from (e ∷ es) = end_of (e - 1) es

-- the last of the ends (own)
abbrev pub last_of : ℕ → List ℕ → ℕ
last_of from [] = from
last_of from (e ∷ es) = last_of e es

-- the arguments are gathered by these ends (own)
pub record IsGathered (o : Option Gathered) (ss : List Shaded) (count floor height : ℕ) (ends : List ℕ) (lacks : Bool) : Type 0 where
  pub close : Shaded
  pub at : (other : Shaded) → slice_index_or ss (last_of height ends - 1) other ≡ close
  pub is : o ≡ Some (record { arguments = pieces ss height ends ++ lacking lacks; close = close; rest = between floor (last_of height ends - 1) ss })
  pub descending : AreDescending height floor ends
  pub above : floor < last_of height ends
  pub within : last_of height ends ≤ height
  pub few : length ends ≤ count

-- so far the arguments are gathered by these ends (own)
pub record IsSoFar (ts : List WorkToken) (floor height count : ℕ) (variadic : Bool) (ends : List ℕ) (from left : ℕ) : Type 0 where
  pub some : 0 < left
  pub counted : length ends + left ≡ count
  pub from_is : from ≡ end_of height ends
  pub above : floor ≤ from
  pub descending : AreDescending height floor ends
  pub is : (sets : List (List ℕ))
      → gather variadic count (between floor height (seen_all sets ts)) ≡ with_front (pieces (seen_all sets ts) height ends) (gather variadic left (between floor from (seen_all sets ts)))
