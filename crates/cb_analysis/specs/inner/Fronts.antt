-- How a list is walked with a pattern: what elements without a star leave of it.
use Rattle.std.specs.Prelude.{◌≡◌, ◌++◌, MatchOption, not, if◌then◌else◌, Bool, true, false, List, [], ◌∷◌, Option, Some, None}
use Rattle.std.specs.Borrow.{Bor}
use Rattle.std.specs.List.{list_all, list_any}
use Rattle.cb_analysis.specs.Fits.{fits, tails}

-- what is behind a front that these elements take, if they take one
abbrev pub behind_front : {P X : Type 0} → (P → X → Bool) → List P → List X → Option (List X)
behind_front like [] xs = Some xs
behind_front like (p ∷ ps) [] = None
behind_front like (p ∷ ps) (x ∷ xs) = if like p x then behind_front like ps xs else None

-- the first option, or else the second one
abbrev pub or_else : {X : Type 0} → Option X → Option X → Option X
or_else None other = other
or_else (Some x) other = Some x

-- what is behind the first place at which these elements stand, if they stand somewhere
abbrev pub behind_first : {P X : Type 0} → (P → X → Bool) → List P → List X → Option (List X)
behind_first like ps [] = behind_front like ps []
behind_first like ps (x ∷ xs) = or_else (behind_front like ps (x ∷ xs)) (behind_first like ps xs)

-- what there is passes a test
abbrev pub passes : {X : Type 0} → (X → Bool) → Option X → Bool
passes test None = false
passes test (Some x) = test x

-- no element is a star
abbrev pub has_no : {P : Type 0} → (P → Bool) → List P → Bool
has_no star ps = list_all (λ p. not (star p)) ps

-- what a pattern has behind a star fits behind some number of elements
abbrev pub behind_star : {P X : Type 0} → (P → Bool) → (P → X → Bool) → (List X → Bool) → List P → List X → Bool
behind_star star like left ps xs = list_any (fits star like left ps) (tails xs)

-- a pattern is cut at its first star
pub record IsCut {P : Type 0} (star : P → Bool) (pattern front : List P) (behind : Option (Bor (List P))) : Type 0 where
  pub plain : has_no star front ≡ true
  pub cut : MatchOption behind (pattern ≡ front) (λ rest. (s : P) × (star s ≡ true) × (pattern ≡ front ++ s ∷ rest.now))
