-- What is wrong with a condition, and which fault decides (6.10.1; the limits and the order are own).
use Rattle.std.specs.Prelude.{◌≡◌, ◌==◌, ℕ, ◌+◌, ◌<◌, ◌⊎◌, Bool, true, false, not, List, take, Result, Ok, Err, codes}
use Rattle.std.specs.List.{count_by, Contains}
use Rattle.cb_cond.specs.declared.symbol.Symbol.{Symbol}
use Rattle.cb_cond.specs.declared.symbol.Symbol.TheVariants.{OpenParenthesis, CloseParenthesis, Question, WideInteger}
use Rattle.cb_cond.specs.declared.meaning.Value.TheVariants as values
use Rattle.cb_cond.specs.declared.bad_condition.BadCondition.{BadCondition}
use Rattle.cb_cond.specs.declared.bad_condition.BadCondition.TheVariants as bad
use Rattle.cb_cond.specs.Grammar.{Expression, IsCondition}
use Rattle.cb_cond.specs.Values.{meaning}

-- an open parenthesis (6.5.1)
unfoldable pub is_open : Symbol → Bool
is_open OpenParenthesis = true
is_open _ = false

-- a closing parenthesis (6.5.1)
unfoldable pub is_close : Symbol → Bool
is_close CloseParenthesis = true
is_close _ = false

-- a question mark (6.5.15)
unfoldable pub is_question : Symbol → Bool
is_question Question = true
is_question _ = false

-- after some of the symbols, more than 256 parentheses are open; or there are more than 256 question marks (own)
abbrev pub IsTooDeep : List Symbol → Type 0
IsTooDeep ss =
    ((k : ℕ) × (count_by is_close (take k ss) + 256 < count_by is_open (take k ss))) ⊎ (256 < count_by is_question ss)

-- some integer is 2^64 or more (6.10.1, paragraph 4)
abbrev pub IsTooWide : List Symbol → Type 0
IsTooWide ss = Contains ss WideInteger

-- what a condition holds or what is wrong with it: too deep before too wide, too wide before malformed, and then what
-- evaluation gives; it holds where its value is not 0 (6.10.1, paragraphs 3 and 4; own)
abbrev pub IsAnswer : List Symbol → Result Bool BadCondition → Type 0
IsAnswer ss (Err bad.TooDeep) = IsTooDeep ss
IsAnswer ss (Err bad.TooWide) = (¬ (IsTooDeep ss)) × IsTooWide ss
IsAnswer ss (Err bad.Malformed) = (¬ (IsTooDeep ss)) × (¬ (IsTooWide ss)) × ((tree : Expression) → ¬ (IsCondition ss tree))
IsAnswer ss (Err bad.ZeroDivisor) = (¬ (IsTooDeep ss)) × ((tree : Expression) × IsCondition ss tree × ((meaning tree).value ≡ values.ZeroDivisor))
IsAnswer ss (Err bad.Shift) = (¬ (IsTooDeep ss)) × ((tree : Expression) × IsCondition ss tree × ((meaning tree).value ≡ values.Shift))
IsAnswer ss (Ok holds) =
    (¬ (IsTooDeep ss)) × ((tree : Expression) × (bits : ℕ) × IsCondition ss tree × ((meaning tree).value ≡ values.Bits bits) × (holds ≡ not (bits == 0)))

-- the number of a fault (own)
abbrev pub fault_number : BadCondition → ℕ
fault_number bad.Malformed = 1
fault_number bad.ZeroDivisor = 2
fault_number bad.Shift = 3
fault_number bad.TooWide = 4
fault_number bad.TooDeep = 5

-- the name of a fault (own)
abbrev pub fault_name : BadCondition → List ℕ
fault_name bad.Malformed = codes "Malformed"
fault_name bad.ZeroDivisor = codes "ZeroDivisor"
fault_name bad.Shift = codes "Shift"
fault_name bad.TooWide = codes "TooWide"
fault_name bad.TooDeep = codes "TooDeep"
