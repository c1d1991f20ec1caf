-- What came of reading symbols in a room of frames, and how far more may be opened.
use Rattle.std.specs.Prelude.{◌≡◌, ℕ, ◌+◌, ◌*◌, ◌≤◌, ◌⊎◌, true, List, take, Option, Some, None, if◌then◌else◌}
use Rattle.std.specs.List.{count_by}
use Rattle.cb_cond.specs.declared.symbol.Symbol.{Symbol}
use Rattle.cb_cond.specs.declared.meaning.Meaning.{Meaning}
use Rattle.cb_cond.specs.declared.nesting.Slack.{Slack}
use Rattle.cb_cond.specs.declared.evaluation.Attempt.{Attempt}
use Rattle.cb_cond.specs.declared.evaluation.Attempt.TheVariants.{Read, Crowded}
use Rattle.cb_cond.specs.Grammar.{Expression, IsCondition}
use Rattle.cb_cond.specs.Values.{meaning}
use Rattle.cb_cond.specs.Faults.{is_open, is_close, is_question}

-- a room of n frames is enough: each level of operators may wait once in each open parenthesis, and no operator waits in a
-- condition in front of a question mark (own)
abbrev pub HasRoom : List Symbol → ℕ → Type 0
HasRoom ss n =
    (deepest : ℕ) × ((k : ℕ) → count_by is_open (take k ss) ≤ count_by is_close (take k ss) + deepest)
    × (11 * deepest + count_by is_question ss + 11 ≤ n)

-- what a list of symbols is read as: the meaning of its tree, or nothing where it has none
abbrev pub IsReadAs : List Symbol → Option Meaning → Type 0
IsReadAs ss None = (tree : Expression) → ¬ (IsCondition ss tree)
IsReadAs ss (Some m) = (tree : Expression) × IsCondition ss tree × (m ≡ meaning tree)

-- what came of reading symbols in a room of n frames (own)
abbrev pub IsAttempt : List Symbol → ℕ → Attempt → Type 0
IsAttempt ss n (Read o) = IsReadAs ss o
IsAttempt ss n Crowded = ¬ (HasRoom ss n)

-- the symbol opens more than what may still be opened (own)
abbrev pub IsSpent : Slack → Symbol → Type 0
IsSpent slack s = ((is_open s ≡ true) × (slack.parentheses ≡ 0)) ⊎ ((is_question s ≡ true) × (slack.questions ≡ 0))

-- what may still be opened behind a symbol (own)
pub record IsSlackBehind (slack : Slack) (s : Symbol) (behind : Slack) : Type 0 where
  pub parentheses : behind.parentheses + (if is_open s then 1 else 0) ≡ slack.parentheses + (if is_close s then 1 else 0)
  pub questions : behind.questions + (if is_question s then 1 else 0) ≡ slack.questions
