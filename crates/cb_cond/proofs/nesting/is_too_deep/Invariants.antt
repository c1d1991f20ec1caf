use Rattle.std.proofs.Common.{ℕ, ◌+◌, ◌≤◌, length}
use Rattle.cb_paths.specs.declared.language.Language.{Language}
use Rattle.cb_cond.specs.inner.Rests.{left}
use Rattle.cb_cond.specs.Symbols.{symbols}
use Rattle.cb_cond.proofs.Position.{IsAt}
use Rattle.cb_cond.proofs.Depth.{Leaves}
use Rattle.cb_cond.proofs.nesting.is_too_deep.Given as goal

-- the first tokens are read, and this much may be opened behind them
abbrev pub invariant-tokens : goal.invariant-tokens
invariant-tokens l =
    (i : ℕ) × IsAt (left l.fn.rest) i (left l.rest)
    × ((language : Language) → Leaves (symbols language (left l.fn.rest)) i l.slack)
    × (l.slack.parentheses ≤ 256 + i)

abbrev pub decreases-tokens : goal.decreases-tokens
decreases-tokens l = length (left l.rest)
