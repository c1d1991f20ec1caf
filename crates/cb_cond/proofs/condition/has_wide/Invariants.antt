use Rattle.std.proofs.Common.{◌≡◌, ℕ, ◌<◌, length, get_or}
use Rattle.cb_cond.specs.declared.symbol.Symbol.TheVariants.{WideInteger}
use Rattle.cb_cond.specs.inner.Rests.{left}
use Rattle.cb_cond.specs.Symbols.{symbols}
use Rattle.cb_cond.proofs.Position.{IsAt}
use Rattle.cb_cond.proofs.condition.has_wide.Given as goal

-- the first tokens are no integers that are too wide
abbrev pub invariant-tokens : goal.invariant-tokens
invariant-tokens l =
    (i : ℕ) × IsAt (left l.fn.rest) i (left l.rest)
    × ((k : ℕ) → k < i → get_or (symbols l.language (left l.fn.rest)) k WideInteger ≡ WideInteger → ⊥)

abbrev pub decreases-tokens : goal.decreases-tokens
decreases-tokens l = length (left l.rest)
