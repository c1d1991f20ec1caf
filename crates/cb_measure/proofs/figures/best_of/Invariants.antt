use Rattle.std.proofs.Common.{◌≡◌, ℕ, List, take}
use Rattle.cb_measure.specs.Metrics.{best_on}
use Rattle.cb_measure.specs.inner.Numbers.{number_in}
use Rattle.cb_measure.specs.inner.Finding.{best_at}
use Rattle.cb_measure.proofs.figures.best_of.Given as goal

abbrev pub invariant-rows : goal.invariant-rows
invariant-rows l = (p h : List ℕ) → best_at l.best (number_in l.numbers p) (number_in l.numbers h) ≡ best_on (take l.row-index l.rows) p h
