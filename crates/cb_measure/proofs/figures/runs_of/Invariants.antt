use Rattle.std.proofs.Common.{◌≡◌, ℕ, List, take}
use Rattle.cb_measure.specs.Metrics.{figure_on}
use Rattle.cb_measure.specs.inner.Numbers.{number_in}
use Rattle.cb_measure.specs.inner.Finding.{run_at}
use Rattle.cb_measure.proofs.figures.runs_of.Given as goal

abbrev pub invariant-rows : goal.invariant-rows
invariant-rows l =
    (p a h : List ℕ) → run_at l.runs (number_in l.numbers p) (number_in l.numbers a) (number_in l.numbers h) ≡ figure_on (take l.row-index l.rows) p a h
