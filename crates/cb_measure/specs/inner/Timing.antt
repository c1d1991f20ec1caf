-- Platforms with the figures of an application on them.
use Rattle.std.specs.Prelude.{ℕ, ◌*◌, ◌==◌, nat_lt, if◌then◌else◌, Bool, true, false, List}
use Rattle.cb_measure.specs.Metrics.{figure_on, best_on}
use Rattle.cb_measure.specs.declared.row.Row.{Row}
use Rattle.cb_measure.specs.declared.timed.Timed.{Timed}

-- a platform with its figures
abbrev pub timed : List Row → List ℕ → List ℕ → List ℕ → Timed
timed rows problem application platform =
    record { platform = platform; best = best_on rows problem platform; figure = figure_on rows problem application platform }

-- an application is slower on a platform than on another one
abbrev pub slower : Timed → Timed → Bool
slower this other =
    if other.figure == 0 then false else if this.figure == 0 then true else nat_lt (this.best * other.figure) (other.best * this.figure)
