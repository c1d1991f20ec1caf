use Rattle.std.proofs.Common.{◌≡◌, ℕ, List, take}
use Rattle.cb_measure.specs.inner.Numbers.{number_in}
use Rattle.cb_measure.specs.inner.Finding.{names_at}
use Rattle.cb_measure.specs.declared.row.Row.{Row}
use Rattle.cb_measure.proofs.NameLists.{names_in}
use Rattle.cb_measure.proofs.names.applications_of.Given as goal

abbrev pub invariant-rows : goal.invariant-rows
invariant-rows l = (p : List ℕ) → names_at l.sets (number_in l.numbers p) ≡ names_in (λ (row : Row). row.application) (take l.row-index l.rows) p
