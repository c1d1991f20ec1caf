use Rattle.std.proofs.Common.{◌≡◌, ◌∙◌, List, map, ap, arith}
use Rattle.std.specs.BTreeSet.{keys}
use Rattle.std.proofs.lemmas.List.{take_all}
use Rattle.cb_measure.specs.Metrics.{problems_of}
use Rattle.cb_measure.specs.Names.{names_of}
use Rattle.cb_measure.specs.declared.row.Row.{Row}
use Rattle.cb_measure.proofs.NameLists.{names_none, named_more}
use Rattle.cb_measure.proofs.names.problems_of.Goals as goal

pub rows-init : goal.rows-init
rows-init c = names_none _ c.new-names.ensures.empty

pub rows-preserved : goal.rows-preserved
rows-preserved c =
    named_more (λ (row : Row). row.problem) c.args.rows.now c.rows.row-index c.row-item.result _ _ c.rows-test.true c.row-item.is c.rows.invariant
    (rw c.in_ok-copy.ensures at c.in_ok-insert.ensures.keys)

pub returns : goal.returns
unfolding problems_of
returns c =
    c.rows.invariant ∙ ap (λ (l : List Row). names_of (map (λ (row : Row). row.problem) l)) (take_all c.rows.row-index c.args.rows.now (omega arith))
