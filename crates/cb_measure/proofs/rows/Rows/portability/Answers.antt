use Rattle.std.proofs.Common.{◌≡◌, ◌∙◌, [], length, sym, ap, arith}
use Rattle.std.specs.BTreeSet.{keys}
use Rattle.cb_measure.specs.Metrics.{platforms_of}
use Rattle.cb_measure.specs.inner.Finding.{names_found, names_at}
use Rattle.cb_measure.proofs.Means.{mean_nowhere}
use Rattle.cb_measure.proofs.NameLists.{platforms-le}
use Rattle.cb_measure.proofs.rows.Rows.portability.Goals as goal

pub portability_on-requires : goal.portability_on-requires
portability_on-requires c =
    let rows = c.self.inside.rows.items in
    let p = c.args.problem.now in
    let found : names_at c.self.inside.index.platforms c.number.result ≡ platforms_of rows p = rw c.number.ensures (c.self.invariant.found.platforms p) in
    let names : keys c.in-Some.platforms.now ≡ platforms_of rows p = ap names_found c.in-Some.ensures.value ∙ found in
    omega (arith, ap length names, platforms-le rows p, c.self.invariant.few)

pub returns-in-None : goal.returns-in-None
returns-in-None c =
    let rows = c.self.inside.rows.items in
    let p = c.args.problem.now in
    let found : names_at c.self.inside.index.platforms c.number.result ≡ platforms_of rows p = rw c.number.ensures (c.self.invariant.found.platforms p) in
    let names : [] ≡ platforms_of rows p = ap names_found c.in-None.ensures.value ∙ found in
    rw (← c.self.view_is) (mean_nowhere rows p c.args.application.now (platforms_of rows p) (sym names))
