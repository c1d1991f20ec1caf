use Rattle.std.proofs.Common.{◌≡◌, ◌≤◌, ◌∙◌, ℕ, List, length, ap, arith}
use Rattle.std.proofs.lemmas.Result.{IfOk-weaker}
use Rattle.cb_measure.specs.Metrics.{platforms_of}
use Rattle.cb_measure.specs.inner.Finding.{names_at}
use Rattle.cb_measure.proofs.NameLists.{platforms-le}
use Rattle.cb_measure.proofs.rows.Rows.platform_names.Goals as goal

pub returns-clause-few : goal.returns-clause-few
returns-clause-few c =
    let rows = c.self.inside.rows.items in
    let P : List (List ℕ) → Type 0 = λ names. names ≡ names_at c.self.inside.index.platforms c.number.result in
    let Q : List (List ℕ) → Type 0 = λ names. length names ≤ 100000 in
    let names : names_at c.self.inside.index.platforms c.number.result ≡ platforms_of rows c.args.problem.now = rw c.number.ensures (c.self.invariant.found.platforms c.args.problem.now) in
    let f : (names : List (List ℕ)) → P names → Q names =
    λ ns e. (let len = ap length (e ∙ names) in omega (arith, len, platforms-le rows c.args.problem.now, c.self.invariant.few))
    in
    IfOk-weaker c.names_at.result P Q f c.names_at.ensures
