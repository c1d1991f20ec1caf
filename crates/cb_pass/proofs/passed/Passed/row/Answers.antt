use Rattle.std.proofs.Common.{◌≡◌, ◌<◌, [], length, ap, subst, ◌∙◌, arith}
use Rattle.std.specs.Prelude.{slice_index_or}
use Rattle.cb_pass.specs.Ends.{Kept, reached_in}
use Rattle.cb_pass.specs.Reached.{has_bit}
use Rattle.cb_pass.proofs.Rows.{own_row, same_item}
use Rattle.cb_pass.proofs.passed.Passed.row.Goals as goal

pub returns-clause-reached : goal.returns-clause-reached
returns-clause-reached c = λ n.
    let place = c.args.place in
    let inside = c.self.inside in
    let lt : place < length inside.probes = omega (arith, c.requires, ap (λ (k : Kept). length k.probes) c.self.view_is) in
    subst (λ (k : Kept). has_bit c.index.result.now n ≡ reached_in k (slice_index_or k.probes place []) n) c.self.view_is
    (own_row inside.probes inside.rows.items place n c.index.result.now c.len-distinct.ensures.distinct lt
    (c.index.ensures ∙ same_item inside.rows.items place c.index.result.now [] (omega (arith, lt, c.self.invariant))))
