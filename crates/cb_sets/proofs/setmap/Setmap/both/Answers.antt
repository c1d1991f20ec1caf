use Rattle.std.proofs.Common.{◌≡◌, ◌&&◌, List, map, ap, ◌∙◌, arith}
use Rattle.cb_lines.specs.Lines.{has_line}
use Rattle.cb_sets.specs.declared.row.Row.{Row}
use Rattle.cb_sets.specs.Tallies.{Tally, SetLines, lines_where}
use Rattle.cb_sets.specs.inner.Rows.{seen}
use Rattle.cb_sets.proofs.Tallied.{both_within}
use Rattle.cb_sets.proofs.setmap.Setmap.both.Goals as goal

pub returns-clause-within : goal.returns-clause-within
returns-clause-within c =
    let rows : map seen c.as_slice.result.now ≡ c.args.self.now.rows = ap (λ (xs : List Row). map seen xs) c.as_slice.ensures.value ∙ ap (λ (t : Tally). t.rows) c.self.view_is in
    let value : c.count_where.result ≡ lines_where (λ set. has_line set c.args.i && has_line set c.args.j) c.args.self.now.rows =
    c.count_where.ensures.value ∙ ap (λ (xs : List SetLines). lines_where (λ set. has_line set c.args.i && has_line set c.args.j) xs) rows in
    omega (arith, value, both_within c.args.i c.args.j c.args.self.now.rows)
