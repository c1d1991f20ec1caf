use Rattle.std.proofs.Common.{◌≡◌, ℕ, ◌<◌, ◌≤◌, List, length, map, sym, ap, ◌∙◌, subst, arith}
use Rattle.std.specs.List.{All}
use Rattle.cb_sets.specs.declared.row.Row.{Row}
use Rattle.cb_sets.specs.Tallies.{Tally, SetLines, IsRow, with_counted, lines_where, is_any}
use Rattle.cb_sets.specs.inner.Rows.{seen, IsWith}
use Rattle.cb_sets.proofs.Tallied.{where-with_counted, all-with_counted}
use Rattle.cb_sets.proofs.Marked.{rows_with_counted}
use Rattle.cb_sets.proofs.setmap.Setmap.add_file.Goals as goal

-- the new rows, as contracts see them
now_rows : (used : List (List ℕ)) (counted : List ℕ) (read old new : List Row) (rows : List SetLines) → read ≡ old → map seen old ≡ rows → IsWith used counted read new → map seen new ≡ with_counted used counted rows
now_rows used counted read old new rows e is w = w.rows ∙ ap (with_counted used counted) (ap (λ (xs : List Row). map seen xs) e ∙ is)

pub invariant_of-self : goal.invariant_of-self
invariant_of-self c =
    let rows = now_rows c.args.used.now c.args.counted.now c.as_slice.result.now c.self.inside.rows.items c.in_ok-self-inside.field-0.items c.args.self.now.rows c.as_slice.ensures.value (ap (λ (t : Tally). t.rows) c.self.view_is) c.in_ok-self-inside.ensures in
    let small : lines_where is_any (map seen c.in_ok-self-inside.field-0.items) < 4294967296 =
    omega (arith, ap (lines_where is_any) rows, all-with_counted c.args.used.now c.args.counted.now c.args.self.now.rows, c.requires.fits) in
    let few : length c.args.used.now ≤ c.self.inside.platforms = omega (arith, c.requires.platforms, ap (λ (t : Tally). t.platforms) c.self.view_is) in
    let old : All (IsRow c.self.inside.platforms) c.args.self.now.rows =
    subst (λ (xs : List SetLines). All (IsRow c.self.inside.platforms) xs) (ap (λ (t : Tally). t.rows) c.self.view_is) c.self.invariant.3 in (
      c.self.invariant.0,
      c.in_ok-self-inside.ensures.rising,
      small,
      subst (λ (xs : List SetLines). All (IsRow c.self.inside.platforms) xs) (sym rows) (rows_with_counted c.self.inside.platforms c.args.used.now c.args.counted.now c.args.self.now.rows few old),
    )

pub returns-clause-counts : goal.returns-clause-counts
returns-clause-counts c = λ test.
    let rows = now_rows c.args.used.now c.args.counted.now c.as_slice.result.now c.self.inside.rows.items c.in_ok-self-inside.field-0.items c.args.self.now.rows c.as_slice.ensures.value (ap (λ (t : Tally). t.rows) c.self.view_is) c.in_ok-self-inside.ensures in
    ap (lines_where test) rows ∙ where-with_counted test c.args.used.now c.args.counted.now c.args.self.now.rows
