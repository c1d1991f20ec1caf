use Rattle.std.proofs.Common.{◌≡◌, ℕ, ◌+◌, ◌<◌, ◌≤◌, List, length, get_or, set, map, ap, subst, arith}
use Rattle.cb_sets.specs.declared.row.Row.{Row}
use Rattle.cb_sets.specs.Tallies.{lines_where, is_any}
use Rattle.cb_sets.specs.inner.Rows.{seen}
use Rattle.cb_sets.proofs.Placed.{added_row, added_lines, before_at, behind_at, here_at}
use Rattle.cb_sets.proofs.Tallied.{kept_row}
use Rattle.cb_sets.proofs.rows.add_count.Goals as goal

-- a row that was read has no more lines than all of them
read_row : (rows : List Row) (p n : ℕ) (x : Row) → p < length rows → x ≡ get_or rows p x → lines_where is_any (map seen rows) + n < 4294967296 → x.lines + n < 4294967296
read_row rows p n x h is fits =
    let few : x.lines ≡ (get_or rows p x).lines = ap (λ (r : Row). r.lines) is in
    omega (arith, few, kept_row rows p x h)

pub overflow_add-index_mut : goal.overflow_add-index_mut
overflow_add-index_mut c =
    let here = here_at c.as_slice-2.result.now c.args.rows.now.items c.rank-rank.result c.place_of-at.result c.args.set c.as_slice-2.ensures.value c.rank-rank.ensures c.if-has_rank.ensures c.index_mut.result.now in
    let few = read_row c.args.rows.now.items c.place_of-at.result c.args.lines c.index_mut.result.now here.0 c.index_mut.ensures.value c.requires.fits in
    omega (arith, few)

pub returns-then-has_rank : goal.returns-then-has_rank
returns-then-has_rank c =
    let rows : List Row = c.args.rows.now.items in
    let p : ℕ = c.place_of-at.result in
    let x : Row = c.index_mut.result.now in
    let here = here_at c.as_slice-2.result.now rows c.rank-rank.result p c.args.set c.as_slice-2.ensures.value c.rank-rank.ensures c.if-has_rank.ensures x in
    added_lines c.args.set c.args.lines rows (set rows p (record { set = x.set; lines = x.lines + c.args.lines })) p x c.requires.rising here.0
    (before_at c.as_slice.result.now rows c.rank-rank.result p c.args.set c.as_slice.ensures.value c.rank-rank.ensures c.place_of-at.ensures.before) here.1
    (ap (λ (r : Row). set rows p (record { set = r.set; lines = r.lines + c.args.lines })) c.index_mut.ensures.value)

pub returns : goal.returns
returns c =
    let rows : List Row = c.args.rows.now.items in
    let p : ℕ = c.place_of-at.result in
    added_row c.args.set c.args.lines rows c.insert.new.self.items p c.requires.rising
    (subst (λ (xs : List Row). p ≤ length xs) c.as_slice.ensures.value c.place_of-at.ensures.within)
    (before_at c.as_slice.result.now rows c.rank-rank.result p c.args.set c.as_slice.ensures.value c.rank-rank.ensures c.place_of-at.ensures.before)
    (behind_at c.as_slice.result.now c.as_slice-2.result.now rows c.rank-rank.result p c.args.set c.as_slice.ensures.value c.as_slice-2.ensures.value c.rank-rank.ensures c.place_of-at.ensures.behind c.if-has_rank.ensures)
    c.in_ok-insert.ensures.items
