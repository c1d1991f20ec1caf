use Rattle.std.proofs.Common.{◌≡◌, ◌<◌, length, get_or, sym, ◌∙◌, arith}
use Rattle.std.proofs.lemmas.Bool.Decides.{nat_tests}
use Rattle.std.proofs.lemmas.List.{get_or_default}
use Rattle.cb_reports.specs.Clustering.{cut_line}
use Rattle.cb_cluster.specs.declared.merge.Merge.{Merge}
use Rattle.cb_reports.proofs.Cuts.{cuts-first, cuts-more, cuts-same, cuts-end}
use Rattle.cb_reports.proofs.clustering.add_cuts.Goals as goal
use Rattle.cb_reports.proofs.clustering.add_cuts.Goals.{then-less+in_ok-add_cut-2, else-less}

pub loop-at-init : goal.loop-at-init
loop-at-init c =
    let ms = c.args.merges.now in
    let some : 0 < length ms = grind (arith, nat_tests) in
    let x : Merge = get_or ms 0 c.index-merges-0.result in
    cuts-first (cut_line c.args.names.now ms) c.args.text.now c.add_cut.new.text ms x some (get_or_default ms 0 c.index-merges-0.result x some)
    c.in_ok-add_cut.ensures

pub loop-at-preserved : goal.loop-at-preserved
loop-at-preserved c =
    let ms = c.args.merges.now in
    let at = c.loop-at.at in
    let g = cut_line c.args.names.now ms in
    let x : Merge = get_or ms at c.index-merges-at.result in
    let read : x ≡ get_or ms at x = get_or_default ms at c.index-merges-at.result x c.loop-at-test.true in
    elim c.if-less.branch [
      | then-less+in_ok-add_cut-2 w ↦ rw (w.text-is, w.last-is)
          (cuts-more g _ c.loop-at.text w.add_cut-then-less.new.text c.loop-at.last ms at x c.loop-at-test.true read c.loop-at.invariant
          (sym c.less.ensures ∙ w.if-less.true) w.in_ok-add_cut-2.ensures)
      | else-less w ↦ rw (w.text-is, w.last-is)
          (cuts-same g _ c.loop-at.text c.loop-at.last ms at x c.loop-at-test.true read c.loop-at.invariant (sym c.less.ensures ∙ w.if-less.false))
    ]

pub returns : goal.returns
returns c =
    let ms = c.args.merges.now in
    cuts-end (cut_line c.args.names.now ms) _ c.loop-at.text c.loop-at.last ms c.loop-at.at c.loop-at-test.false c.loop-at.invariant
