use Rattle.std.proofs.Common.{◌≡◌, ◌<◌, ℕ, List, length, take, drop, get_or, refl, sym, ap, ◌∙◌, subst, arith}
use Rattle.cb_lines.specs.declared.mark.Mark.{Mark}
use Rattle.cb_lines.specs.Marks.{bytes_of, first_line, is_line_feed}
use Rattle.cb_lines.specs.Lines.{with_line, StandOn}
use Rattle.cb_tree.specs.declared.reading.Place.TheVariants.{InLine}
use Rattle.cb_tree.specs.inner.Reads.{ReadsRun}
use Rattle.cb_tree.proofs.Runs.{one_line}
use Rattle.cb_tree.proofs.Rows.{front_byte}
use Rattle.cb_tree.proofs.Stretches.{run_stretch}
use Rattle.cb_tree.proofs.stretch.pass_stretch.Goals as goal

pub returns-clause-goes : goal.returns-clause-goes
returns-clause-goes c = λ ms run.
    let rest : List Mark = c.pass_white.new.walk in
    let n : ℕ = c.plain_stretch-stretch.result.len in
    let counted : List ℕ = c.args.counted.now in
    let some : 0 < n = omega arith in
    let inside = c.plain_stretch-stretch.ensures.inside some in
    let head : get_or c.rest-bytes.result.now 0 0 ≡ get_or (bytes_of rest) 0 0 = ap (λ (bs : List ℕ). get_or bs 0 0) c.rest-bytes.ensures in
    let stands : StandOn (first_line rest) (take n rest) = c.row.ensures.one_line n (omega arith) (λ k h.
    ap is_line_feed (front_byte c.row.result.now (bytes_of rest) k c.row.ensures.front (omega arith) ∙ ap (λ (bs : List ℕ). get_or bs k 0) (sym c.rest-bytes.ensures))
    ∙ c.plain_stretch-stretch.ensures.no_feed k (omega (arith, c.plain_stretch-stretch.ensures.within.0))) in
    let all = run_stretch ms c.args.place counted rest n (first_line rest) (c.plain_stretch-stretch.ensures.cut rest c.rest-bytes.ensures some)
    (λ e. let no = c.if-may_be_directive.ensures.no refl e in (λ h. no.0 (head ∙ h), λ h. no.1 (head ∙ h)))
    (λ xs set. c.one_line.ensures (first_line rest) xs set) stands (c.pass_white.ensures.goes ms c.args.place counted run) in
    c.pass_front.ensures.goes ms c.add.new.self
    (subst (λ (set : List ℕ). ReadsRun ms InLine set (drop n rest)) (sym (c.in_ok-add.ensures ∙ ap (λ (l : ℕ). with_line l counted) c.line.ensures)) all)

pub returns-clause-few : goal.returns-clause-few
returns-clause-few c =
    omega (arith, c.pass_white.ensures.shorter, c.pass_front.ensures.shorter, ap length c.in_ok-add.ensures, one_line c.line.result c.args.counted.now)
