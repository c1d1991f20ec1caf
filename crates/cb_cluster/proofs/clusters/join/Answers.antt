use Rattle.std.proofs.Common.{◌≡◌, ℕ, ◌<◌, cond, eqb, length, get_or, set, sym, ap, ◌∙◌, arith}
use Rattle.std.proofs.lemmas.Bool.{cond-true, cond-false, eq-eqb, ne_eqb}
use Rattle.std.proofs.lemmas.List.{get_or_default}
use Rattle.std.proofs.lemmas.List.Edits.{map_over_more}
use Rattle.cb_cluster.proofs.clusters.join.Goals as goal
use Rattle.cb_cluster.proofs.clusters.join.Goals.{then-name-right, else-name-right}

pub loop-name-preserved : goal.loop-name-preserved
loop-name-preserved c =
    let right = c.args.right in
    let f : ℕ → ℕ = λ name. cond (eqb name right) c.args.left name in
    let xs = c.args.names.now in
    let ys = c.loop-name.names in
    let i = c.loop-name.name-index in
    let x = get_or ys i 0 in
    let within : i < length ys = omega arith in
    let read : x ≡ get_or ys i x = get_or_default ys i 0 x within in
    elim c.if-name-right.branch [
      | then-name-right w ↦
          w.names-is
          ∙ (ap (set ys i) (sym (cond-true (eqb x right) c.args.left x (eq-eqb x right w.if-name-right.true)))
          ∙ map_over_more f xs ys i x c.loop-name-test.true c.loop-name.invariant read)
      | else-name-right w ↦
          w.names-is
          ∙ (ap (set ys i) (sym (cond-false (eqb x right) c.args.left x (ne_eqb x right w.if-name-right.false)))
          ∙ map_over_more f xs ys i x c.loop-name-test.true c.loop-name.invariant read)
    ]
