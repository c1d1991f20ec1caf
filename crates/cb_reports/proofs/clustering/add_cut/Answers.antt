use Rattle.std.proofs.Common.{ap, ◌∙◌, ◌++◌, List, ℕ}
use Rattle.std.proofs.lemmas.Result.{IfOk-equal}
use Rattle.cb_reports.specs.Clustering.{height_line}
use Rattle.cb_reports.proofs.clustering.add_cut.Goals as goal

pub returns : goal.returns
returns c =
    IfOk-equal c.add_height.result _ _ _ c.add_height.ensures
    (ap (λ (classes : List (List ℕ)). c.args.text.now ++ height_line c.args.names.now c.args.height classes) (c.as_slice.ensures ∙ c.in_ok-classes.ensures))
