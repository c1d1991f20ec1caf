use Rattle.std.proofs.Common.{ap, sym, ◌∙◌, ◌++◌}
use Rattle.std.proofs.lemmas.Result.{IfOk-equal}
use Rattle.cb_reports.specs.Files.{runs_line, runs_of}
use Rattle.cb_reports.proofs.Runs.{runs_of-spans}
use Rattle.cb_reports.proofs.files.add_lines.Goals as goal

pub returns : goal.returns
returns c =
    IfOk-equal c.add_labelled.result _ _ _ c.add_labelled.ensures
    (ap (λ ss. c.args.text.now ++ runs_line c.args.label.now ss)
    (sym (runs_of-spans c.spans.result.now c.spans.ensures.maximal) ∙ ap runs_of c.spans.ensures.lines))
