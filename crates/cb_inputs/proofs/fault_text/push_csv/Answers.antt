use Rattle.std.proofs.Common.{◌≡◌, ◌∙◌, ◌++◌, ap, codes}
use Rattle.cb_inputs.specs.Faults.{head_text, csv_number, csv_name, row_text}
use Rattle.cb_inputs.proofs.Maps.{ok_maps}
use Rattle.cb_inputs.proofs.fault_text.push_csv.Goals as goal

pub returns : goal.returns
returns c =
    let bad = c.args.bad.now in
    let old = c.args.text.now.items in
    let head : c.push_head.new.text.items ≡ old ++ head_text (codes "measurements") (csv_number bad) (csv_name bad) =
    c.in_ok-push_head.ensures
    ∙ (ap (λ n. old ++ head_text (codes "measurements") n c.csv_name.result.now) c.csv_number.ensures
    ∙ ap (λ name. old ++ head_text (codes "measurements") (csv_number bad) name) c.csv_name.ensures)
    in
    ok_maps c.push_row.result (λ e. e ∙ ap (λ text. text ++ row_text bad) head) c.push_row.ensures
