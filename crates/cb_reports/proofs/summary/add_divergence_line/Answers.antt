use Rattle.std.proofs.Common.{◌++◌, ◌∷◌, [], ap, ◌∙◌, codes, List, ℕ, sym}
use Rattle.std.proofs.lemmas.Result.{IfOk-equal}
use Rattle.std.proofs.lemmas.List.{append_assoc}
use Rattle.cb_reports.specs.Summary.{divergence_text}
use Rattle.cb_reports.proofs.summary.add_divergence_line.Goals as goal

pub returns : goal.returns
returns c =
    let value = divergence_text c.args.pairs.now in
    let label : List ℕ = codes "divergence " in
    let end : List ℕ = 10 ∷ [] in
    IfOk-equal c.end_line.result _ _ _ c.end_line.ensures
    (ap (λ t. t ++ end) (c.in_ok-add_divergence.ensures ∙ ap (λ t. t ++ value) c.in_ok-add.ensures)
    ∙ (append_assoc (c.args.text.now ++ label) value end ∙ (append_assoc c.args.text.now label (value ++ end)
    ∙ ap (λ t. c.args.text.now ++ t) (sym (append_assoc label value end)))))
