use Rattle.std.proofs.Common.{◌≡◌, ℕ, Bool, ◌+◌, ◌++◌, List, map, filter, length, sym, ap, ◌∙◌, arith}
use Rattle.std.specs.List.{range_with_len}
use Rattle.std.proofs.lemmas.List.{length_push}
use Rattle.cb_lines.specs.Lines.{has_line}
use Rattle.cb_sets.specs.Sets.{members}
use Rattle.cb_reports.specs.Words.{listed, platform_name}
use Rattle.cb_reports.proofs.Sets.{filter_yes, filter_no, names_grow, all_members}
use Rattle.cb_reports.proofs.summary.add_names_of.Goals as goal
use Rattle.cb_reports.proofs.summary.add_names_of.Goals.{then-has+in_ok-add_separator+in_ok-add, else-has}

pub loop-place-preserved : goal.loop-place-preserved
loop-place-preserved c =
    let step = c.loop-place in
    let p : ℕ → Bool = has_line (members c.args.set) in
    let f : ℕ → List ℕ = platform_name c.args.names.now in
    let so_far = filter p (range_with_len 1 step.place) in
    elim c.if-has.branch [
      | then-has+in_ok-add_separator+in_ok-add w ↦ (
          let yes_ = filter_yes p step.place (sym c.has.ensures ∙ w.if-has.true) in
          record {
            text = w.text-is ∙ (names_grow f c.args.text.now step.text w.add_separator.new.text w.add.new.self so_far step.count (step.place + 1)
                step.invariant.text step.invariant.count w.in_ok-add_separator.ensures
                (w.in_ok-add.ensures ∙ ap (λ n. w.add_separator.new.text ++ n) w.platform_name.ensures)
                ∙ ap (λ ps. c.args.text.now ++ listed (map f ps)) (sym yes_));
            count = w.count-is ∙ (ap (λ n. n + 1) step.invariant.count ∙ sym (length_push so_far (step.place + 1)) ∙ ap length (sym yes_));
            few = (let e = w.count-is in let k = step.invariant.few in omega arith);
          })
      | else-has w ↦ (
          let no_ = filter_no p step.place (sym c.has.ensures ∙ w.if-has.false) in
          record {
            text = w.text-is ∙ (step.invariant.text ∙ ap (λ ps. c.args.text.now ++ listed (map f ps)) (sym no_));
            count = w.count-is ∙ (step.invariant.count ∙ ap length (sym no_));
            few = (let e = w.count-is in let k = step.invariant.few in omega arith);
          })
    ]

pub returns : goal.returns
returns c =
    let end : c.loop-place.place ≡ 32 = omega arith in
    c.loop-place.invariant.text
    ∙ ap (λ ps. c.args.text.now ++ listed (map (platform_name c.args.names.now) ps)) (all_members c.args.set c.loop-place.place end)
