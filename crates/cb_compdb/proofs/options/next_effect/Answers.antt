use Rattle.std.proofs.Common.{◌∙◌, ◌∷◌, List, ℕ, arith, length, sym, ap, length-drop}
use Rattle.std.proofs.lemmas.List.{nil_from_length}
use Rattle.cb_compdb.proofs.Words.{first_with, first_takes, first_lacks, first_skips, first_other, none_left}
use Rattle.cb_compdb.proofs.options.next_effect.Goals as goal

pub returns-in-With-clause-effect : goal.returns-in-With-clause-effect
returns-in-With-clause-effect c =
    first_with c.args.words.now c.words.left.now c.in-Some.word.now c.as_slice.result.now c.in-Some.behind.now c.in-With.kind c.in-With.text.now c.words.invariant.same c.in-Some.ensures.cases.0 c.in-With.ensures c.as_slice.ensures

pub returns-in_err-text-in-Takes-clause-effect : goal.returns-in_err-text-in-Takes-clause-effect
returns-in_err-text-in-Takes-clause-effect c =
    rw c.from_residual.ensures
    (first_lacks c.args.words.now c.words.left.now c.in-Some.word.now c.as_slice.result.now c.in-Some.behind.now c.in-Takes.kind c.words.invariant.same c.in-Some.ensures.cases.0 c.in-Takes.ensures c.as_slice.ensures (nil_from_length c.in-Some.behind.now c.in_err-text-in-Takes.ensures.cases))

pub returns-in-Takes-clause-effect : goal.returns-in-Takes-clause-effect
returns-in-Takes-clause-effect c =
    first_takes c.args.words.now c.words.left.now c.in-Some.word.now c.as_slice.result.now c.in-Some.behind.now c.in-Takes.kind c.as_slice-text.result.now c.in_ok-text-in-Takes.behind.now c.words.invariant.same c.in-Some.ensures.cases.0 c.in-Takes.ensures c.as_slice.ensures
    (c.in_ok-text-in-Takes.ensures.cases.0 ∙ ap (λ (x : List ℕ). x ∷ c.in_ok-text-in-Takes.behind.now) (sym c.as_slice-text.ensures))

pub words-preserved-in-Skips : goal.words-preserved-in-Skips
words-preserved-in-Skips c = record {
  same = first_skips c.args.words.now c.words.left.now c.in-Some.word.now c.as_slice.result.now c.in-Some.behind.now c.behind_first-left.result.now c.words.invariant.same c.in-Some.ensures.cases.0 c.in-Skips.ensures c.as_slice.ensures c.behind_first-left.ensures;
  within = omega (arith, c.in-Some.ensures.cases.1, ap length c.behind_first-left.ensures, length-drop 1 c.in-Some.behind.now);
}

pub words-preserved : goal.words-preserved
words-preserved c = record {
  same = first_other c.args.words.now c.words.left.now c.in-Some.word.now c.as_slice.result.now c.in-Some.behind.now c.words.invariant.same c.in-Some.ensures.cases.0 c.in-Passed.ensures c.as_slice.ensures;
  within = omega (arith, c.in-Some.ensures.cases.1);
}

pub returns-clause-effect : goal.returns-clause-effect
returns-clause-effect c = none_left c.args.words.now c.words.left.now c.words.invariant.same c.in_default.ensures.cases
