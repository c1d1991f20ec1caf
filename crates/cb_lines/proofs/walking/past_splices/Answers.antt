use Rattle.std.proofs.Common.{◌≡◌, ◌+◌, ◌-◌, ◌^◌, ℕ, min, drop, refl, ap, ◌∙◌, arith}
use Rattle.std.proofs.lemmas.Bool.{false≢true}
use Rattle.std.proofs.lemmas.List.{take_rest}
use Rattle.cb_lines.specs.inner.Held.{marks_held}
use Rattle.cb_lines.proofs.Holding.{Rises-behind, past_more}
use Rattle.cb_lines.proofs.walking.past_splices.Goals as goal

pub splices-preserved : goal.splices-preserved
splices-preserved c =
    let is = c.splices-test.ensures.0 refl in
    let e : c.saturating_add-line.result ≡ min (2 ^ 32 - 1) (c.splices.line + 1) = omega arith in
    record {
      within = omega (arith, is.0);
      same = λ bytes. ap (λ (line : ℕ). marks_held line c.args.at bytes (drop (c.splices.count + 1) c.args.splices.now)) e ∙ past_more c.args.from c.splices.line c.splices.count c.args.at c.args.splices.now is.0 is.1 c.splices.invariant.same bytes;
    }

pub returns-clause-rises : goal.returns-clause-rises
returns-clause-rises c =
    rw (take_rest c.args.splices.now c.splices.count) (Rises-behind c.splices.count c.args.at 0 c.args.splices.now c.requires (λ h. false≢true (c.splices-test.ensures.1 h)))
