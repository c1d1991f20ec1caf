use Rattle.std.proofs.Common.{refl, sym}
use Rattle.cb_measure.specs.Figures.{with_fraction}
use Rattle.cb_measure.proofs.Spelled.{all_digits}
use Rattle.cb_measure.proofs.figure.with_fraction.Goals as goal

pub returns-in_err-all-clause-value : goal.returns-in_err-all-clause-value
unfolding with_fraction
returns-in_err-all-clause-value c = rw (c.from_residual.ensures, ← c.in_err-all.ensures.value) refl

pub returns-in_err-parts-clause-value : goal.returns-in_err-parts-clause-value
returns-in_err-parts-clause-value c = cc (c.in_err-parts.ensures.digits (all_digits _ _ _ (sym c.in_ok-all.ensures.value)))

pub returns-clause-value : goal.returns-clause-value
unfolding with_fraction
returns-clause-value c = rw (← c.in_ok-all.ensures.value, ← c.in_ok-parts.ensures.value) c.kept.ensures.value
