use Rattle.std.proofs.Common.{refl}
use Rattle.cb_measure.specs.Header.{columns_of}
use Rattle.cb_measure.proofs.header.columns_of.Goals as goal

pub returns : goal.returns
unfolding columns_of
returns c =
    rw (← c.in_ok-problem.ensures, ← c.in_ok-platform.ensures, ← c.in_ok-application.ensures, ← c.in_ok-fom.ensures, c.len.ensures) refl
