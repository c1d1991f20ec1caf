use Rattle.cb_lines.specs.Lines.{with_line, union_of}
use Rattle.cb_lines.proofs.Members.{increasing_from_rising, has-with_line, Rising-with_line, has-union_of, Rising-union_of, same_numbers}
use Rattle.cb_lines.proofs.Lacks.{Rising-from_increasing}
use Rattle.std.proofs.Common.{arith}
use Rattle.cb_lines.proofs.laws.rising_sets.Goals as goal

pub returns-clause-same : goal.returns-clause-same
returns-clause-same c = λ a b up up' same. same_numbers 0 a b (Rising-from_increasing a up) (Rising-from_increasing b up') same

pub returns-clause-with_line : goal.returns-clause-with_line
returns-clause-with_line c = λ added set line. has-with_line added set line

pub returns-clause-with_line_rises : goal.returns-clause-with_line_rises
returns-clause-with_line_rises c = λ added set up. increasing_from_rising 0 (with_line added set) (Rising-with_line 0 added set (omega arith) (Rising-from_increasing set up))

pub returns-clause-union_of : goal.returns-clause-union_of
returns-clause-union_of c = λ a b line. has-union_of a b line

pub returns-clause-union_of_rises : goal.returns-clause-union_of_rises
returns-clause-union_of_rises c = λ a b up. increasing_from_rising 0 (union_of a b) (Rising-union_of a b (Rising-from_increasing b up))
