use Rattle.cb_include.proofs.Added.{has-with_paths, longer}
use Rattle.cb_include.proofs.laws.added_paths.Goals as goal

pub returns-clause-has : goal.returns-clause-has
returns-clause-has c = has-with_paths

pub returns-clause-longer : goal.returns-clause-longer
returns-clause-longer c = longer
