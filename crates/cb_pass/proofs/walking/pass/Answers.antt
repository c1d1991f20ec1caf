use Rattle.cb_pass.proofs.Agreeing.{same_pass}
use Rattle.cb_pass.proofs.Grown.{main_first}
use Rattle.cb_pass.specs.Ends.{end_of}
use Rattle.cb_pass.proofs.walking.pass.Goals as goal

pub returns-clause-first : goal.returns-clause-first
returns-clause-first g c =
    main_first (g.F.Files.skeletons c.args.files.now) c.args.command.now (end_of c.in_ok-passed.passed) c.in_ok-passed.ensures

pub returns-clause-frame : goal.returns-clause-frame
returns-clause-frame g c = λ other agree.
    same_pass (g.F.Files.skeletons c.args.files.now) other c.args.command.now (end_of c.in_ok-passed.passed) c.in_ok-passed.ensures agree
