use Rattle.cb_pass.specs.Ends.{end_of}
use Rattle.cb_pass.proofs.Ending.{ended}
use Rattle.cb_pass.proofs.walking.run.Goals as goal

pub returns : goal.returns
returns g c =
    let k = c.in_ok-passed.passed in
    let e = c.in_ok-passed.ensures in
    c.in_ok-walk.ensures (end_of k)
    (ended (g.F.Files.skeletons c.args.files.now) c.args.command.now c.walk.new.trail k e.0 e.1 e.2 e.3)
