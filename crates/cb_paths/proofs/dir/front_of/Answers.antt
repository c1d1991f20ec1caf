use Rattle.cb_paths.proofs.Below.{front_of_one}
use Rattle.cb_paths.proofs.dir.front_of.Goals as goal

pub returns-then-folder-eq1 : goal.returns-then-folder-eq1
returns-then-folder-eq1 c = λ parts plain e. front_of_one parts c.args.folder.now plain e c.if-folder-eq1.true
