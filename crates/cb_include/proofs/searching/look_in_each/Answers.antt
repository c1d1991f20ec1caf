use Rattle.cb_paths.specs.Paths.{file_at}
use Rattle.cb_include.proofs.Chained.{next_goes_on, next_ends}
use Rattle.cb_include.proofs.searching.look_in_each.Goals as goal

pub returns-in-Some : goal.returns-in-Some
returns-in-Some g c =
    c.folders.invariant _ _ (next_ends _ (λ folder. file_at c.args.text.now folder c.args.root.now) _ _ _
    c.folders-test.true c.folder-item.is _ _ _ _ c.in_ok-path.ensures c.in-Some.is)

pub folders-preserved : goal.folders-preserved
folders-preserved g c found new rest =
    c.folders.invariant found new (next_goes_on _ (λ folder. file_at c.args.text.now folder c.args.root.now) _ _ _
    c.folders-test.true c.folder-item.is _ _ _ _ _ c.in_ok-path.ensures c.in_default.is rest)
