use Rattle.std.proofs.Common.{ℕ, List}
use Rattle.cb_paths.specs.Paths.{file_at}
use Rattle.cb_include.proofs.Chained.{goes_on_in, all_go_on_in, ends_in}
use Rattle.cb_include.proofs.searching.look_in_all.Goals as goal

pub returns-in-Some-2 : goal.returns-in-Some-2
returns-in-Some-2 g c =
    let named = λ (folder : List ℕ). file_at c.args.text.now folder c.args.command.now.root in
    let asked = goes_on_in _ named _ _ _ _ _ _ _ c.in_ok-path.ensures c.in_default.is c.in_ok-path-2.ensures in
    ends_in _ named _ _ _ _ _ _ asked c.in-Some-2.is

pub returns : goal.returns
returns g c =
    let named = λ (folder : List ℕ). file_at c.args.text.now folder c.args.command.now.root in
    let asked = goes_on_in _ named _ _ _ _ _ _ _ c.in_ok-path.ensures c.in_default.is c.in_ok-path-2.ensures in
    all_go_on_in _ named _ _ _ _ _ _ c.look_in_each-2.result asked c.in_default-2.is c.look_in_each-2.ensures
