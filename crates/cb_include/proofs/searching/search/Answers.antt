use Rattle.std.proofs.Common.{sym, ◌∙◌}
use Rattle.cb_include.proofs.Angled.{first_of_angle}
use Rattle.cb_include.proofs.searching.search.Goals as goal

pub returns-then-header-clause-found : goal.returns-then-header-clause-found
returns-then-header-clause-found g c =
    first_of_angle _ c.args.command.now _ c.args.header.now _ _ c.look_in_each.result
    (sym c.is_absolute.ensures ∙ c.if-is_absolute.false) c.if-header.true c.look_in_each.ensures
