use Rattle.std.proofs.Common.{◌∙◌}
use Rattle.cb_analysis.proofs.Fitting.{nil_behind}
use Rattle.cb_analysis.proofs.Entries.{are_platforms}
use Rattle.cb_analysis.proofs.platforms.read_entries.Goals as goal

pub returns-clause-valid : goal.returns-clause-valid
returns-clause-valid c =
    are_platforms _ c.args.entries.now.entries
    ((rw c.in-None.ensures.steps.0 at c.platforms.invariant.1) ∙ nil_behind c.platforms.platforms.items)
    c.iter-name-items.ensures.ordered c.requires
