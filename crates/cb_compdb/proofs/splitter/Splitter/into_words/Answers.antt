use Rattle.std.proofs.Common.{ap}
use Rattle.cb_compdb.specs.inner.Steps.{Progress}
use Rattle.cb_compdb.proofs.SplitSteps.{ended}
use Rattle.cb_compdb.proofs.splitter.Splitter.into_words.Goals as goal

pub returns : goal.returns
returns c =
    ended c.args.self c.end.new.self c.self.inside.done c.in_ok-end.ensures.ends c.in_ok-end.ensures.none (ap (λ (p : Progress). p.done) c.self.view_is)
