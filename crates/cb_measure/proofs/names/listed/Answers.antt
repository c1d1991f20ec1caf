use Rattle.std.proofs.Common.{◌≡◌, ◌∙◌, map, rules}
use Rattle.std.specs.BTreeSet.{keys}
use Rattle.std.specs.Map.Iter.{deref}
use Rattle.std.proofs.lemmas.Map.Iter.{iter_end}
use Rattle.cb_measure.proofs.names.listed.Goals as goal

pub returns : goal.returns
returns c =
    let all : map deref c.names.yielded ≡ keys c.args.names.now = search (rules, iter_end) in
    c.names.invariant ∙ all
