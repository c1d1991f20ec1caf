use Rattle.std.proofs.Common.{ap, sym, ◌∙◌, map}
use Rattle.cb_expand.specs.Expansion.{plain}
use Rattle.cb_expand.proofs.Unique.{unique}
use Rattle.cb_expand.proofs.laws.one_expansion.Goals as goal

pub returns : goal.returns
returns c = λ ms mode tokens a b m n x y.
    let same = unique x.1 y.1 in
    (sym x.2 ∙ (ap (map plain) same.0 ∙ y.2), same.1)
