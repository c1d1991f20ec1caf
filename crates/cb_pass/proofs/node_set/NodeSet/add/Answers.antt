use Rattle.std.proofs.Common.{ap, ◌∙◌}
use Rattle.std.specs.Prelude.{◌==◌, ◌||◌}
use Rattle.cb_pass.specs.Reached.{has_bit}
use Rattle.cb_pass.proofs.Words.{same_bits}
use Rattle.cb_pass.proofs.node_set.NodeSet.add.Goals as goal

pub returns : goal.returns
returns c = λ n.
    c.set_bit.ensures n
    ∙ (ap (λ b. (n == c.args.node) || b) (same_bits c.grow.new.words.items c.self.inside.words.items c.in_ok-grow.ensures.same n)
    ∙ ap (λ words. (n == c.args.node) || has_bit words n) c.self.view_is)
