use Rattle.std.proofs.Common.{ℕ, Bool, List, [], ap, ◌∙◌}
use Rattle.std.specs.Prelude.{◌||◌, ◌&&◌, ◌==◌}
use Rattle.std.specs.Str.{bytes_eq}
use Rattle.cb_pass.specs.Reached.{has_bit}
use Rattle.cb_pass.proofs.Rows.{marked, same_item}
use Rattle.cb_pass.proofs.trail.add_node.Goals as goal

pub returns-clause-marked : goal.returns-clause-marked
returns-clause-marked c = λ paths path p n e lt.
    let rows = c.grow.new.rows.items in
    let there = c.in_ok-grow.ensures.there in
    marked path p c.args.node n c.add.new.self paths rows c.args.place e lt there
    (λ k. c.in_ok-add.ensures k ∙ ap (λ (w : List ℕ). (k == c.args.node) || has_bit w k) (c.index_mut.ensures.value ∙ same_item rows c.args.place _ [] there))
    ∙ ap (λ (b : Bool). (bytes_eq p path && (n == c.args.node)) || b) (c.in_ok-grow.ensures.same paths p n)
