use Rattle.std.proofs.Common.{sym, ◌∙◌}
use Rattle.cb_cluster.specs.Links.{IsAt}
use Rattle.cb_cluster.proofs.Nearest.{closest_is, one_cluster}
use Rattle.cb_cluster.proofs.closest.closest.Goals as goal

pub returns-then-left-right : goal.returns-then-left-right
returns-then-left-right c =
    let best = c.index-links-first_link.result in
    let here : IsAt c.args.links.now c.first_link.result best = (c.first_link.ensures.0, sym c.index-links-first_link.is) in
    one_cluster c.args.names.now c.args.links.now c.first_link.result best c.first_link.ensures here
    (sym c.left_name-left.ensures ∙ c.if-left-right.true ∙ c.right_name-right.ensures)

pub returns : goal.returns
returns c =
    let best = c.index-links-first_link.result in
    let here : IsAt c.args.links.now c.first_link.result best = (c.first_link.ensures.0, sym c.index-links-first_link.is) in
    rw (c.left_name-left.ensures, c.right_name-right.ensures)
    (closest_is c.args.names.now c.args.links.now c.first_link.result best c.first_link.ensures here
    (λ e. c.if-left-right.false (c.left_name-left.ensures ∙ e ∙ sym c.right_name-right.ensures)))
