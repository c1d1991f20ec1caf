use Rattle.std.proofs.Common.{◌≡◌, ◌∙◌, true, false, sym}
use Rattle.cb_measure.proofs.RowsRead.{no_name, no_room, no_figure, a_row, met_platforms, names_push}
use Rattle.cb_measure.proofs.reading.row_of_fields.Goals as goal

pub returns-then-not-are_names-clause-bad : goal.returns-then-not-are_names-clause-bad
returns-then-not-are_names-clause-bad c fault h before met =
    let e = no_name before c.args.number c.args.problem.now c.args.platform.now c.args.application.now c.args.fom.now (sym c.if-not-are_names.ensures) in
    cc

pub returns-then-not-branch-clause-bad : goal.returns-then-not-branch-clause-bad
returns-then-not-branch-clause-bad c fault h before met =
    let new = met_platforms before _ _ c.args.platform.now met c.in_ok-meet.ensures.met in
    let few = c.in_ok-meet.ensures.few in
    let tested : c.in_ok-meet.field-0 ≡ false = c.if-not-branch.true in
    let e = no_room before c.args.number c.args.problem.now c.args.platform.now c.args.application.now c.args.fom.now (sym c.if-not-are_names.ensures) (rw (← new) (sym few ∙ tested)) in
    cc

pub returns-in_default-clause-bad : goal.returns-in_default-clause-bad
returns-in_default-clause-bad c fault h before met =
    let new = met_platforms before _ _ c.args.platform.now met c.in_ok-meet.ensures.met in
    let few = c.in_ok-meet.ensures.few in
    let tested : c.in_ok-meet.field-0 ≡ true = c.if-not-branch.false in
    let e = no_figure before c.args.number c.args.problem.now c.args.platform.now c.args.application.now c.args.fom.now (sym c.if-not-are_names.ensures) (rw (← new) (sym few ∙ tested)) (sym c.in_default.ensures.value) in
    cc

pub returns-clause-row : goal.returns-clause-row
returns-clause-row c before met =
    let new = met_platforms before _ _ c.args.platform.now met c.in_ok-meet.ensures.met in
    let few = c.in_ok-meet.ensures.few in
    let tested : c.in_ok-meet.field-0 ≡ true = c.if-not-branch.false in
    rw c.in_ok-row.ensures
    (a_row before c.args.number c.args.problem.now c.args.platform.now c.args.application.now c.args.fom.now c.in-Some.fom (sym c.if-not-are_names.ensures) (rw (← new) (sym few ∙ tested)) (sym c.in-Some.ensures.value))

pub returns-clause-met : goal.returns-clause-met
returns-clause-met c before met =
    rw c.in_ok-row.ensures (c.in_ok-meet.ensures.met ∙ rw met (names_push before (record { problem = c.args.problem.now; platform = c.args.platform.now; application = c.args.application.now; fom = c.in-Some.fom })))
