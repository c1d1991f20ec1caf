use Rattle.std.proofs.Common.{[], List, subst}
use Rattle.std.specs.Prelude.{Option, reverse}
use Rattle.cb_tree.specs.declared.node.NodeKind.{NodeKind}
use Rattle.cb_pass.specs.inner.Trails.{Opened, frames_of, state_of}
use Rattle.cb_pass.specs.inner.Moves.{Arrives, Goes, IsStep}
use Rattle.cb_pass.proofs.Moves.{goes_on, step_goes}
use Rattle.cb_pass.proofs.Stepping.{not_over}
use Rattle.cb_pass.proofs.reading.read.Goals as goal

pub returns-then-is_full : goal.returns-then-is_full
returns-then-is_full g c =
    let files = g.F.Files.skeletons c.args.files.now in
    let command = c.args.command.now in
    let opened = c.settle.new.self in
    let trail = c.nodes.trail in
    let arrives = subst (λ (k : Option NodeKind). Arrives c.nodes.opened opened k) c.in-Some.is c.in_ok-kind.ensures in
    let end = c.end.new.trail in
    let around = reverse c.opened.inside.around.items in
    λ waiting.
    subst (λ (os : List Opened). Goes files command (state_of c.args.trail.now (frames_of os) waiting) (state_of end [] [])) c.new-opened.ensures
    (goes_on files command _ _ _ (c.nodes.invariant.0 waiting)
    (goes_on files command _ _ _ (arrives.0 files command trail waiting)
    (step_goes files command _ _ (not_over c.in-Some.kind opened trail waiting arrives.1)
    (subst (λ (os : List Opened). IsStep files command (state_of trail (frames_of os) waiting) (state_of end [] [])) c.opened.view_is
    (c.in_ok-end.ensures.ended files command (frames_of around) waiting)))))

pub step-requires-clause-placed : goal.step-requires-clause-placed
step-requires-clause-placed g c =
    let files = g.F.Files.skeletons c.args.files.now in
    let command = c.args.command.now in
    let opened = c.settle.new.self in
    let trail = c.nodes.trail in
    let arrives = subst (λ (k : Option NodeKind). Arrives c.nodes.opened opened k) c.in-Some.is c.in_ok-kind.ensures in
    arrives.2 trail.probes c.nodes.invariant.1

pub nodes-preserved : goal.nodes-preserved
nodes-preserved g c =
    let files = g.F.Files.skeletons c.args.files.now in
    let command = c.args.command.now in
    let opened = c.settle.new.self in
    let trail = c.nodes.trail in
    let arrives = subst (λ (k : Option NodeKind). Arrives c.nodes.opened opened k) c.in-Some.is c.in_ok-kind.ensures in (
      (λ waiting.
          goes_on files command _ _ _ (c.nodes.invariant.0 waiting)
          (goes_on files command _ _ _ (arrives.0 files command trail waiting)
          (step_goes files command _ _ (not_over c.in-Some.kind opened trail waiting arrives.1) (c.in_ok-step.ensures.moved waiting)))),
      c.in_ok-step.ensures.placed,
    )
