use Rattle.std.proofs.Common.{ℕ, List, [], ◌∷◌, ap, subst, ◌∙◌}
use Rattle.cb_tree.specs.Skeleton.{skeleton}
use Rattle.cb_pass.specs.States.{Frame, Waiting}
use Rattle.cb_pass.specs.Files.{first_frame}
use Rattle.cb_pass.specs.inner.Trails.{Opened, state_of}
use Rattle.cb_pass.specs.inner.Moves.{Goes}
use Rattle.cb_pass.proofs.Moves.{goes_on}
use Rattle.cb_pass.proofs.Begun.{main}
use Rattle.cb_pass.proofs.Beginning.{nothing_left}
use Rattle.cb_pass.proofs.walking.read_main.Goals as goal

pub returns : goal.returns
returns g c =
    let files = g.F.Files.skeletons c.args.files.now in
    let command = c.args.command.now in
    let old = c.args.trail.now in
    let new = c.read.new.trail in
    let bones = skeleton c.args.main.now in
    let frame = ap (λ (o : Opened). o.frame) c.new-file.ensures ∙ ap (λ (p : List ℕ). first_frame p 0 bones) c.in_ok-path.ensures in
    goes_on files command _ _ _ (main files command old [] bones c.requires.main)
    (subst (λ (f : Frame). Goes files command (state_of old (f ∷ []) []) (state_of new [] [])) frame
    (subst (λ (ws : List Waiting). Goes files command (state_of old (c.new-file.result.frame ∷ []) []) (state_of new [] ws)) (nothing_left c.in_ok-read.field-0)
    (c.in_ok-read.ensures [])))
