use Rattle.std.proofs.Common.{List, [], ◌∷◌, ◌++◌, map, subst}
use Rattle.cb_pass.specs.declared.reading.Reading.{Reading}
use Rattle.cb_pass.specs.States.{Waiting, Forced, Main}
use Rattle.cb_pass.specs.Passes.{first_waiting}
use Rattle.cb_pass.specs.inner.Trails.{state_of}
use Rattle.cb_pass.specs.inner.Moves.{Goes}
use Rattle.cb_pass.specs.inner.Readings.{left_of}
use Rattle.cb_pass.proofs.Acting.{each_ok}
use Rattle.cb_pass.proofs.Moves.{goes_on}
use Rattle.cb_pass.proofs.Stepping.{grown, longer_still}
use Rattle.cb_pass.proofs.Beginning.{all, nothing_left}
use Rattle.cb_pass.proofs.walking.begin.Goals as goal

pub read_main-requires-clause-probed : goal.read_main-requires-clause-probed
read_main-requires-clause-probed g c =
    let files = g.F.Files.skeletons c.args.files.now in
    let command = c.args.command.now in
    let old = c.args.trail.now in
    let mid = c.take_words.new.trail in
    let new = c.force_all.new.trail in
    longer_still (command.main ∷ []) old.probes new.probes c.requires.probed
    (longer_still old.probes mid.probes new.probes (grown files command old mid [] _ (c.in_ok-take_words.ensures files []))
    (grown files command mid new [] _
    (subst (λ (ws : List Waiting). Goes files command (state_of mid [] (map Forced command.forced ++ [])) (state_of new [] ws)) (nothing_left c.in_ok-force_all.field-0) (c.in_ok-force_all.ensures []))))

pub returns : goal.returns
returns g c =
    let files = g.F.Files.skeletons c.args.files.now in
    let command = c.args.command.now in
    let old = c.args.trail.now in
    let mid = c.take_words.new.trail in
    let new = c.force_all.new.trail in
    each_ok c.read_main.result _ _ c.read_main.ensures
    (λ h.
    goes_on files command _ _ _
    (subst (λ (r : Reading). Goes files command (state_of old [] (first_waiting command)) (state_of new [] (left_of r (Main ∷ [])))) c.in_default.is
    (all files command old mid new (c.in_ok-take_words.ensures files) c.in_ok-force_all.field-0 c.in_ok-force_all.ensures))
    h)
