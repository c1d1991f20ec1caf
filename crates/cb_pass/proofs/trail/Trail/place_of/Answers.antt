use Rattle.std.proofs.Common.{◌≡◌, ◌<◌, false, length, subst}
use Rattle.std.specs.Prelude.{MatchOption}
use Rattle.cb_include.specs.Seen.{has_path}
use Rattle.cb_pass.specs.inner.Trails.{Findings}
use Rattle.cb_pass.proofs.Rows.{place, placed}
use Rattle.cb_pass.proofs.trail.Trail.place_of.Goals as goal

pub returns : goal.returns
returns c =
    subst (λ (t : Findings). MatchOption c.place_of.result (has_path t.probes c.args.path.now ≡ false) (λ i. (place c.args.path.now t.probes ≡ i) × (i < length t.probes))) c.self.view_is
    (placed c.args.path.now c.self.inside.probes c.place_of.result c.place_of.ensures)
