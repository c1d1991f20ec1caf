use Rattle.std.proofs.Common.{◌≡◌, ◌++◌, ℕ, List, length, ap, ◌∙◌, arith}
use Rattle.std.proofs.Common.{length-append}
use Rattle.cb_include.specs.Candidates.{including, candidates}
use Rattle.cb_include.specs.Seen.{up_to}
use Rattle.cb_pass.specs.Reached.{is_in}
use Rattle.cb_pass.specs.inner.Trails.{Findings}
use Rattle.cb_pass.proofs.Rows.{goes_on}
use Rattle.cb_pass.proofs.Meeting.{there}
use Rattle.cb_pass.proofs.trail.Trail.search.Goals as goal

pub invariant_of-self : goal.invariant_of-self
invariant_of-self g c =
    let old = c.self.inside.probes in
    let looked = up_to (g.F.Present.holds c.args.files.now) (candidates c.args.command.now (including c.args.from) c.args.header.now) in
    let l = c.added_paths.ensures.longer old looked in
    let e : length c.search.new.probes ≡ length (old ++ l.0) = ap length (c.in-Ok.ensures.probed ∙ l.1) in
    (omega (arith, c.self.invariant.0, e, length-append old l.0), c.self.invariant.1)

pub returns-in-Ok-clause-there : goal.returns-in-Ok-clause-there
returns-in-Ok-clause-there g c =
    let old = c.self.inside.probes in
    let paths = candidates c.args.command.now (including c.args.from) c.args.header.now in
    there (g.F.Present.holds c.args.files.now) old paths c.search.new.probes c.in-Ok.found c.in-Ok.ensures.found c.in-Ok.ensures.probed c.one_search.ensures.asked c.added_paths.ensures.has

pub returns-in-Ok-clause-reached : goal.returns-in-Ok-clause-reached
returns-in-Ok-clause-reached g c = λ p n.
    let old = c.self.inside.probes in
    let rows = c.self.inside.rows.items in
    let looked = up_to (g.F.Present.holds c.args.files.now) (candidates c.args.command.now (including c.args.from) c.args.header.now) in
    let l = c.added_paths.ensures.longer old looked in
    ap (λ (ps : List (List ℕ)). is_in ps rows p n) (c.in-Ok.ensures.probed ∙ l.1)
    ∙ (goes_on old l.0 rows c.self.invariant.0 p n ∙ ap (λ (t : Findings). is_in t.probes t.rows p n) c.self.view_is)

pub returns-in-Ok-clause-longer : goal.returns-in-Ok-clause-longer
returns-in-Ok-clause-longer g c =
    let old = c.self.inside.probes in
    let looked = up_to (g.F.Present.holds c.args.files.now) (candidates c.args.command.now (including c.args.from) c.args.header.now) in
    let l = c.added_paths.ensures.longer old looked in
    (l.0, c.in-Ok.ensures.probed ∙ (l.1 ∙ ap (λ (t : Findings). t.probes ++ l.0) c.self.view_is))
