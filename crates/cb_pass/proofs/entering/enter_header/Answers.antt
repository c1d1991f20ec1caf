use Rattle.std.proofs.Common.{sym, ◌∙◌}
use Rattle.cb_include.specs.Candidates.{including, candidates}
use Rattle.cb_include.specs.Seen.{with_paths, up_to}
use Rattle.cb_pass.specs.Files.{is_present}
use Rattle.cb_pass.proofs.Acting.{each}
use Rattle.cb_pass.proofs.Meeting.{IsSearched, finds, misses}
use Rattle.cb_pass.proofs.entering.enter_header.Goals as goal

pub returns-in-Some : goal.returns-in-Some
returns-in-Some g c =
    let files = g.F.Files.skeletons c.args.files.now in
    let from = including c.args.from in
    let old = c.args.trail.now in
    let mid = c.search.new.self in
    let looked = with_paths old.probes (up_to (is_present files) (candidates c.args.command.now from c.args.header.now)) in
    let s : IsSearched old mid looked = record {
      memo = c.in_ok-found.ensures.memo;
      count = c.in_ok-found.ensures.count;
      probes = c.in_ok-found.ensures.probed;
      reached = c.in_ok-found.ensures.reached;
      longer = c.in_ok-found.ensures.longer;
    } in
    each c.enter_found.result _ _ c.enter_found.ensures
    (λ file h. finds files c.args.command.now from (record { path = c.args.path.now; node = c.args.node }) c.args.depth c.args.header.now old mid c.enter_found.new.trail
    c.in-Some.place file (sym c.in-Some.is ∙ c.in_ok-found.ensures.found) s h)

pub returns-in_ok-note_missing-in-None : goal.returns-in_ok-note_missing-in-None
returns-in_ok-note_missing-in-None g c =
    let files = g.F.Files.skeletons c.args.files.now in
    let from = including c.args.from in
    let old = c.args.trail.now in
    let mid = c.search.new.self in
    let looked = with_paths old.probes (up_to (is_present files) (candidates c.args.command.now from c.args.header.now)) in
    let s : IsSearched old mid looked = record {
      memo = c.in_ok-found.ensures.memo;
      count = c.in_ok-found.ensures.count;
      probes = c.in_ok-found.ensures.probed;
      reached = c.in_ok-found.ensures.reached;
      longer = c.in_ok-found.ensures.longer;
    } in
    misses files c.args.command.now from (record { path = c.args.path.now; node = c.args.node }) c.args.depth c.args.header.now old mid c.note_missing.new.trail
    (sym c.in-None.is ∙ c.in_ok-found.ensures.found) s c.in_ok-note_missing-in-None.ensures
