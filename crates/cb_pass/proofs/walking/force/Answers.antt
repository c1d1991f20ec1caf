use Rattle.std.proofs.Common.{ℕ, List, sym, subst, ◌∙◌}
use Rattle.std.specs.Prelude.{Option, Some, None}
use Rattle.cb_pass.specs.Headers.{quote_header}
use Rattle.cb_pass.specs.Files.{Searches, start_of}
use Rattle.cb_pass.specs.inner.Trails.{Opened}
use Rattle.cb_pass.specs.inner.Moves.{IsMet}
use Rattle.cb_pass.proofs.Acting.{each}
use Rattle.cb_pass.proofs.Moves.{goes_on}
use Rattle.cb_pass.proofs.Begun.{forced_none, forced}
use Rattle.cb_pass.proofs.walking.force.Goals as goal

pub returns-then-is_empty : goal.returns-then-is_empty
returns-then-is_empty g c =
    let files = g.F.Files.skeletons c.args.files.now in
    let command = c.args.command.now in
    let old = c.args.trail.now in
    λ waiting. forced_none files command old c.note.new.self waiting c.args.text.now (sym c.is_empty.ensures ∙ c.if-is_empty.true) c.in_ok-note.ensures

pub returns-in-Some : goal.returns-in-Some
returns-in-Some g c =
    let files = g.F.Files.skeletons c.args.files.now in
    let command = c.args.command.now in
    let old = c.args.trail.now in
    let mid = c.enter_header.new.trail in
    let e = sym c.is_empty.ensures ∙ c.if-is_empty.false in
    let meets = subst (λ (t : List ℕ). IsMet files command (Searches None (start_of command) 0 (quote_header t)) old mid c.in_ok-file.field-0) c.in_ok-text.ensures c.in_ok-file.ensures in
    each c.read.result _ _ c.read.ensures
    (λ reading h waiting.
    goes_on files command _ _ _
    (forced files command old mid waiting c.args.text.now (Some c.in-Some.file) e
    (subst (λ (f : Option Opened). IsMet files command (Searches None (start_of command) 0 (quote_header c.args.text.now)) old mid f) c.in-Some.is meets))
    (h waiting))

pub returns : goal.returns
returns g c =
    let files = g.F.Files.skeletons c.args.files.now in
    let command = c.args.command.now in
    let old = c.args.trail.now in
    let mid = c.enter_header.new.trail in
    let e = sym c.is_empty.ensures ∙ c.if-is_empty.false in
    let meets = subst (λ (t : List ℕ). IsMet files command (Searches None (start_of command) 0 (quote_header t)) old mid c.in_ok-file.field-0) c.in_ok-text.ensures c.in_ok-file.ensures in
    λ waiting.
    forced files command old mid waiting c.args.text.now None e
    (subst (λ (f : Option Opened). IsMet files command (Searches None (start_of command) 0 (quote_header c.args.text.now)) old mid f) c.in-None.is meets)
