use Rattle.std.proofs.Common.{◌∷◌, ap, subst, sym, ◌∙◌}
use Rattle.std.specs.Prelude.{Option, Some, reverse}
use Rattle.cb_include.specs.declared.header.Header.{Header}
use Rattle.cb_pass.specs.inner.Trails.{Opened}
use Rattle.cb_pass.specs.inner.Moves.{IsVisited}
use Rattle.cb_pass.proofs.Acting.{each_ok}
use Rattle.cb_pass.proofs.Stepping.{with_opened, steps, meets_from, all_placed}
use Rattle.cb_pass.proofs.visit.step.Goals as goal

pub returns-in-Some-file-clause-moved : goal.returns-in-Some-file-clause-moved
returns-in-Some-file-clause-moved g c =
    let files = g.F.Files.skeletons c.args.files.now in
    let command = c.args.command.now in
    let old = c.args.trail.now in
    let mid = c.visit.new.trail in
    let new = c.include.new.trail in
    let o = c.opened.inside.innermost in
    let n = c.visit.new.file in
    let os = reverse c.opened.inside.around.items in
    let file = c.in_ok-file.file in
    let seen = c.in_ok-header.ensures in
    let meets = meets_from files command o.frame n.frame c.in-Some.header mid new file seen.behind.0 seen.behind.1 (c.in_ok-file.ensures o.frame.node seen.behind.2) in
    each_ok c.enter.result _ _ c.enter.ensures
    (λ e. steps files command old mid new o n os c.args.opened.now c.enter.new.self (Some c.in-Some.header) file
    (subst (λ (h : Option Header). IsVisited command.language old o.frame mid n.frame h) c.in-Some.is seen.visited) meets c.opened.view_is
    (e ∙ ap (λ (f : Option Opened). with_opened f (n ∷ os)) (sym c.in-Some-file.is)))

pub returns-in-Some-file-clause-placed : goal.returns-in-Some-file-clause-placed
returns-in-Some-file-clause-placed g c =
    let files = g.F.Files.skeletons c.args.files.now in
    let command = c.args.command.now in
    let old = c.args.trail.now in
    let mid = c.visit.new.trail in
    let new = c.include.new.trail in
    let o = c.opened.inside.innermost in
    let n = c.visit.new.file in
    let os = reverse c.opened.inside.around.items in
    let file = c.in_ok-file.file in
    let seen = c.in_ok-header.ensures in
    let meets = meets_from files command o.frame n.frame c.in-Some.header mid new file seen.behind.0 seen.behind.1 (c.in_ok-file.ensures o.frame.node seen.behind.2) in
    each_ok c.enter.result _ _ c.enter.ensures
    (λ e. all_placed old.probes mid.probes new.probes o n os c.args.opened.now c.enter.new.self file c.requires.placed c.opened.view_is seen.probes seen.placed meets.2 meets.1
    (e ∙ ap (λ (f : Option Opened). with_opened f (n ∷ os)) (sym c.in-Some-file.is)))

pub returns-in-Some-file-clause-count : goal.returns-in-Some-file-clause-count
returns-in-Some-file-clause-count g c =
    let files = g.F.Files.skeletons c.args.files.now in
    let command = c.args.command.now in
    let old = c.args.trail.now in
    let mid = c.visit.new.trail in
    let new = c.include.new.trail in
    let o = c.opened.inside.innermost in
    let n = c.visit.new.file in
    let os = reverse c.opened.inside.around.items in
    let file = c.in_ok-file.file in
    let seen = c.in_ok-header.ensures in
    let meets = meets_from files command o.frame n.frame c.in-Some.header mid new file seen.behind.0 seen.behind.1 (c.in_ok-file.ensures o.frame.node seen.behind.2) in
    each_ok c.enter.result _ _ c.enter.ensures (λ e. meets.3 ∙ seen.count)

pub returns-clause-moved : goal.returns-clause-moved
returns-clause-moved g c =
    let files = g.F.Files.skeletons c.args.files.now in
    let command = c.args.command.now in
    let old = c.args.trail.now in
    let mid = c.visit.new.trail in
    let new = c.include.new.trail in
    let o = c.opened.inside.innermost in
    let n = c.visit.new.file in
    let os = reverse c.opened.inside.around.items in
    let file = c.in_ok-file.file in
    let seen = c.in_ok-header.ensures in
    let meets = meets_from files command o.frame n.frame c.in-Some.header mid new file seen.behind.0 seen.behind.1 (c.in_ok-file.ensures o.frame.node seen.behind.2) in
    steps files command old mid new o n os c.args.opened.now (n ∷ os) (Some c.in-Some.header) file
    (subst (λ (h : Option Header). IsVisited command.language old o.frame mid n.frame h) c.in-Some.is seen.visited) meets c.opened.view_is
    (ap (λ (f : Option Opened). with_opened f (n ∷ os)) (sym c.in-None.is))

pub returns-clause-placed : goal.returns-clause-placed
returns-clause-placed g c =
    let files = g.F.Files.skeletons c.args.files.now in
    let command = c.args.command.now in
    let old = c.args.trail.now in
    let mid = c.visit.new.trail in
    let new = c.include.new.trail in
    let o = c.opened.inside.innermost in
    let n = c.visit.new.file in
    let os = reverse c.opened.inside.around.items in
    let file = c.in_ok-file.file in
    let seen = c.in_ok-header.ensures in
    let meets = meets_from files command o.frame n.frame c.in-Some.header mid new file seen.behind.0 seen.behind.1 (c.in_ok-file.ensures o.frame.node seen.behind.2) in
    all_placed old.probes mid.probes new.probes o n os c.args.opened.now (n ∷ os) file c.requires.placed c.opened.view_is seen.probes seen.placed meets.2 meets.1
    (ap (λ (f : Option Opened). with_opened f (n ∷ os)) (sym c.in-None.is))

pub returns-clause-count : goal.returns-clause-count
returns-clause-count g c =
    let files = g.F.Files.skeletons c.args.files.now in
    let command = c.args.command.now in
    let old = c.args.trail.now in
    let mid = c.visit.new.trail in
    let new = c.include.new.trail in
    let o = c.opened.inside.innermost in
    let n = c.visit.new.file in
    let os = reverse c.opened.inside.around.items in
    let file = c.in_ok-file.file in
    let seen = c.in_ok-header.ensures in
    let meets = meets_from files command o.frame n.frame c.in-Some.header mid new file seen.behind.0 seen.behind.1 (c.in_ok-file.ensures o.frame.node seen.behind.2) in
    meets.3 ∙ seen.count
