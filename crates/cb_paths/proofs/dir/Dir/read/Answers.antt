use Rattle.std.proofs.Common.{◌≡◌, false, sym, subst, ◌∙◌, arith}
use Rattle.std.specs.List.{list_any}
use Rattle.cb_paths.specs.Paths.{is_control}
use Rattle.cb_paths.specs.inner.Trails.{Stands}
use Rattle.cb_paths.proofs.Folders.{walked_parts, folder_fault_long, folder_fault_result, folder_fault_control, found}
use Rattle.cb_paths.proofs.dir.Dir.read.Goals as goal

pub returns-then-text-gt-FOLDER_BYTE_LIMIT-clause-bad : goal.returns-then-text-gt-FOLDER_BYTE_LIMIT-clause-bad
returns-then-text-gt-FOLDER_BYTE_LIMIT-clause-bad c = folder_fault_long _ _ c.if-text-gt-FOLDER_BYTE_LIMIT.true

pub returns-then-len-gt-FOLDER_BYTE_LIMIT-clause-bad : goal.returns-then-len-gt-FOLDER_BYTE_LIMIT-clause-bad
returns-then-len-gt-FOLDER_BYTE_LIMIT-clause-bad c =
    let b : c.as_slice.result.now ≡ c.args.base.now = c.as_slice.ensures ∙ c.base.view_is in
    let s = subst (λ d. Stands (walked_parts c.args.text.now d) c.in_ok-trail.trail) b c.in_ok-trail.ensures in
    let n = c.len.ensures in
    let m = c.if-len-gt-FOLDER_BYTE_LIMIT.true in
    folder_fault_result c.args.text.now c.args.base.now c.in_ok-trail.trail c.in_ok-folder.folder c.if-text-gt-FOLDER_BYTE_LIMIT.false s c.in_ok-folder.ensures (omega arith)

pub returns-then-has_control-clause-bad : goal.returns-then-has_control-clause-bad
returns-then-has_control-clause-bad c =
    let b : c.as_slice.result.now ≡ c.args.base.now = c.as_slice.ensures ∙ c.base.view_is in
    let s = subst (λ d. Stands (walked_parts c.args.text.now d) c.in_ok-trail.trail) b c.in_ok-trail.ensures in
    let n = c.len.ensures in
    let m = c.if-len-gt-FOLDER_BYTE_LIMIT.false in
    folder_fault_control c.args.text.now c.args.base.now c.in_ok-trail.trail c.in_ok-folder.folder c.if-text-gt-FOLDER_BYTE_LIMIT.false s c.in_ok-folder.ensures (omega arith) (sym c.has_control.ensures ∙ c.if-has_control.true)

pub invariant_of-result : goal.invariant_of-result
invariant_of-result c =
    let b : c.as_slice.result.now ≡ c.args.base.now = c.as_slice.ensures ∙ c.base.view_is in
    let s = subst (λ d. Stands (walked_parts c.args.text.now d) c.in_ok-trail.trail) b c.in_ok-trail.ensures in
    let n = c.len.ensures in
    let k = c.base.invariant.clean in
    let f = found c.args.text.now c.args.base.now c.in_ok-trail.trail c.in_ok-folder.folder c.if-text-gt-FOLDER_BYTE_LIMIT.false s c.in_ok-folder.ensures (omega arith) (sym c.has_control.ensures ∙ c.if-has_control.false) (subst (λ d. list_any is_control d ≡ false) c.base.view_is k) in
    f.kept

pub returns-clause-folder : goal.returns-clause-folder
returns-clause-folder c =
    let b : c.as_slice.result.now ≡ c.args.base.now = c.as_slice.ensures ∙ c.base.view_is in
    let s = subst (λ d. Stands (walked_parts c.args.text.now d) c.in_ok-trail.trail) b c.in_ok-trail.ensures in
    let n = c.len.ensures in
    let k = c.base.invariant.clean in
    let f = found c.args.text.now c.args.base.now c.in_ok-trail.trail c.in_ok-folder.folder c.if-text-gt-FOLDER_BYTE_LIMIT.false s c.in_ok-folder.ensures (omega arith) (sym c.has_control.ensures ∙ c.if-has_control.false) (subst (λ d. list_any is_control d ≡ false) c.base.view_is k) in
    f.at
