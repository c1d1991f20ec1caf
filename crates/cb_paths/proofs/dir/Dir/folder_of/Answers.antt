use Rattle.std.proofs.Common.{◌≡◌, List, ℕ, subst, ◌∙◌, false, arith}
use Rattle.std.specs.List.{list_any}
use Rattle.cb_paths.specs.Paths.{is_control}
use Rattle.cb_paths.specs.inner.Trails.{Stands}
use Rattle.cb_paths.specs.declared.trail.Trail.{Trail}
use Rattle.cb_paths.proofs.Below.{held_parts, holding_long, holding_found, holding_kept}
use Rattle.cb_paths.proofs.dir.Dir.folder_of.Goals as goal

subst2 : (a b c d : List ℕ) (t : Trail) → a ≡ b → c ≡ d → Stands (held_parts a c) t → Stands (held_parts b d) t
subst2 a b c d t e f h = subst (λ x. Stands (held_parts b x) t) f (subst (λ x. Stands (held_parts x c) t) e h)

pub returns-then-len-gt-FOLDER_BYTE_LIMIT-clause-bad : goal.returns-then-len-gt-FOLDER_BYTE_LIMIT-clause-bad
returns-then-len-gt-FOLDER_BYTE_LIMIT-clause-bad c =
    let r : c.as_slice.result.now ≡ c.args.root.now = c.as_slice.ensures ∙ c.root.view_is in
    let s = subst2 c.as_slice.result.now c.args.root.now c.bytes.result.now c.args.path.now c.in_ok-trail.trail r c.bytes.ensures.bytes c.in_ok-trail.ensures in
    let n = c.len.ensures in
    let m = c.if-len-gt-FOLDER_BYTE_LIMIT.true in
    holding_long c.args.root.now c.args.path.now c.in_ok-trail.trail c.in_ok-folder.folder s c.in_ok-folder.ensures (omega arith)

pub invariant_of-result : goal.invariant_of-result
invariant_of-result c =
    let r : c.as_slice.result.now ≡ c.args.root.now = c.as_slice.ensures ∙ c.root.view_is in
    let s = subst2 c.as_slice.result.now c.args.root.now c.bytes.result.now c.args.path.now c.in_ok-trail.trail r c.bytes.ensures.bytes c.in_ok-trail.ensures in
    let n = c.len.ensures in
    let m = c.if-len-gt-FOLDER_BYTE_LIMIT.false in
    let clean = subst (λ d. list_any is_control d ≡ false) c.root.view_is c.root.invariant.clean in
    holding_kept c.args.root.now c.args.path.now c.in_ok-trail.trail c.in_ok-folder.folder s c.in_ok-folder.ensures (omega arith) clean c.bytes.ensures.normal

pub returns-clause-folder : goal.returns-clause-folder
returns-clause-folder c =
    let r : c.as_slice.result.now ≡ c.args.root.now = c.as_slice.ensures ∙ c.root.view_is in
    let s = subst2 c.as_slice.result.now c.args.root.now c.bytes.result.now c.args.path.now c.in_ok-trail.trail r c.bytes.ensures.bytes c.in_ok-trail.ensures in
    let n = c.len.ensures in
    let m = c.if-len-gt-FOLDER_BYTE_LIMIT.false in
    holding_found c.args.root.now c.args.path.now c.in_ok-trail.trail c.in_ok-folder.folder s c.in_ok-folder.ensures (omega arith)
