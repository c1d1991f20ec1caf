use Rattle.std.proofs.Common.{◌≡◌, if◌then◌else◌, unwrap_or, subst}
use Rattle.cb_paths.specs.Paths.{is_absolute, folder_at}
use Rattle.cb_outside.proofs.Folders.{top_instead}
use Rattle.cb_outside.proofs.std_tree.absolute_or_top.Goals as goal

pub returns-in-Err-Bad : goal.returns-in-Err-Bad
returns-in-Err-Bad c =
    let text = c.args.text.now in
    let top = c.in_ok-top.top in
    let fault = rw c.in-Err-Bad.field-0-is at c.in-Err-Bad.ensures.bad in
    subst (λ t. top ≡ (if is_absolute text then unwrap_or (folder_at text t) t else t)) c.in_ok-top.ensures
    (top_instead (is_absolute text) text top c.in-Err-Bad._bad fault)
