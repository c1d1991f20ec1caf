use Rattle.std.proofs.Common.{sym, ◌∙◌}
use Rattle.cb_paths.proofs.Below.{below_is_path}
use Rattle.cb_paths.proofs.path.Path.fitting.Goals as goal

pub invariant_of-result : goal.invariant_of-result
invariant_of-result c =
    below_is_path c.args.text.now c.in_ok-text.text c.requires c.if-text-gt-PATH_BYTE_LIMIT.false (sym c.has_control.ensures ∙ c.if-has_control.false) c.in_ok-text.ensures
