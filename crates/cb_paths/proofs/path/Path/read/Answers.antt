use Rattle.std.proofs.Common.{[], sym, ◌∙◌, arith}
use Rattle.cb_paths.proofs.PathFaults.{behind_first, fault_long, fault_control, fault_absolute, fault_climbs, fault_empty, walked}
use Rattle.cb_paths.proofs.path.Path.read.Goals as goal

pub returns-then-text-gt-PATH_BYTE_LIMIT-clause-bad : goal.returns-then-text-gt-PATH_BYTE_LIMIT-clause-bad
returns-then-text-gt-PATH_BYTE_LIMIT-clause-bad c = fault_long _ c.if-text-gt-PATH_BYTE_LIMIT.true

pub returns-then-has_control-clause-bad : goal.returns-then-has_control-clause-bad
returns-then-has_control-clause-bad c = fault_control _ c.if-text-gt-PATH_BYTE_LIMIT.false (sym c.has_control.ensures ∙ c.if-has_control.true)

pub returns-then-is_absolute-clause-bad : goal.returns-then-is_absolute-clause-bad
returns-then-is_absolute-clause-bad c =
    fault_absolute _ c.if-text-gt-PATH_BYTE_LIMIT.false (sym c.has_control.ensures ∙ c.if-has_control.false) (sym c.is_absolute.ensures ∙ c.if-is_absolute.true)

pub returns-then-trail-clause-bad : goal.returns-then-trail-clause-bad
returns-then-trail-clause-bad c =
    fault_climbs _ c.walk.new.self c.if-text-gt-PATH_BYTE_LIMIT.false (sym c.has_control.ensures ∙ c.if-has_control.false)
    (sym c.is_absolute.ensures ∙ c.if-is_absolute.false) (c.in_ok-walk.ensures [] c.new-trail.ensures) c.if-trail.true

pub returns-then-len-eq0-clause-bad : goal.returns-then-len-eq0-clause-bad
returns-then-len-eq0-clause-bad c =
    let held = c.walk.new.self.text.ok in
    let n = c.len.ensures in
    let z = c.if-len-eq0.true in
    fault_empty _ c.walk.new.self c.if-text-gt-PATH_BYTE_LIMIT.false (sym c.has_control.ensures ∙ c.if-has_control.false)
    (sym c.is_absolute.ensures ∙ c.if-is_absolute.false) (c.in_ok-walk.ensures [] c.new-trail.ensures) c.if-trail.false (omega arith)

pub invariant_of-result : goal.invariant_of-result
invariant_of-result c =
    let held = c.walk.new.self.text.ok in
    let n = c.len.ensures in
    let z = c.if-len-eq0.false in
    (walked _ c.walk.new.self c.if-text-gt-PATH_BYTE_LIMIT.false (sym c.has_control.ensures ∙ c.if-has_control.false)
    (sym c.is_absolute.ensures ∙ c.if-is_absolute.false) (c.in_ok-walk.ensures [] c.new-trail.ensures) c.if-trail.false (omega arith) c.in_ok-text.text (behind_first _ _ _ c.deref.ensures.value c.in_ok-text.ensures)).again

pub returns-clause-path : goal.returns-clause-path
returns-clause-path c =
    let held = c.walk.new.self.text.ok in
    let n = c.len.ensures in
    let z = c.if-len-eq0.false in
    (walked _ c.walk.new.self c.if-text-gt-PATH_BYTE_LIMIT.false (sym c.has_control.ensures ∙ c.if-has_control.false)
    (sym c.is_absolute.ensures ∙ c.if-is_absolute.false) (c.in_ok-walk.ensures [] c.new-trail.ensures) c.if-trail.false (omega arith) c.in_ok-text.text (behind_first _ _ _ c.deref.ensures.value c.in_ok-text.ensures)).path_is
