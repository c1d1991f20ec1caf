use Rattle.std.proofs.Common.{◌≡◌, ℕ, ◌+◌, ◌-◌, ◌||◌, ◌&&◌, not, subst, arith}
use Rattle.std.specs.List.{range_with_len}
use Rattle.cb_lines.specs.Lines.{has_line}
use Rattle.cb_lines.proofs.Lacks.{lacking_more}
use Rattle.cb_lines.proofs.lacking.add_lacking.Goals as goal

pub returns-then-stretch-span : goal.returns-then-stretch-span
returns-then-stretch-span c = λ line.
    let first : ℕ = c.args.span.first in
    subst (λ (n : ℕ). has_line c.add_unless_held.new.lines line ≡ (has_line c.args.lines.now line || (has_line (range_with_len first (n + 1 - first)) line && not (has_line c.args.other.now line))))
    c.if-stretch-span.true
    (lacking_more first c.stretches.first c.alike_from-stretch.result.last c.alike_from-stretch.result.is_held c.args.lines.now c.stretches.lines c.add_unless_held.new.lines c.args.other.now c.stretches.invariant.from c.alike_from-stretch.ensures.from c.stretches.invariant.members c.alike_from-stretch.ensures.alike c.in_ok-add_unless_held.ensures line)

pub stretches-preserved : goal.stretches-preserved
stretches-preserved c = record {
  from = omega arith;
  within = omega arith;
  members = lacking_more c.args.span.first c.stretches.first c.alike_from-stretch.result.last c.alike_from-stretch.result.is_held c.args.lines.now c.stretches.lines c.add_unless_held.new.lines c.args.other.now c.stretches.invariant.from c.alike_from-stretch.ensures.from c.stretches.invariant.members c.alike_from-stretch.ensures.alike c.in_ok-add_unless_held.ensures;
}
