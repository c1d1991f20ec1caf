use Rattle.std.proofs.Common.{ℕ, ◌+◌, ◌-◌, map, ap, ◌∙◌, arith}
use Rattle.std.specs.List.{range_with_len}
use Rattle.cb_sets.specs.Sets.{members}
use Rattle.cb_sets.specs.Tallies.{with_counted}
use Rattle.cb_sets.specs.inner.Rows.{seen}
use Rattle.cb_sets.proofs.Tallied.{part_added, part_fits}
use Rattle.cb_sets.proofs.rows.add_span.Goals as goal

pub add_count-requires-clause-fits : goal.add_count-requires-clause-fits
add_count-requires-clause-fits c =
    let fits = part_fits c.args.used.now c.args.span c.parts.first c.part_from-part.result.last (map seen c.args.rows.now.items) (map seen c.parts.rows.items) c.parts.invariant.from c.part_from-part.ensures.from c.part_from-part.ensures.within c.parts.invariant.rows c.requires.fits in
    omega (arith, fits, c.from.ensures)

pub returns-then-part-span : goal.returns-then-part-span
returns-then-part-span c = record {
  rising = c.in_ok-add_count.ensures.rising;
  rows = part_added c.args.used.now c.args.span.first c.parts.first c.part_from-part.result.last c.from.result (members c.part_from-part.result.set) (map seen c.args.rows.now.items) (map seen c.parts.rows.items) (map seen c.add_count.new.rows.items) c.parts.invariant.from c.part_from-part.ensures.from c.from.ensures c.parts.invariant.rows c.part_from-part.ensures.alike c.in_ok-add_count.ensures.rows
      ∙ ap (λ (n : ℕ). with_counted c.args.used.now (range_with_len c.args.span.first (n + 1 - c.args.span.first)) (map seen c.args.rows.now.items)) c.if-part-span.true;
}

pub parts-preserved : goal.parts-preserved
parts-preserved c = record {
  from = omega arith;
  within = omega arith;
  rising = c.in_ok-add_count.ensures.rising;
  rows = part_added c.args.used.now c.args.span.first c.parts.first c.part_from-part.result.last c.from.result (members c.part_from-part.result.set) (map seen c.args.rows.now.items) (map seen c.parts.rows.items) (map seen c.add_count.new.rows.items) c.parts.invariant.from c.part_from-part.ensures.from c.from.ensures c.parts.invariant.rows c.part_from-part.ensures.alike c.in_ok-add_count.ensures.rows;
}
