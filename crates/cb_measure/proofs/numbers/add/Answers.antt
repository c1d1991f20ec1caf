use Rattle.std.proofs.Common.{◌≡◌, ◌∙◌, ◌+◌, ℕ, List, Option, None, is_some, if◌then◌else◌, refl, sym, ap, arith}
use Rattle.std.specs.HashMap.{hash_map_len}
use Rattle.cb_measure.specs.inner.Numbers.{number_found, AreApart}
use Rattle.cb_measure.proofs.Counted.{found_after, IsAdded, added_kept, added_apart, not_some}
use Rattle.cb_measure.proofs.numbers.add.Goals as goal

added : (c : goal.In_ok-insert) → IsAdded (number_found c.args.numbers.now) (number_found c.insert.new.self) c.in_ok-from_slice.field-0.items c.len-count.result
added c = record {
  after = found_after c.args.numbers.now c.insert.new.self c.in_ok-from_slice.field-0 c.len-count.result c.in_ok-insert.ensures.updates;
  none = rw c.in_ok-from_slice.ensures.items (not_some (number_found c.args.numbers.now c.args.name.now) (sym c.if-contains_key.ensures));
}

pub returns-clause-kept : goal.returns-clause-kept
returns-clause-kept c = added_kept (number_found c.args.numbers.now) (number_found c.insert.new.self) c.in_ok-from_slice.field-0.items c.len-count.result (added c)

pub returns-clause-apart : goal.returns-clause-apart
returns-clause-apart c a =
    let none : c.in_ok-insert.field-0 ≡ None = c.in_ok-insert.ensures.old ∙ (added c).none in
    let new : Option ℕ → ℕ = λ o. if is_some o then 0 else 1 in
    let one : new c.in_ok-insert.field-0 ≡ new None = ap new none in
    let len : hash_map_len c.insert.new.self ≡ c.len-count.result + 1 = omega (arith, c.in_ok-insert.ensures.len, c.len-count.ensures.len, one) in
    rw len (added_apart (number_found c.args.numbers.now) (number_found c.insert.new.self) c.in_ok-from_slice.field-0.items c.len-count.result (added c) (omega arith) (rw c.len-count.ensures.len a))
