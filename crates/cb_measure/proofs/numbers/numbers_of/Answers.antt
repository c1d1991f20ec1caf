use Rattle.std.proofs.Common.{◌≡◌, ◌+◌, List, [], ◌∷◌, ◌++◌, take, sym, ap, ◌∙◌, refl, arith}
use Rattle.std.specs.HashMap.{hash_map_len}
use Rattle.std.proofs.lemmas.List.{take_more, take_all}
use Rattle.cb_measure.specs.inner.Numbers.{number_found}
use Rattle.cb_measure.specs.declared.row.Row.{Row}
use Rattle.cb_measure.proofs.Counted.{none_apart, rows_found, numbering}
use Rattle.cb_measure.proofs.numbers.numbers_of.Goals as goal

pub rows-init : goal.rows-init
rows-init c = record { apart = none_apart c.new-numbers.result c.new-numbers.ensures.empty; found = tt }

pub rows-preserved : goal.rows-preserved
rows-preserved c =
    let h = c.row-item.result in
    let i = c.rows.row-index in
    let more : take (i + 1) c.args.rows.now ≡ take i c.args.rows.now ++ h ∷ [] =
    take_more c.args.rows.now i h c.rows-test.true ∙ ap (λ (x : Row). take i c.args.rows.now ++ x ∷ []) (sym c.row-item.is)
    in
    record {
      apart = c.in_ok-add-3.ensures.apart (c.in_ok-add-2.ensures.apart (c.in_ok-add.ensures.apart c.rows.invariant.apart));
      found = rw more (rows_found _ _ _ _ (take i c.args.rows.now) h c.rows.invariant.found c.in_ok-add.ensures.kept c.in_ok-add-2.ensures.kept c.in_ok-add-3.ensures.kept
          (rw c.as_slice.ensures at c.in_ok-add.ensures.known) (rw c.as_slice-in-rows.ensures at c.in_ok-add-2.ensures.known) (rw c.as_slice-in-rows-2.ensures at c.in_ok-add-3.ensures.known));
    }

pub returns : goal.returns
returns c =
    let all : take c.rows.row-index c.args.rows.now ≡ c.args.rows.now = take_all _ _ (omega arith) in
    numbering (number_found c.rows.numbers) (hash_map_len c.rows.numbers) c.args.rows.now c.rows.invariant.apart (rw all at c.rows.invariant.found)
