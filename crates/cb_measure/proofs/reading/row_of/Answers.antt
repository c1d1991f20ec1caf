use Rattle.std.proofs.Common.{◌≡◌, ◌∙◌, ◌+◌, Ok, Err, List, length, sym, arith}
use Rattle.csv.specs.Records.{fields_of}
use Rattle.std.specs.BTreeSet.{keys}
use Rattle.std.proofs.lemmas.Bool.{ne_eqb}
use Rattle.cb_measure.specs.declared.row.Row.{Row}
use Rattle.cb_measure.specs.Names.{names_of}
use Rattle.cb_measure.specs.Reading.{platforms_in, row_of_fields, row_of}
use Rattle.std.proofs.lemmas.Result.{IfOk-weaker}
use Rattle.cb_measure.proofs.RowsRead.{too_many, other_width, by_these}
use Rattle.cb_measure.proofs.reading.row_of.Goals as goal

pub returns-then-number-clause-bad : goal.returns-then-number-clause-bad
returns-then-number-clause-bad c fault h before counted met =
    let e = too_many c.args.columns.now before (fields_of c.args.record.now) (omega arith) in
    cc

pub returns-then-len-columns-clause-bad : goal.returns-then-len-columns-clause-bad
returns-then-len-columns-clause-bad c fault h before counted met =
    let e = other_width c.args.columns.now before (fields_of c.args.record.now) (omega arith) (ne_eqb _ _ (λ e. c.if-len-columns.true (c.len.ensures ∙ e))) in
    cc

pub returns-clause-row : goal.returns-clause-row
returns-clause-row c =
    let P : Row → Type 0 =
    λ row. (before : List Row) → keys c.args.platforms.now ≡ names_of (platforms_in before)
    → row_of_fields before c.args.number c.field.result.now c.field-2.result.now c.field-3.result.now c.field-4.result.now ≡ Ok row
    in
    let Q : Row → Type 0 =
    λ row. (before : List Row) → c.args.number ≡ length before + 2 → keys c.args.platforms.now ≡ names_of (platforms_in before)
    → row_of c.args.columns.now before (fields_of c.args.record.now) ≡ Ok row
    in
    let f : (row : Row) → P row → Q row =
    λ row h before counted met.
    by_these c.args.columns.now before (fields_of c.args.record.now) c.args.number _ _ _ _ (Ok row) (omega arith) (sym c.len.ensures ∙ c.if-len-columns.false) counted c.field.ensures c.field-2.ensures c.field-3.ensures c.field-4.ensures (h before met)
    in
    IfOk-weaker c.row_of_fields.result P Q f c.row_of_fields.ensures.row

pub returns-clause-bad : goal.returns-clause-bad
returns-clause-bad c fault h before counted met =
    by_these c.args.columns.now before (fields_of c.args.record.now) c.args.number _ _ _ _ (Err fault) (omega arith) (sym c.len.ensures ∙ c.if-len-columns.false) counted c.field.ensures c.field-2.ensures c.field-3.ensures c.field-4.ensures
    (c.row_of_fields.ensures.bad fault h before met)
