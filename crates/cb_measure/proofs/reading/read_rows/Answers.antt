use Rattle.std.proofs.Common.{◌≡◌, ◌+◌, true, false, Err, [], ◌∷◌, length, refl, sym, ap, arith, rules, length-append}
use Rattle.std.specs.Result.{is_ok}
use Rattle.std.specs.BTreeSet.{keys}
use Rattle.std.proofs.lemmas.List.Folds.{list_all-append}
use Rattle.cb_measure.specs.inner.Finding.{is_small}
use Rattle.std.proofs.lemmas.Result.{err_from_is_err_and}
use Rattle.cb_measure.specs.declared.bad_csv.CsvFault.TheVariants as CsvFault
use Rattle.csv.specs.Records.{fields_of}
use Rattle.cb_measure.proofs.RowsRead.{read_more, read_all, read_fault, no_header, bad_header, none_read}
use Rattle.cb_measure.proofs.reading.read_rows.Goals as goal

pub returns-then-not-branch-clause-bad : goal.returns-then-not-branch-clause-bad
returns-then-not-branch-clause-bad c fault h =
    let none : c.in_ok-next.field-0 ≡ false = c.if-not-branch.true in
    let e = no_header c.args.text.now (c.in_ok-next.ensures.ended (rw none refl) c.args.text.now [] c.opened-reader.ensures) in
    cc

pub returns-in_default-clause-bad : goal.returns-in_default-clause-bad
returns-in_default-clause-bad c fault h =
    let some : c.in_ok-next.field-0 ≡ true = c.if-not-branch.false in
    let e = bad_header c.args.text.now c.next.new.reader (fields_of c.next.new.record) (c.in_ok-next.ensures.found (rw some refl) c.args.text.now [] c.opened-reader.ensures) (sym c.in_default.ensures) in
    cc

pub rows-init : goal.rows-init
rows-init c =
    let some : c.in_ok-next.field-0 ≡ true = c.if-not-branch.false in
    let none = c.new-rows.ensures.items in
    let empty = c.new-platforms.ensures.empty in
    let header = c.in_ok-next.ensures.found (rw some refl) c.args.text.now [] c.opened-reader.ensures in
    record {
      read = rw (none, empty) (none_read c.args.text.now c.next.new.reader c.in-Some.columns (fields_of c.next.new.record) header (sym c.in-Some.ensures));
      counted = rw none refl;
      met_few = rw empty (omega arith);
      small = rw none refl;
      few = rw none (omega arith);
    }

pub returns-then-not-branch-2-clause-rows : goal.returns-then-not-branch-2-clause-rows
returns-then-not-branch-2-clause-rows c =
    let none : c.in_ok-next-2.field-0 ≡ false = c.if-not-branch-2.true in
    let read = c.rows.invariant.read in
    rw c.in_ok-new.ensures (read_all c.args.text.now c.rows.reader c.in-Some.columns c.rows.rows.items (keys c.rows.platforms) read (c.in_ok-next-2.ensures.ended (rw none refl) c.args.text.now (read.header ∷ read.seen) read.behind))

pub returns-in_err-row_of-clause-bad : goal.returns-in_err-row_of-clause-bad
returns-in_err-row_of-clause-bad c fault h =
    let some : c.in_ok-next-2.field-0 ≡ true = c.if-not-branch-2.false in
    let p = err_from_is_err_and c.from_residual-in_err-row_of.result c.from_residual-in_err-row_of.ensures.1 in
    let e : c.in_err-row_of.field-0.0 ≡ CsvFault.Bad fault = cc in
    let read = c.rows.invariant.read in
    read_fault c.args.text.now c.rows.reader c.next-in-rows.new.reader c.in-Some.columns c.rows.rows.items (keys c.rows.platforms) (fields_of c.next-in-rows.new.record) fault read
    (c.in_ok-next-2.ensures.found (rw some refl) c.args.text.now)
    (c.in_err-row_of.ensures.bad fault (ap Err e) c.rows.rows.items c.rows.invariant.counted read.met)

pub rows-preserved : goal.rows-preserved
rows-preserved c =
    let some : c.in_ok-next-2.field-0 ≡ true = c.if-not-branch-2.false in
    let good : is_ok c.push.result ≡ true = search rules in
    let items = rw good at c.push.ensures.items in
    let read = c.rows.invariant.read in
    let more = read_more c.args.text.now c.rows.reader c.next-in-rows.new.reader c.in-Some.columns c.rows.rows.items (keys c.rows.platforms) (keys c.row_of.new.platforms) (fields_of c.next-in-rows.new.record) c.in_ok-row_of.field-0 read
    (c.in_ok-next-2.ensures.found (rw some refl) c.args.text.now)
    (c.in_ok-row_of.ensures.row c.rows.rows.items c.rows.invariant.counted read.met)
    (c.in_ok-row_of.ensures.met c.rows.rows.items read.met)
    in
    let longer : length c.push.new.self.items ≡ length c.rows.rows.items + 1 = rw (items, length-append) refl in
    let room = c.in_ok-row_of.ensures.room in
    let counted = c.rows.invariant.counted in
    record {
      read = rw items more;
      counted = omega arith;
      met_few = c.in_ok-row_of.ensures.few;
      small = rw (items, list_all-append is_small c.rows.rows.items (c.in_ok-row_of.field-0 ∷ []), c.rows.invariant.small, c.in_ok-row_of.ensures.small) refl;
      few = omega arith;
    }
