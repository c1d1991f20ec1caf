-- The rows that were read so far.
use Rattle.std.proofs.Common.{◌≡◌, ℕ, ◌+◌, ◌≤◌, ◌<◌, Some, None, Ok, Err, Result, List, [], ◌∷◌, ◌++◌, length, refl, sym, ◌∙◌, arith, append_assoc, ◌&&◌, true, false, eqb, eq-eqb}
use Rattle.std.specs.Prelude.{nat_le, nat_lt}
use Rattle.std.proofs.lemmas.Bool.Decides.{nat_tests}
use Rattle.cb_paths.specs.Names.{is_name}
use Rattle.cb_measure.specs.Figures.{figure}
use Rattle.std.specs.BTreeSet.{insert_key}
use Rattle.std.specs.Ordering.{nat_cmp}
use Rattle.std.specs.Cmp.Lexicographic.{slice_cmp}
use Rattle.std.proofs.lemmas.List.{map-append}
use Rattle.std.proofs.lemmas.List.Sums.{fold-append}
use denote.Ref.{Bor}
use Rattle.csv.specs.declared.reader.Reader.{Reader}
use Rattle.cb_measure.specs.Names.{names_of}
use Rattle.cb_measure.specs.inner.Records.{IsBehind}
use Rattle.cb_measure.specs.Header.{columns_of}
use Rattle.cb_measure.specs.Reading.{platforms_in, field_of, row_of_fields, row_of, rows_of, rows_of_records, records_of, measurements, and_then}
use Rattle.cb_measure.specs.declared.header.Columns.{Columns}
use Rattle.cb_measure.specs.declared.row.Row.{Row}
use Rattle.cb_measure.specs.declared.bad_csv.BadCsv.{BadCsv}
use Rattle.cb_measure.specs.declared.bad_csv.BadCsv.TheVariants as bad
use Rattle.cb_measure.proofs.Consumed.{behind_some}

not_few : (n : ℕ) → nat_le n 64 ≡ false → nat_lt 64 n ≡ true
not_few n h = grind (arith, nat_tests)

are_few : (n : ℕ) → nat_le n 64 ≡ true → nat_lt 64 n ≡ false
are_few n h = grind (arith, nat_tests)

-- one more platform
pub names_push : (rows : List Row) (row : Row) → insert_key (slice_cmp nat_cmp) (names_of (platforms_in rows)) row.platform ≡ names_of (platforms_in (rows ++ row ∷ []))
unfolding names_of
names_push rows row =
    rw (map-append (λ (r : Row). r.platform) rows (row ∷ [])) (sym (fold-append (insert_key (slice_cmp nat_cmp)) [] (platforms_in rows) (row.platform ∷ [])))

-- rows behind rows
pub rows-append : (columns : Columns) (before : List Row) (xs ys : List (List (List ℕ)))
    → rows_of columns before (xs ++ ys) ≡ and_then (rows_of columns before xs) (λ rows. rows_of columns rows ys)
unfolding rows_of
rows-append columns before [] ys = refl
rows-append columns before (x ∷ xs) ys = by (row_of columns before x) (λ row. rows-append columns (before ++ row ∷ []) xs ys)
  where
    by : (r : Result Row BadCsv)
        → ((row : Row) → rows_of columns (before ++ row ∷ []) (xs ++ ys) ≡ and_then (rows_of columns (before ++ row ∷ []) xs) (λ rows. rows_of columns rows ys))
        → and_then r (λ row. rows_of columns (before ++ row ∷ []) (xs ++ ys)) ≡ and_then (and_then r (λ row. rows_of columns (before ++ row ∷ []) xs)) (λ rows. rows_of columns rows ys)
    by (Ok row) more = more row
    by (Err e) more = refl

-- one more row, and a fault at the next one
pub rows_push : (columns : Columns) (xs : List (List (List ℕ))) (x : List (List ℕ)) (rows : List Row) (row : Row) → rows_of columns [] xs ≡ Ok rows → row_of columns rows x ≡ Ok row
    → rows_of columns [] (xs ++ x ∷ []) ≡ Ok (rows ++ row ∷ [])
unfolding rows_of
rows_push columns xs x rows row e f = rows-append columns [] xs (x ∷ []) ∙ rw (e, f) refl

pub rows_fault : (columns : Columns) (xs rest : List (List (List ℕ))) (x : List (List ℕ)) (rows : List Row) (fault : BadCsv) → rows_of columns [] xs ≡ Ok rows → row_of columns rows x ≡ Err fault
    → rows_of columns [] ((xs ++ x ∷ []) ++ rest) ≡ Err fault
unfolding rows_of
rows_fault columns xs rest x rows fault e f = rw (append_assoc xs (x ∷ []) rest) (rows-append columns [] xs (x ∷ rest) ∙ rw (e, f) refl)

-- the first fault of four fields, or their row
pub no_name : (before : List Row) (n : ℕ) (p h a f : List ℕ) → (is_name p && is_name h && is_name a) ≡ false → row_of_fields before n p h a f ≡ Err (bad.Name n)
unfolding row_of_fields
no_name before n p h a f e = rw e refl

pub no_room : (before : List Row) (n : ℕ) (p h a f : List ℕ) → (is_name p && is_name h && is_name a) ≡ true
    → nat_le (length (names_of (platforms_in before ++ h ∷ []))) 64 ≡ false → row_of_fields before n p h a f ≡ Err (bad.TooMany n)
unfolding row_of_fields
no_room before n p h a f e few = rw (e, not_few (length (names_of (platforms_in before ++ h ∷ []))) few) refl

pub no_figure : (before : List Row) (n : ℕ) (p h a f : List ℕ) → (is_name p && is_name h && is_name a) ≡ true
    → nat_le (length (names_of (platforms_in before ++ h ∷ []))) 64 ≡ true → figure f ≡ None → row_of_fields before n p h a f ≡ Err (bad.Fom n)
unfolding row_of_fields
no_figure before n p h a f e few g = rw (e, are_few (length (names_of (platforms_in before ++ h ∷ []))) few, g) refl

pub a_row : (before : List Row) (n : ℕ) (p h a f : List ℕ) (x : ℕ) → (is_name p && is_name h && is_name a) ≡ true
    → nat_le (length (names_of (platforms_in before ++ h ∷ []))) 64 ≡ true → figure f ≡ Some x
    → row_of_fields before n p h a f ≡ Ok (record { problem = p; platform = h; application = a; fom = x })
unfolding row_of_fields
a_row before n p h a f x e few g = rw (e, are_few (length (names_of (platforms_in before ++ h ∷ []))) few, g) refl

-- how many platforms there are with one more
pub met_platforms : (before : List Row) (met new : List (List ℕ)) (h : List ℕ) → met ≡ names_of (platforms_in before) → new ≡ insert_key (slice_cmp nat_cmp) met h
    → new ≡ names_of (platforms_in before ++ h ∷ [])
unfolding names_of
met_platforms before met new h e f = f ∙ rw e (sym (fold-append (insert_key (slice_cmp nat_cmp)) [] (platforms_in before) (h ∷ [])))

-- the first fault of a record, or its row
pub too_many : (columns : Columns) (before : List Row) (x : List (List ℕ)) → 100000 ≤ length before → row_of columns before x ≡ Err (bad.TooMany (length before + 2))
unfolding row_of
too_many columns before x h = let e : nat_le 100000 (length before) ≡ true = grind (arith, nat_tests) in rw e refl

pub other_width : (columns : Columns) (before : List Row) (x : List (List ℕ)) → length before < 100000 → eqb (length x) columns.width ≡ false
    → row_of columns before x ≡ Err (bad.Fields (length before + 2))
unfolding row_of
other_width columns before x h w = let e : nat_le 100000 (length before) ≡ false = grind (arith, nat_tests) in rw (e, w) refl

pub by_fields : (columns : Columns) (before : List Row) (x : List (List ℕ)) → length before < 100000 → eqb (length x) columns.width ≡ true
    → row_of columns before x ≡ row_of_fields before (length before + 2) (field_of x columns.problem) (field_of x columns.platform) (field_of x columns.application) (field_of x columns.fom)
unfolding row_of
by_fields columns before x h w = let e : nat_le 100000 (length before) ≡ false = grind (arith, nat_tests) in rw (e, w) refl

pub by_these : (columns : Columns) (before : List Row) (x : List (List ℕ)) (n : ℕ) (p h a f : List ℕ) (r : Result Row BadCsv) → length before < 100000 → length x ≡ columns.width → n ≡ length before + 2
    → p ≡ field_of x columns.problem → h ≡ field_of x columns.platform → a ≡ field_of x columns.application → f ≡ field_of x columns.fom
    → row_of_fields before n p h a f ≡ r → row_of columns before x ≡ r
by_these columns before x n p h a f r few width en ep eh ea ef g = by_fields columns before x few (eq-eqb (length x) columns.width width) ∙ (rw (en, ep, eh, ea, ef) at g)

-- what was read of a text: the header, and then these rows
pub record AreRead (text : List ℕ) (reader : Reader (Bor (List ℕ))) (columns : Columns) (rows : List Row) (platforms : List (List ℕ)) : Type 0 where
  pub header : List (List ℕ)
  pub seen : List (List (List ℕ))
  pub behind : IsBehind reader text (header ∷ seen)
  pub places : columns_of header ≡ Some columns
  pub are : rows_of columns [] seen ≡ Ok rows
  pub met : platforms ≡ names_of (platforms_in rows)

-- one more record of the text, and none
pub read_more : (text : List ℕ) (a b : Reader (Bor (List ℕ))) (columns : Columns) (rows : List Row) (met new : List (List ℕ)) (x : List (List ℕ)) (row : Row)
    → AreRead text a columns rows met → ((seen : List (List (List ℕ))) → IsBehind a text seen → IsBehind b text (seen ++ x ∷ []))
    → row_of columns rows x ≡ Ok row → new ≡ names_of (platforms_in (rows ++ row ∷ [])) → AreRead text b columns (rows ++ row ∷ []) new
read_more text a b columns rows met new x row h next e f = record {
  header = h.header;
  seen = h.seen ++ x ∷ [];
  behind = next (h.header ∷ h.seen) h.behind;
  places = h.places;
  are = rows_push columns h.seen x rows row h.are e;
  met = f;
}

pub read_all : (text : List ℕ) (a : Reader (Bor (List ℕ))) (columns : Columns) (rows : List Row) (met : List (List ℕ)) → (h : AreRead text a columns rows met)
    → records_of text ≡ h.header ∷ h.seen → measurements text ≡ Ok rows
unfolding rows_of_records
read_all text a columns rows met h e = rw (e, h.places) h.are

pub read_fault : (text : List ℕ) (a b : Reader (Bor (List ℕ))) (columns : Columns) (rows : List Row) (met : List (List ℕ)) (x : List (List ℕ)) (fault : BadCsv)
    → AreRead text a columns rows met → ((seen : List (List (List ℕ))) → IsBehind a text seen → IsBehind b text (seen ++ x ∷ []))
    → row_of columns rows x ≡ Err fault → measurements text ≡ Err fault
unfolding rows_of_records
read_fault text a b columns rows met x fault h next e =
    let s = behind_some b text _ (next (h.header ∷ h.seen) h.behind) in
    rw (s.1, h.places) (rows_fault columns h.seen s.0 x rows fault h.are e)

-- a text without a header, and one whose header is none
pub no_header : (text : List ℕ) → records_of text ≡ [] → measurements text ≡ Err bad.Header
unfolding rows_of_records
no_header text e = rw e refl

pub bad_header : (text : List ℕ) (a : Reader (Bor (List ℕ))) (header : List (List ℕ)) → IsBehind a text (header ∷ []) → columns_of header ≡ None → measurements text ≡ Err bad.Header
unfolding rows_of_records
bad_header text a header h e = let s = behind_some a text _ h in rw (s.1, e) refl

pub none_read : (text : List ℕ) (a : Reader (Bor (List ℕ))) (columns : Columns) (header : List (List ℕ)) → IsBehind a text (header ∷ []) → columns_of header ≡ Some columns → AreRead text a columns [] []
unfolding rows_of names_of
none_read text a columns header h e = record { header = header; seen = []; behind = h; places = e; are = refl; met = refl }
