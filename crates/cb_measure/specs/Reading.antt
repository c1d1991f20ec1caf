-- What a file of measurements says: its rows, or its first fault (own).
use Rattle.std.specs.Prelude.{ℕ, ◌+◌, ◌==◌, ◌&&◌, not, nat_le, nat_lt, if◌then◌else◌, List, [], ◌∷◌, ◌++◌, map, length, slice_index_or, Option, Some, None, Result, Ok, Err}
use Rattle.csv.specs.Reading.{default_config, records, strip_bom}
use Rattle.cb_paths.specs.Names.{is_name}
use Rattle.cb_measure.specs.Figures.{figure}
use Rattle.cb_measure.specs.Names.{names_of}
use Rattle.cb_measure.specs.Header.{columns_of}
use Rattle.cb_measure.specs.declared.header.Columns.{Columns}
use Rattle.cb_measure.specs.declared.row.Row.{Row}
use Rattle.cb_measure.specs.declared.bad_csv.BadCsv.{BadCsv}
use Rattle.cb_measure.specs.declared.bad_csv.BadCsv.TheVariants.{Header, Fields, Fom, Name, TooMany}

-- the field of a record in this column (own)
abbrev pub field_of : List (List ℕ) → ℕ → List ℕ
field_of record' column = slice_index_or record' column []

-- the platforms of rows, as often as they stand there (own)
abbrev pub platforms_in : List Row → List (List ℕ)
platforms_in rows = map (λ (row : Row). row.platform) rows

-- the row of these fields, where its figure is one (own)
abbrev pub measured : ℕ → List ℕ → List ℕ → List ℕ → Option ℕ → Result Row BadCsv
measured number problem platform application None = Err (Fom number)
measured number problem platform application (Some fom) =
    Ok (record { problem = problem; platform = platform; application = application; fom = fom })

-- the row of these four fields behind other rows, or its first fault: a name, a 65th different platform, the figure (own)
unfoldable pub row_of_fields : List Row → ℕ → List ℕ → List ℕ → List ℕ → List ℕ → Result Row BadCsv
row_of_fields before number problem platform application fom =
    if not (is_name problem && is_name platform && is_name application) then Err (Name number)
    else if nat_lt 64 (length (names_of (platforms_in before ++ platform ∷ []))) then Err (TooMany number)
    else measured number problem platform application (figure fom)

-- the row of a record behind other rows, or its first fault; the header counts as the first row, and 100,000 may follow it (own)
unfoldable pub row_of : Columns → List Row → List (List ℕ) → Result Row BadCsv
row_of columns before record' =
    if nat_le 100000 (length before) then Err (TooMany (length before + 2))
    else if not (length record' == columns.width) then Err (Fields (length before + 2))
    else row_of_fields before (length before + 2) (field_of record' columns.problem) (field_of record' columns.platform)
    (field_of record' columns.application) (field_of record' columns.fom)

-- what follows a row, where there is no fault (own)
abbrev pub and_then : {A B : Type 0} → Result A BadCsv → (A → Result B BadCsv) → Result B BadCsv
and_then (Ok x) f = f x
and_then (Err e) f = Err e

-- the rows of the records behind others, or the first fault of these records (own)
unfoldable pub rows_of : Columns → List Row → List (List (List ℕ)) → Result (List Row) BadCsv
rows_of columns before [] = Ok before
rows_of columns before (record' ∷ records') = and_then (row_of columns before record') (λ row. rows_of columns (before ++ row ∷ []) records')

-- the rows behind a header, where its columns are known (own)
abbrev pub rows_under : Option Columns → List (List (List ℕ)) → Result (List Row) BadCsv
rows_under None records' = Err Header
rows_under (Some columns) records' = rows_of columns [] records'

-- the rows of a file's records, of which the first is the header, or the first fault (own)
unfoldable pub rows_of_records : List (List (List ℕ)) → Result (List Row) BadCsv
rows_of_records [] = Err Header
rows_of_records (header ∷ records') = rows_under (columns_of header) records'

-- the records of a text with the crate's defaults (RFC 4180); a byte order mark at the start is dropped, and blank lines are no records
abbrev pub records_of : List ℕ → List (List (List ℕ))
records_of text = records default_config (strip_bom text)

-- what a file says: its rows, or its first fault (own)
abbrev pub measurements : List ℕ → Result (List Row) BadCsv
measurements text = rows_of_records (records_of text)
