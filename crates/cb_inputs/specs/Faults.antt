-- The texts of refusals.
use Rattle.std.specs.Prelude.{ℕ, List, [], ◌∷◌, ◌++◌, codes, decimal}
use Rattle.cb_tree.specs.Faults.{fault_text}
use Rattle.cb_analysis.specs.Faults.{kind_number, kind_name}
use Rattle.cb_compdb.specs.Faults.{fault_number, fault_name}
use Rattle.cb_compdb.specs.declared.fault.BadDatabase.{BadDatabase}
use Rattle.cb_compdb.specs.declared.fault.BadDatabase.TheVariants as database
use Rattle.cb_measure.specs.declared.bad_csv.BadCsv.{BadCsv}
use Rattle.cb_measure.specs.declared.bad_csv.BadCsv.TheVariants as csv
use Rattle.cb_inputs.specs.declared.refused.BodyFault.{BodyFault}
use Rattle.cb_inputs.specs.declared.refused.BodyFault.TheVariants as body
use Rattle.cb_inputs.specs.declared.refused.LimitName.{LimitName}
use Rattle.cb_inputs.specs.declared.refused.LimitName.TheVariants.{Sources, SourceBytes, Databases, DatabaseBytes, Commands}
use Rattle.cb_inputs.specs.Texts.{most}
use Rattle.cb_inputs.specs.declared.refused.Refused.{Refused}
use Rattle.cb_inputs.specs.declared.refused.Refused.TheVariants as refused

-- the name of a limit (own)
abbrev pub limit_name : LimitName → List ℕ
limit_name Sources = codes "sources"
limit_name SourceBytes = codes "source-bytes"
limit_name Databases = codes "databases"
limit_name DatabaseBytes = codes "database-bytes"
limit_name Commands = codes "commands"

-- the number of a fault of measurements (own)
abbrev pub csv_number : BadCsv → ℕ
csv_number csv.Header = 1
csv_number (csv.Fields row) = 2
csv_number (csv.Fom row) = 3
csv_number (csv.Name row) = 4
csv_number (csv.TooMany row) = 5

-- its name (own)
abbrev pub csv_name : BadCsv → List ℕ
csv_name csv.Header = codes "Header"
csv_name (csv.Fields row) = codes "Fields"
csv_name (csv.Fom row) = codes "Fom"
csv_name (csv.Name row) = codes "Name"
csv_name (csv.TooMany row) = codes "TooMany"

-- the row that it is told of, where the header is row 1 (own)
abbrev pub csv_row : BadCsv → ℕ
csv_row csv.Header = 1
csv_row (csv.Fields row) = row
csv_row (csv.Fom row) = row
csv_row (csv.Name row) = row
csv_row (csv.TooMany row) = row

-- the row of a fault of measurements, as its text has it (own)
unfoldable pub row_text : BadCsv → List ℕ
row_text bad = codes " row " ++ decimal (csv_row bad)

-- a space before a place that is not empty (own)
abbrev pub place_text : List ℕ → List ℕ
place_text [] = []
place_text (b ∷ bs) = codes " " ++ b ∷ bs

-- a space before the entry of a fault that is told of one (own)
abbrev pub entry_text : BadDatabase → List ℕ
entry_text (database.NotObject entry) = codes " " ++ decimal entry
entry_text (database.Field entry) = codes " " ++ decimal entry
entry_text (database.OpenQuote entry) = codes " " ++ decimal entry
entry_text bad = []

-- what a fault has before its place: the kind of the input, the number and the name (own)
unfoldable pub head_text : List ℕ → ℕ → List ℕ → List ℕ
head_text input number name = codes "bad " ++ input ++ codes " " ++ decimal number ++ codes " " ++ name

-- the text of a fault of what is put (own)
abbrev pub body_text : BodyFault → List ℕ
body_text (body.Source bad) = fault_text bad
body_text (body.Analysis bad) = head_text (codes "analysis") (kind_number bad.kind) (kind_name bad.kind) ++ place_text bad.place
body_text (body.Database bad) = head_text (codes "database") (fault_number bad) (fault_name bad) ++ entry_text bad
body_text (body.Csv bad) = head_text (codes "measurements") (csv_number bad) (csv_name bad) ++ row_text bad

-- the text of a refusal (own)
abbrev pub refused_text : Refused → List ℕ
refused_text (refused.Body fault) = body_text fault
refused_text refused.Absent = codes "not found"
refused_text (refused.Limit name n) =
    codes "limit " ++ limit_name name ++ codes " " ++ decimal n ++ codes " " ++ decimal (most name)
refused_text refused.Store = codes "store failed"
refused_text refused.NoMemory = codes "out of memory"
