-- The header of a file of measurements (own).
use Rattle.std.specs.Prelude.{ℕ, ◌==◌, if◌then◌else◌, List, length, Option, Some, None, option_and_then, codes}
use Rattle.std.specs.List.{count_by, position_or_len}
use Rattle.std.specs.Str.{bytes_eq}
use Rattle.cb_measure.specs.declared.header.Columns.{Columns}

-- the place of the one field that is this name, where there is one (own)
unfoldable pub column_of : List ℕ → List (List ℕ) → Option ℕ
column_of name header =
    if count_by (λ field. bytes_eq field name) header == 1 then Some (position_or_len (λ field. bytes_eq field name) header) else None

-- the places of the four columns of a header; others are passed over (own)
unfoldable pub columns_of : List (List ℕ) → Option Columns
columns_of header =
    option_and_then (λ problem.
    option_and_then (λ platform.
    option_and_then (λ application.
    option_and_then (λ fom.
    Some (record { width = length header; problem = problem; platform = platform; application = application; fom = fom }))
    (column_of (codes "fom") header))
    (column_of (codes "application") header))
    (column_of (codes "platform") header))
    (column_of (codes "problem") header)
