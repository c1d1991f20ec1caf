-- The report of the lines of each source that each platform uses.
use Rattle.std.specs.Prelude.{ℕ, ◌+◌, ◌==◌, not, if◌then◌else◌, List, [], ◌∷◌, ◌++◌, length, filter, codes, decimal}
use Rattle.std.specs.List.{flat_map}
use Rattle.cb_lines.specs.declared.line_set.Span.{Span}
use Rattle.cb_lines.specs.Lines.{has_line}
use Rattle.cb_reports.specs.declared.rows.FileRow.{FileRow}
use Rattle.cb_reports.specs.Words.{line, platform_name, numbered}

-- a line before maximal runs of later lines (own)
abbrev pub with_run : ℕ → List Span → List Span
with_run l [] = record { first = l; last = l } ∷ []
with_run l (r ∷ rs) =
    if r.first == l + 1 then record { first = l; last = r.last } ∷ rs else record { first = l; last = l } ∷ r ∷ rs

-- the maximal runs of consecutive lines of a rising list (own)
abbrev pub runs_of : List ℕ → List Span
runs_of [] = []
runs_of (l ∷ ls) = with_run l (runs_of ls)

-- a run: its one line, or its first and last line (own)
abbrev pub run_text : Span → List ℕ
run_text r = if r.first == r.last then decimal r.first else decimal r.first ++ codes "-" ++ decimal r.last

-- a run behind a space (own)
abbrev pub spaced_run : Span → List ℕ
spaced_run r = codes " " ++ run_text r

-- runs behind a label; nothing without a run (own)
abbrev pub runs_line : List ℕ → List Span → List ℕ
runs_line label [] = []
runs_line label (r ∷ rs) = line (codes "  " ++ label ++ flat_map spaced_run (r ∷ rs))

-- lines behind a label; nothing without a line (own)
abbrev pub lines_line : List ℕ → List ℕ → List ℕ
lines_line label lines = runs_line label (runs_of lines)

-- the lines that none of the sets holds (own)
abbrev pub unused : List (List ℕ) → List ℕ → List ℕ
unused [] lines = lines
unused (u ∷ us) lines = unused us (filter (λ l. not (has_line u l)) lines)

-- the lines that a platform uses (own)
abbrev pub used_line : List (List ℕ) → ℕ → List ℕ → List ℕ
used_line names platform lines = lines_line (platform_name names platform) lines

-- a source: its path and the number of its lines, the lines of each platform, and those of none (own)
abbrev pub file_text : List (List ℕ) → FileRow → List ℕ
file_text names file =
    line (file.path ++ codes " " ++ decimal (length file.counted)) ++ numbered (used_line names) 1 file.used
    ++ lines_line (codes "{}") (unused file.used file.counted)

-- the whole report (own)
abbrev pub files_text : List (List ℕ) → List FileRow → List ℕ
files_text names files = flat_map (file_text names) files
