-- Lines counted by the set of platforms that use them.
use Rattle.std.specs.Prelude.{◌≡◌, ℕ, ◌+◌, ◌<◌, ◌≤◌, Bool, true, false, if◌then◌else◌, List, [], ◌∷◌, sum_by}
use Rattle.std.specs.List.{All, range_with_len}
use Rattle.std.specs.Str.{bytes_eq}
use Rattle.cb_lines.specs.Lines.{has_line}
use Rattle.cb_paths.specs.Grid.{share, mean}
use Rattle.cb_sets.specs.Sets.{precedes}

-- a set of platforms, and how many lines just these platforms use (own)
pub record SetLines : Type 0 where
  pub members : List ℕ
  pub lines : ℕ

-- a setmap: the number of platforms that it is made for, and the sets with a line in the order of reports (own)
pub record Tally : Type 0 where
  pub platforms : ℕ
  pub rows : List SetLines

-- the platforms that use a line, by the lists of the lines that each of them uses; the first list is that of a
-- platform with this number (own)
abbrev pub users_from : ℕ → List (List ℕ) → ℕ → List ℕ
users_from platform [] line = []
users_from platform (used ∷ others) line =
    if has_line used line then platform ∷ users_from (platform + 1) others line
    else users_from (platform + 1) others line

-- the platforms that use a line; the first list is that of platform 1 (own)
abbrev pub users : List (List ℕ) → ℕ → List ℕ
users used line = users_from 1 used line

-- rows with so many lines more of one set (own)
abbrev pub with_count : List ℕ → ℕ → List SetLines → List SetLines
with_count set lines [] = record { members = set; lines = lines } ∷ []
with_count set lines (r ∷ rs) =
    if bytes_eq set r.members then record { members = r.members; lines = r.lines + lines } ∷ rs
    else (if precedes set r.members then record { members = set; lines = lines } ∷ r ∷ rs
    else r ∷ with_count set lines rs)

-- rows with these lines more, one after another, each for the set of the platforms that use it (own)
abbrev pub with_counted : List (List ℕ) → List ℕ → List SetLines → List SetLines
with_counted used [] rows = rows
with_counted used (line ∷ lines) rows = with_counted used lines (with_count (users used line) 1 rows)

-- a setmap with a file more: its counted lines, and the lines that each platform uses (own)
abbrev pub with_file : List (List ℕ) → List ℕ → Tally → Tally
with_file used counted map = record { platforms = map.platforms; rows = with_counted used counted map.rows }

-- the lines of a row, where its set passes a test; else none (own)
abbrev pub lines_in : (List ℕ → Bool) → SetLines → ℕ
lines_in test row = if test row.members then row.lines else 0

-- how many lines of the rows are used by a set of platforms that passes a test (own)
abbrev pub lines_where : (List ℕ → Bool) → List SetLines → ℕ
lines_where test rows = sum_by (lines_in test) rows

-- any set (own)
abbrev pub is_any : List ℕ → Bool
is_any set = true

-- a set that is not empty (own)
abbrev pub is_used : List ℕ → Bool
is_used [] = false
is_used (p ∷ ps) = true

-- each row's set stands before that of the next one in the order of reports (own)
abbrev pub AreInOrder : List SetLines → Type 0
AreInOrder [] = Unit {0}
AreInOrder (r ∷ []) = Unit {0}
AreInOrder (r ∷ s ∷ rs) = (precedes r.members s.members ≡ true) × AreInOrder (s ∷ rs)

-- a row has a line, and its set holds none but the platforms up to a number (own)
abbrev pub IsRow : ℕ → SetLines → Type 0
IsRow platforms row = (0 < row.lines) × All (λ platform. platform ≤ platforms) row.members

-- the lines that some platform uses, as a share of all lines (own)
abbrev pub coverage_of : Tally → ℕ
coverage_of map = share (lines_where is_used map.rows) (lines_where is_any map.rows)

-- the lines that a platform uses (own)
abbrev pub lines_of : ℕ → Tally → ℕ
lines_of platform map = lines_where (λ set. has_line set platform) map.rows

-- the mean over all platforms of the share of the lines that each uses (own)
abbrev pub average_of : Tally → ℕ
average_of map =
    mean (sum_by (λ platform. share (lines_of platform map) (lines_where is_any map.rows))
    (range_with_len 1 map.platforms)) map.platforms
