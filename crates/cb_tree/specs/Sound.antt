-- What a source is read as: its nodes, or its first fault.
use Rattle.std.specs.Prelude.{◌≡◌, ℕ, ◌+◌, ◌<◌, ◌≤◌, Bool, false, not, if◌then◌else◌, List, [], ◌∷◌, length, count_by, None, Some}
use Rattle.cb_paths.specs.declared.limits.TheConstants.{SOURCE_BYTE_LIMIT, SOURCE_LINE_LIMIT}
use Rattle.cb_lines.specs.Marks.{marks_of, is_line_feed}
use Rattle.cb_tokens.specs.Cut.{HasOpenComment}
use Rattle.cb_tokens.specs.Logical.{Line, AreLinesOf}
use Rattle.cb_tree.specs.declared.fault.SourceKind.TheVariants as kind
use Rattle.cb_tree.specs.declared.fault.BadSource.{BadSource}
use Rattle.cb_tree.specs.Nodes.{Node, nodes_of}
use Rattle.cb_tree.specs.Sections.{first_fault}

-- whether a last line without LF stands at the end (own)
abbrev pub ends_open : List ℕ → Bool
ends_open [] = false
ends_open (b ∷ []) = not (is_line_feed b)
ends_open (b ∷ c ∷ cs) = ends_open (c ∷ cs)

-- the number of the physical lines of a source (own)
abbrev pub line_count : List ℕ → ℕ
line_count source = count_by is_line_feed source + (if ends_open source then 1 else 0)

-- what a source is read as: its nodes, or its first fault (own)
pub data Reading : Type 0 where
  Sound : List Node → Reading
  Unsound : BadSource → Reading

-- few enough bytes and lines (own)
pub record IsWithinLimits (source : List ℕ) : Type 0 where
  pub bytes : length source ≤ SOURCE_BYTE_LIMIT
  pub lines : line_count source ≤ SOURCE_LINE_LIMIT

-- these are the nodes of the source's logical lines (6.10)
pub record IsCutInto (source : List ℕ) (nodes : List Node) : Type 0 where
  pub lines : List Line
  pub cut : AreLinesOf (marks_of source) lines
  pub nodes_are : nodes ≡ nodes_of lines

-- what a source is read as: first its size decides, then a comment without an end, then the first fault of its nodes (own)
pub data IsRead (source : List ℕ) : Reading → Type 0 where
  too_many_bytes : SOURCE_BYTE_LIMIT < length source → IsRead source (Unsound (record { kind = kind.TooLarge; line = 0 }))
  too_many_lines : length source ≤ SOURCE_BYTE_LIMIT → SOURCE_LINE_LIMIT < line_count source
      → IsRead source (Unsound (record { kind = kind.TooLarge; line = SOURCE_LINE_LIMIT + 1 }))
  open_comment : (line : ℕ) → IsWithinLimits source → HasOpenComment (marks_of source) line → IsRead source (Unsound (record { kind = kind.OpenComment; line = line }))
  faulty : (nodes : List Node) (fault : BadSource) → IsWithinLimits source → IsCutInto source nodes → first_fault nodes [] ≡ Some fault → IsRead source (Unsound fault)
  sound : (nodes : List Node) → IsWithinLimits source → IsCutInto source nodes → first_fault nodes [] ≡ None → IsRead source (Sound nodes)
