-- Patterns of an analysis: which texts are patterns, and which paths one matches.
use Rattle.std.specs.Prelude.{ℕ, ◌-◌, ◌==◌, ◌&&◌, ◌||◌, nat_lt, not, if◌then◌else◌, Bool, List, [], ◌∷◌, length, take, slice_index}
use Rattle.std.specs.List.{list_any, list_all, slice_split}
use Rattle.cb_paths.specs.Paths.{is_absolute}
use Rattle.cb_analysis.specs.Fits.{fits, tails, is_empty, is_any, part_fits}
use Rattle.cb_analysis.specs.declared.pattern.Pattern.{Pattern}

-- the parts of a text, between its slashes (own)
abbrev pub parts_of : List ℕ → List (List ℕ)
parts_of text = slice_split (λ b. b == 47) text

-- a text without one slash at its front (own)
abbrev pub unrooted : List ℕ → List ℕ
unrooted [] = []
unrooted (b ∷ bs) = if b == 47 then bs else b ∷ bs

-- a text that ends with a slash (own)
abbrev pub ends_with_slash : List ℕ → Bool
ends_with_slash text = slice_index text (length text - 1) == 47

-- a text without one slash at its end (own)
abbrev pub without_end : List ℕ → List ℕ
without_end text = if ends_with_slash text then take (length text - 1) text else text

-- what of a pattern is split into parts (own)
abbrev pub body : List ℕ → List ℕ
body text = without_end (unrooted text)

-- a byte that no pattern holds: `!`, `[` or a backslash, which mean more elsewhere (own)
abbrev pub is_refused : ℕ → Bool
is_refused byte = (byte == 33) || (byte == 91) || (byte == 92)

-- a text that is a pattern: without such a byte and without an empty part (own)
unfoldable pub is_pattern : List ℕ → Bool
is_pattern text = not (list_any is_refused text) && list_all (λ part. not (is_empty part)) (parts_of (body text))

-- the pattern that a text is: it is anchored where it begins with a slash or has more than one part, and means what is
-- in a folder where it ends with a slash (gitignore's manual)
unfoldable pub pattern_of : List ℕ → Pattern
pattern_of text = record {
  is_anchored = is_absolute text || nat_lt 1 (length (parts_of (body text)));
  is_folder = ends_with_slash (unrooted text);
  parts = parts_of (body text);
}

-- what may follow the parts that a pattern takes: anything, or at least one part (own)
abbrev pub may_follow : Bool → List (List ℕ) → Bool
may_follow is_folder rest = not (is_folder && is_empty rest)

-- the pattern takes the parts of a run that begins at the first of these parts (own)
abbrev pub matches_at : Pattern → List (List ℕ) → Bool
matches_at pattern parts = fits is_any part_fits (may_follow pattern.is_folder) pattern.parts parts

-- a pattern matches a path where it takes a run of its parts, which begins at the first part if the pattern is
-- anchored, else anywhere (own)
unfoldable pub matches : Pattern → List ℕ → Bool
matches pattern path =
    if pattern.is_anchored then matches_at pattern (parts_of path) else list_any (matches_at pattern) (tails (parts_of path))
