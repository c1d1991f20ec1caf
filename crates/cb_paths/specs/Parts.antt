-- The parts of paths and folders, between their slashes.
use Rattle.std.specs.Prelude.{ℕ, ◌==◌, ◌&&◌, not, if◌then◌else◌, Bool, List, [], ◌∷◌, length, bytes_eq, codes}
use Rattle.std.specs.List.{filter, flat_map, slice_split}

-- the part `..`, which goes up to the folder above (own)
unfoldable pub is_up : List ℕ → Bool
is_up part = bytes_eq part (codes "..")

-- a part that says something: one that is neither empty nor `.` (own)
unfoldable pub is_kept : List ℕ → Bool
is_kept part = not (length part == 0) && not (bytes_eq part (codes "."))

-- the parts of a text that say something (own)
abbrev pub parts_of : List ℕ → List (List ℕ)
parts_of text = filter is_kept (slice_split (λ b. b == 47) text)

-- a part in front of a normal list: it and a `..` directly behind it go away together (own)
abbrev pub led : List ℕ → List (List ℕ) → List (List ℕ)
led part [] = part ∷ []
led part (p ∷ ps) = if not (is_up part) && is_up p then ps else part ∷ p ∷ ps

-- a list of parts without the adjacent pairs of a part other than `..` and a `..`, taken away until none is left (own)
abbrev pub normal : List (List ℕ) → List (List ℕ)
normal [] = []
normal (p ∷ ps) = led p (normal ps)

-- a list without the `..` at its front (own)
abbrev pub without_ups : List (List ℕ) → List (List ℕ)
without_ups [] = []
without_ups (p ∷ ps) = if is_up p then without_ups ps else p ∷ ps

-- the text of parts, a slash before each (own)
abbrev pub rooted : List (List ℕ) → List ℕ
rooted parts = flat_map (λ part. 47 ∷ part) parts
