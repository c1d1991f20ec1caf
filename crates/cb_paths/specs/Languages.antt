-- The language of a source by the name of its file.
use Rattle.std.specs.Prelude.{ℕ, ◌==◌, if◌then◌else◌, Bool, List, [], ◌∷◌, drop, bytes_eq, codes, Option, Some, None, option_and_then}
use Rattle.std.specs.List.{list_any, last_or, slice_split}
use Rattle.cb_paths.specs.declared.language.Language.{Language}
use Rattle.cb_paths.specs.declared.language.Language.TheVariants.{C, Cxx}

-- what stands behind the last of such bytes, if there is one (own)
abbrev pub behind_last : ℕ → List ℕ → Option (List ℕ)
behind_last byte text = last_or None (drop 1 (slice_split (λ b. b == byte) text))

-- the suffixes of C++, and of headers, which C++ reads too (GCC's manual, "Overall Options", and own)
abbrev pub cxx_suffixes : List (List ℕ)
cxx_suffixes =
    codes "cc" ∷ codes "cp" ∷ codes "cpp" ∷ codes "cxx" ∷ codes "c++" ∷ codes "C" ∷ codes "CPP" ∷ codes "cu" ∷ codes "cuh"
    ∷ codes "hip" ∷ codes "h" ∷ codes "hh" ∷ codes "hpp" ∷ codes "hxx" ∷ codes "h++" ∷ codes "H" ∷ codes "inl" ∷ codes "ipp"
    ∷ codes "tpp" ∷ codes "tcc" ∷ codes "inc" ∷ codes "def" ∷ []

-- one of these (own)
unfoldable pub is_cxx : List ℕ → Bool
is_cxx suffix = list_any (λ s. bytes_eq suffix s) cxx_suffixes

-- the language that a suffix names (GCC's manual, "Overall Options", and own)
unfoldable pub language_of_suffix : List ℕ → Option Language
language_of_suffix suffix =
    if bytes_eq suffix (codes "c") then Some C
    else (if is_cxx suffix then Some Cxx else None)

-- the language of a path: by what follows the last `.` of its last part (own)
unfoldable pub language_of : List ℕ → Option Language
language_of path =
    option_and_then language_of_suffix (option_and_then (behind_last 46) (last_or None (slice_split (λ b. b == 47) path)))
