-- The walk over parts: what it holds after the parts so far.
use Rattle.std.specs.Prelude.{◌≡◌, ℕ, ◌<◌, ◌==◌, ◌&&◌, nat_lt, not, Bool, true, false, List, [], ◌∷◌, ◌++◌, length}
use Rattle.std.specs.List.{list_all, list_any}
use Rattle.cb_paths.specs.Parts.{is_up, is_kept, normal}
use Rattle.cb_paths.specs.Paths.{is_control, path_text, folder_text}
use Rattle.cb_paths.specs.declared.trail.Trail.{Trail}

-- a part of a normal text
unfoldable pub is_plain : List ℕ → Bool
is_plain part = not (is_up part) && is_kept part && list_all (λ b. not (b == 47)) part

-- the text of parts, the last one first
abbrev pub text_back : List (List ℕ) → List ℕ
text_back [] = []
text_back (p ∷ ps) = text_back ps ++ 47 ∷ p

-- where each part's slash stands in it
abbrev pub starts_back : List (List ℕ) → List ℕ
starts_back [] = []
starts_back (p ∷ ps) = starts_back ps ++ length (text_back ps) ∷ []

-- parts, the last one first, in order
abbrev pub in_order : List (List ℕ) → List (List ℕ)
in_order [] = []
in_order (p ∷ ps) = in_order ps ++ p ∷ []

-- the walk stands at the normal form of the parts so far: its `..` at the front are only counted, the others are held
pub record Stands (so_far : List (List ℕ)) (t : Trail) : Type 0 where
  pub ups : List (List ℕ)
  pub back : List (List ℕ)
  pub is_normal : normal so_far ≡ ups ++ in_order back
  pub up : list_all is_up ups ≡ true
  pub plain : list_all is_plain back ≡ true
  pub text : t.text.items ≡ text_back back
  pub starts : t.starts.items ≡ starts_back back
  pub climbed : t.climbed ≡ nat_lt 0 (length ups)

-- the text of a folder that reads as itself
pub record IsFolder (text : List ℕ) : Type 0 where
  pub parts : List (List ℕ)
  pub is : text ≡ folder_text parts
  pub plain : list_all is_plain parts ≡ true
  pub clean : list_any is_control text ≡ false
  pub fits : nat_lt 4096 (length text) ≡ false

-- the text of parts below the top
pub record IsBelow (text : List ℕ) : Type 0 where
  pub parts : List (List ℕ)
  pub is : text ≡ path_text parts
  pub plain : list_all is_plain parts ≡ true
  pub some : 0 < length parts
