-- A normal path, and a normal folder, is read as itself.
use Rattle.std.proofs.Common.{◌≡◌, ℕ, ◌-◌, ◌<◌, ◌≤◌, ◌==◌, not, nat_lt, Bool, true, false, List, [], ◌∷◌, ◌++◌, length, refl, sym, ap, subst, ◌∙◌, arith, length-append, Some, None}
use Rattle.std.specs.List.{list_all, list_any}
use Rattle.std.proofs.lemmas.Bool.Decides.{nat_tests}
use Rattle.cb_paths.specs.Parts.{is_kept, parts_of, normal, without_ups, rooted}
use Rattle.cb_paths.specs.Paths.{is_control, is_absolute, climbs, path_text, path_fault, path_of, parts_from, folder_text, folder_fault, folder_at}
use Rattle.cb_paths.specs.inner.Trails.{is_plain, IsFolder}
use Rattle.cb_paths.proofs.Normal.{normal_down, up-head}
use Rattle.cb_paths.proofs.Trails.{plain_is_down, plain_is_kept, plain_has_no_slash}
use Rattle.cb_paths.proofs.Rooted.{ArePlain, plain_are_down, parts_of_path, parts_of_folder}
use Rattle.cb_paths.proofs.Sizes.{rooted_fits, AreClean, clean_parts, clean_normal, clean_without, clean_path, clean_rooted}

not-true : (b : Bool) → not b ≡ true → b ≡ false
not-true true h = cc
not-true false h = refl

-- a text without a fault
pub faultless : (text : List ℕ) → nat_lt 1024 (length text) ≡ false → list_any is_control text ≡ false → is_absolute text ≡ false
    → climbs (normal (parts_of text)) ≡ false → (length (normal (parts_of text)) == 0) ≡ false → path_fault text ≡ None
unfolding path_fault
faultless text a b c d e = rw (a, b, c, d, e) refl

first_is_no_slash : (p rest : List ℕ) → is_kept p ≡ true → list_all (λ b. not (b == 47)) p ≡ true → is_absolute (p ++ rest) ≡ false
unfolding is_kept
first_is_no_slash [] rest h k = cc
first_is_no_slash (b ∷ bs) rest h k = not-true (b == 47) (up-head (not (b == 47)) _ k)

path_is_relative : (ps : List (List ℕ)) → ArePlain ps → is_absolute (path_text ps) ≡ false
path_is_relative [] h = refl
path_is_relative (p ∷ ps) h =
    first_is_no_slash p (rooted ps) (plain_is_kept p (up-head (is_plain p) _ h)) (plain_has_no_slash p (up-head (is_plain p) _ h))

plain_climbs_not : (ps : List (List ℕ)) → ArePlain ps → climbs ps ≡ false
plain_climbs_not [] h = refl
plain_climbs_not (p ∷ ps) h = plain_is_down p (up-head (is_plain p) _ h)

short_path : (ps : List (List ℕ)) → length (path_text ps) ≤ length (rooted ps) - 1
short_path [] = omega arith
short_path (p ∷ ps) = let l = length-append (47 ∷ p) (rooted ps) in let m = length-append p (rooted ps) in omega arith

not_zero : (n : ℕ) → 0 < n → (n == 0) ≡ false
not_zero n h = grind (arith, nat_tests)

fits_still : (m n : ℕ) → nat_lt 1024 n ≡ false → m ≤ n → nat_lt 1024 m ≡ false
fits_still m n h k = grind (arith, nat_tests)

-- a clean text of plain parts that fits
pub path_of_plain : (ps : List (List ℕ)) → ArePlain ps → AreClean ps → 0 < length ps → nat_lt 1024 (length (path_text ps)) ≡ false
    → path_of (path_text ps) ≡ Some (path_text ps)
unfolding path_of
path_of_plain ps plain clean some fits =
    let parts = parts_of_path ps plain some in
    let same : normal (parts_of (path_text ps)) ≡ ps = ap normal parts ∙ normal_down ps (plain_are_down ps plain) in
    let fault : path_fault (path_text ps) ≡ None
    = faultless (path_text ps) fits (clean_path ps clean) (path_is_relative ps plain) (ap climbs same ∙ plain_climbs_not ps plain)
    (ap (λ qs. length qs == 0) same ∙ not_zero (length ps) some) in
    rw (fault, same) refl

pub path_again : (text : List ℕ) → nat_lt 1024 (length text) ≡ false → list_any is_control text ≡ false → ArePlain (normal (parts_of text))
    → 0 < length (normal (parts_of text)) → path_of (path_text (normal (parts_of text))) ≡ Some (path_text (normal (parts_of text)))
path_again text fits clean plain some =
    let l = rooted_fits text in
    let m = short_path (normal (parts_of text)) in
    path_of_plain (normal (parts_of text)) plain (clean_normal (parts_of text) (clean_parts text clean)) some
    (fits_still (length (path_text (normal (parts_of text)))) (length text) fits (omega arith))

-- folders
folder_is_absolute : (ps : List (List ℕ)) → is_absolute (folder_text ps) ≡ true
folder_is_absolute [] = refl
folder_is_absolute (p ∷ ps) = refl

without_down : (ps : List (List ℕ)) → ArePlain ps → without_ups ps ≡ ps
without_down [] h = refl
without_down (p ∷ ps) h = rw (plain_is_down p (up-head (is_plain p) _ h)) refl

from_top : (text base : List ℕ) → is_absolute text ≡ true → parts_from text base ≡ without_ups (normal (parts_of text))
from_top text base e = rw e refl

parts_from_folder : (ps : List (List ℕ)) (base : List ℕ) → ArePlain ps → parts_from (folder_text ps) base ≡ ps
parts_from_folder ps base plain =
    from_top (folder_text ps) base (folder_is_absolute ps)
    ∙ ap (λ qs. without_ups (normal qs)) (parts_of_folder ps plain)
    ∙ ap without_ups (normal_down ps (plain_are_down ps plain))
    ∙ without_down ps plain

clean_folder : (ps : List (List ℕ)) → AreClean ps → list_any is_control (folder_text ps) ≡ false
clean_folder [] h = refl
clean_folder (p ∷ ps) h = clean_rooted (p ∷ ps) h

pub folder_again : (ps : List (List ℕ)) (base : List ℕ) → ArePlain ps → AreClean ps → nat_lt 4096 (length (folder_text ps)) ≡ false
    → folder_at (folder_text ps) base ≡ Some (folder_text ps)
unfolding folder_at folder_fault
folder_again ps base plain clean fits =
    let same = parts_from_folder ps base plain in
    rw (same, fits, clean_folder ps clean) refl

-- a folder that is kept reads as itself
pub kept_again : (text base : List ℕ) → IsFolder text → folder_at text base ≡ Some text
kept_again text base h =
    let clean : AreClean h.parts = subst AreClean (ap parts_of h.is ∙ parts_of_folder h.parts h.plain) (clean_parts text h.clean) in
    subst (λ d. folder_at d base ≡ Some d) (sym h.is) (folder_again h.parts base h.plain clean (ap (λ d. nat_lt 4096 (length d)) (sym h.is) ∙ h.fits))

-- the folder of a walk is kept
pub folder_kept : (ps : List (List ℕ)) (folder : List ℕ) → folder ≡ folder_text (without_ups (normal ps)) → ArePlain (without_ups (normal ps)) → AreClean ps
    → nat_lt 4096 (length folder) ≡ false → IsFolder folder
folder_kept ps folder is plain clean fits =
    record {
      parts = without_ups (normal ps);
      is = is;
      plain = plain;
      clean = ap (list_any is_control) is ∙ clean_folder (without_ups (normal ps)) (clean_without (normal ps) (clean_normal ps clean));
      fits = fits;
    }

pub folder_at_is : (text base : List ℕ) → nat_lt 4096 (length text) ≡ false → nat_lt 4096 (length (folder_text (parts_from text base))) ≡ false
    → list_any is_control text ≡ false → folder_at text base ≡ Some (folder_text (parts_from text base))
unfolding folder_at folder_fault
folder_at_is text base a b e = rw (a, b, e) refl
