-- Which fault of a path decides, and the path where there is none.
use Rattle.std.proofs.Common.{◌≡◌, ℕ, suc, ◌-◌, ◌<◌, ◌≤◌, ◌==◌, nat_lt, true, false, List, [], ◌∷◌, length, take, drop, refl, sym, ap, subst, ◌∙◌, arith, length-append, Some, None}
use Rattle.std.specs.List.{list_any}
use Rattle.std.proofs.lemmas.List.{take_all}
use Rattle.std.proofs.lemmas.Bool.Decides.{nat_tests}
use Rattle.cb_paths.specs.Parts.{parts_of, normal, rooted}
use Rattle.cb_paths.specs.Paths.{is_control, is_absolute, climbs, path_text, path_fault, path_of}
use Rattle.cb_paths.specs.inner.Trails.{Stands}
use Rattle.cb_paths.specs.declared.trail.Trail.{Trail}
use Rattle.cb_paths.specs.declared.bad_path.BadPath.TheVariants.{Empty, TooLong, Outside, Control}
use Rattle.cb_paths.proofs.Rooted.{ArePlain, ends_at}
use Rattle.cb_paths.proofs.Again.{faultless, path_again}

over : (n : ℕ) → 1024 < n → nat_lt 1024 n ≡ true
over n h = grind (arith, nat_tests)

pub within : (n : ℕ) → n ≤ 1024 → nat_lt 1024 n ≡ false
within n h = grind (arith, nat_tests)

pub fault_long : (text : List ℕ) → 1024 < length text → path_fault text ≡ Some TooLong
unfolding path_fault
fault_long text h = rw (over (length text) h) refl

pub fault_control : (text : List ℕ) → length text ≤ 1024 → list_any is_control text ≡ true → path_fault text ≡ Some Control
unfolding path_fault
fault_control text h e = rw (within (length text) h, e) refl

pub fault_absolute : (text : List ℕ) → length text ≤ 1024 → list_any is_control text ≡ false → is_absolute text ≡ true → path_fault text ≡ Some Outside
unfolding path_fault
fault_absolute text h e f = rw (within (length text) h, e, f) refl

fault_climbs_at : (text : List ℕ) → length text ≤ 1024 → list_any is_control text ≡ false → is_absolute text ≡ false
    → climbs (normal (parts_of text)) ≡ true → path_fault text ≡ Some Outside
unfolding path_fault
fault_climbs_at text h e f g = rw (within (length text) h, e, f, g) refl

pub fault_climbs : (text : List ℕ) (t : Trail) → length text ≤ 1024 → list_any is_control text ≡ false → is_absolute text ≡ false
    → Stands (parts_of text) t → t.climbed ≡ true → path_fault text ≡ Some Outside
fault_climbs text t h e f s g = fault_climbs_at text h e f ((ends_at (parts_of text) t s).climbed ∙ g)

fault_empty_at : (text : List ℕ) → length text ≤ 1024 → list_any is_control text ≡ false → is_absolute text ≡ false
    → climbs (normal (parts_of text)) ≡ false → (length (normal (parts_of text)) == 0) ≡ true → path_fault text ≡ Some Empty
unfolding path_fault
fault_empty_at text h e f g k = rw (within (length text) h, e, f, g, k) refl

no_parts : (ps : List (List ℕ)) → length (rooted ps) ≡ 0 → (length ps == 0) ≡ true
no_parts [] h = refl
no_parts (p ∷ ps) h = let l = length-append (47 ∷ p) (rooted ps) in absurd (omega arith)

some_parts : (ps : List (List ℕ)) → 0 < length (rooted ps) → 0 < length ps
some_parts [] h = h
some_parts (p ∷ ps) h = omega arith

pub fault_empty : (text : List ℕ) (t : Trail) → length text ≤ 1024 → list_any is_control text ≡ false → is_absolute text ≡ false
    → Stands (parts_of text) t → t.climbed ≡ false → length t.text.items ≡ 0 → path_fault text ≡ Some Empty
fault_empty text t h e f s g k =
    let ends = ends_at (parts_of text) t s in
    let same = ends.same g in
    fault_empty_at text h e f (ends.climbed ∙ g) (no_parts (normal (parts_of text)) (ap (λ ps. length (rooted ps)) (sym same) ∙ ap length (sym ends.text) ∙ k))

-- the text of the walk, without the first slash, is the path
pub record Walked (text path : List ℕ) : Type 0 where
  pub path_is : path_of text ≡ Some path
  pub again : path_of path ≡ Some path

path_is_at : (text path : List ℕ) → path_fault text ≡ None → path_text (normal (parts_of text)) ≡ path → path_of text ≡ Some path
unfolding path_of
path_is_at text path e f = rw (e, f) refl

not_zero : (n : ℕ) → 0 < n → (n == 0) ≡ false
not_zero n h = grind (arith, nat_tests)

pub walked : (text : List ℕ) (t : Trail) → length text ≤ 1024 → list_any is_control text ≡ false → is_absolute text ≡ false
    → Stands (parts_of text) t → t.climbed ≡ false → 0 < length t.text.items → (path : List ℕ) → path ≡ drop 1 t.text.items → Walked text path
walked text t h e f s g k path is =
    let ends = ends_at (parts_of text) t s in
    let same = ends.same g in
    let whole : t.text.items ≡ rooted (normal (parts_of text)) = ends.text ∙ ap rooted same in
    let some : 0 < length (normal (parts_of text)) = some_parts (normal (parts_of text)) (let l = ap length whole in omega arith) in
    let plain : ArePlain (normal (parts_of text)) = subst ArePlain same ends.plain in
    let e_path : path_text (normal (parts_of text)) ≡ path = sym (is ∙ ap (drop 1) whole) in
    let none' = faultless text (within (length text) h) e f (ends.climbed ∙ g) (not_zero (length (normal (parts_of text))) some) in
    record {
      path_is = path_is_at text path none' e_path;
      again = subst (λ p. path_of p ≡ Some p) e_path (path_again text (within (length text) h) e plain some);
    }

rest_whole : (d : List ℕ) → take (length d - 1) (drop 1 d) ≡ drop 1 d
rest_whole [] = refl
rest_whole (x ∷ xs) = take_all (suc (length xs) - 1) xs (omega arith)

-- a slice behind the first byte
pub behind_first : (d items text : List ℕ) → d ≡ items → text ≡ take (length d - 1) (drop 1 d) → text ≡ drop 1 items
behind_first d items text e h = h ∙ rest_whole d ∙ ap (drop 1) e
