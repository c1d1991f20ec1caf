-- Which fault of a folder decides, and the folder where there is none.
use Rattle.std.proofs.Common.{◌≡◌, ℕ, ◌<◌, ◌≤◌, nat_lt, Bool, true, false, if◌then◌else◌, List, [], ◌++◌, length, refl, sym, ap, ◌∙◌, arith, Some}
use Rattle.std.specs.Prelude.{codes}
use Rattle.std.specs.List.{list_any}
use Rattle.std.proofs.lemmas.Bool.Decides.{nat_tests}
use Rattle.cb_paths.specs.Parts.{parts_of, rooted}
use Rattle.cb_paths.specs.Paths.{is_control, is_absolute, parts_from, folder_text, folder_fault, folder_at}
use Rattle.cb_paths.specs.inner.Trails.{Stands, IsFolder}
use Rattle.cb_paths.specs.declared.trail.Trail.{Trail}
use Rattle.cb_paths.specs.declared.bad_path.BadPath.TheVariants.{TooLong, Control}
use Rattle.cb_paths.proofs.Rooted.{ends_at}
use Rattle.cb_paths.proofs.Sizes.{AreClean, clean_parts, clean-append}
use Rattle.cb_paths.proofs.Again.{folder_kept, folder_at_is}

over : (n : ℕ) → 4096 < n → nat_lt 4096 n ≡ true
over n h = grind (arith, nat_tests)

pub within : (n : ℕ) → n ≤ 4096 → nat_lt 4096 n ≡ false
within n h = grind (arith, nat_tests)

pub folder_fault_long : (text base : List ℕ) → 4096 < length text → folder_fault text base ≡ Some TooLong
unfolding folder_fault
folder_fault_long text base h = rw (over (length text) h) refl

-- the parts that a walk from a folder takes
abbrev pub walked_parts : List ℕ → List ℕ → List (List ℕ)
walked_parts text base = (if is_absolute text then [] else parts_of base) ++ parts_of text

pub folder_is : (text base : List ℕ) (t : Trail) (folder : List ℕ) → Stands (walked_parts text base) t
    → ((parts : List (List ℕ)) → t.text.items ≡ rooted parts → folder ≡ folder_text parts) → folder ≡ folder_text (parts_from text base)
folder_is text base t folder s h = h (parts_from text base) (ends_at (walked_parts text base) t s).text

pub folder_fault_result : (text base : List ℕ) (t : Trail) (folder : List ℕ) → length text ≤ 4096 → Stands (walked_parts text base) t
    → ((parts : List (List ℕ)) → t.text.items ≡ rooted parts → folder ≡ folder_text parts) → 4096 < length folder → folder_fault text base ≡ Some TooLong
unfolding folder_fault
folder_fault_result text base t folder fits s h long =
    let e : nat_lt 4096 (length (folder_text (parts_from text base))) ≡ true = ap (λ xs. nat_lt 4096 (length xs)) (sym (folder_is text base t folder s h)) ∙ over (length folder) long in
    rw (within (length text) fits, e) refl

pub folder_fault_control : (text base : List ℕ) (t : Trail) (folder : List ℕ) → length text ≤ 4096 → Stands (walked_parts text base) t
    → ((parts : List (List ℕ)) → t.text.items ≡ rooted parts → folder ≡ folder_text parts) → length folder ≤ 4096 → list_any is_control text ≡ true
    → folder_fault text base ≡ Some Control
unfolding folder_fault
folder_fault_control text base t folder fits s h short e =
    let f : nat_lt 4096 (length (folder_text (parts_from text base))) ≡ false = ap (λ xs. nat_lt 4096 (length xs)) (sym (folder_is text base t folder s h)) ∙ within (length folder) short in
    rw (within (length text) fits, f, e) refl

clean_walked : (text base : List ℕ) (t : Bool) → is_absolute text ≡ t → list_any is_control text ≡ false → list_any is_control base ≡ false → AreClean (walked_parts text base)
clean_walked text base true e h k = rw e (clean_parts text h)
clean_walked text base false e h k = rw e (clean-append (parts_of base) (parts_of text) (clean_parts base k) (clean_parts text h))

-- what a walk that ends well gives
pub record Found (text base folder : List ℕ) : Type 0 where
  pub at : folder_at text base ≡ Some folder
  pub kept : IsFolder folder

pub found : (text base : List ℕ) (t : Trail) (folder : List ℕ) → length text ≤ 4096 → Stands (walked_parts text base) t
    → ((parts : List (List ℕ)) → t.text.items ≡ rooted parts → folder ≡ folder_text parts) → length folder ≤ 4096 → list_any is_control text ≡ false
    → list_any is_control base ≡ false → Found text base folder
found text base t folder fits s h short e base_clean =
    let is = folder_is text base t folder s h in
    let f : nat_lt 4096 (length (folder_text (parts_from text base))) ≡ false = ap (λ xs. nat_lt 4096 (length xs)) (sym is) ∙ within (length folder) short in
    let clean = clean_walked text base (is_absolute text) refl e base_clean in
    record {
      at = folder_at_is text base (within (length text) fits) f e ∙ ap Some (sym is);
      kept = folder_kept (walked_parts text base) folder is (ends_at (walked_parts text base) t s).plain clean (within (length folder) short);
    }

pub top_kept : (folder : List ℕ) → folder ≡ codes "/" → IsFolder folder
top_kept folder e = folder_kept [] folder e refl tt (ap (λ d. nat_lt 4096 (length d)) e)
