-- The folder in which the program runs.
use Rattle.std.proofs.Common.{◌≡◌, ℕ, List, Bool, true, false, if◌then◌else◌, Some, None, unwrap_or, refl, ap, sym}
use Rattle.cb_paths.specs.declared.bad_path.BadPath.{BadPath}
use Rattle.cb_paths.specs.Paths.{folder_at, folder_fault, folder_text, parts_from, unless_faulty}

-- a text with a fault names no folder
no_folder : (text base : List ℕ) (bad : BadPath) → folder_fault text base ≡ Some bad → folder_at text base ≡ None
unfolding folder_at
no_folder text base bad is = ap (λ fault. unless_faulty fault (folder_text (parts_from text base))) is

-- so the top stands in its place
pub top_instead : (absolute : Bool) (text top : List ℕ) (bad : BadPath) → folder_fault text top ≡ Some bad → top ≡ (if absolute then unwrap_or (folder_at text top) top else top)
top_instead true text top bad is = ap (λ folder. unwrap_or folder top) (sym (no_folder text top bad is))
top_instead false text top bad is = refl
