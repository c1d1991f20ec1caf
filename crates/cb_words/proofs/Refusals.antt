-- Texts that name no path and no folder.
use Rattle.std.proofs.Common.{◌≡◌, ℕ, List, Some, None, refl}
use Rattle.cb_paths.specs.declared.bad_path.BadPath.{BadPath}
use Rattle.cb_paths.specs.Paths.{path_fault, path_of, folder_fault, folder_at}

pub no_path : (text : List ℕ) (bad : BadPath) → path_fault text ≡ Some bad → path_of text ≡ None
unfolding path_of
no_path text bad e = rw e refl

pub no_folder : (text base : List ℕ) (bad : BadPath) → folder_fault text base ≡ Some bad → folder_at text base ≡ None
unfolding folder_at
no_folder text base bad e = rw e refl
