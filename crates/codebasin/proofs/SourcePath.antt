-- The path of the source is a path.
use Rattle.std.proofs.Common.{◌≡◌, Some, None, refl}
use Rattle.cb_paths.specs.Parts.{is_up, is_kept}
use Rattle.cb_paths.specs.Paths.{path_fault, path_of}
use Rattle.codebasin.specs.Specialise.{source_path}

pub source_fault : path_fault source_path ≡ None
unfolding path_fault is_up is_kept
source_fault = refl

pub source_path_is : path_of source_path ≡ Some source_path
unfolding path_of path_fault is_up is_kept
source_path_is = refl
