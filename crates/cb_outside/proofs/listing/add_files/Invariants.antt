use Rattle.std.proofs.Common.{◌≡◌, ◌++◌, map, Some}
use Rattle.std.specs.List.{All, filter_map}
use Rattle.std.specs.Map.Iter.{deref}
use Rattle.cb_paths.specs.Paths.{path_of}
use Rattle.cb_outside.specs.Trees.{named, file_in}
use Rattle.cb_outside.specs.declared.names.NameKind.TheVariants.{File}
use Rattle.cb_outside.proofs.listing.add_files.Given as goal

abbrev pub invariant-files : goal.invariant-files
invariant-files l = record {
  added : l.names ≡ l.initial.names ++ map (named File) (filter_map (file_in l.folder) (map deref l.yielded));
  normal : All (λ path. path_of path ≡ Some path) (map deref l.yielded);
}
