use Rattle.std.proofs.Common.{◌≡◌, ◌++◌, map, take}
use Rattle.cb_outside.specs.Trees.{named}
use Rattle.cb_outside.specs.declared.names.NameKind.TheVariants.{Folder}
use Rattle.cb_outside.proofs.listing.add_folders.Given as goal

abbrev pub invariant-folders : goal.invariant-folders
invariant-folders l = l.names ≡ l.initial.names ++ map (named Folder) (take l.folder-index l.folders)
