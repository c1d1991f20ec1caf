use Rattle.std.proofs.Common.{◌≡◌, map}
use Rattle.std.specs.List.{filter_map}
use Rattle.std.specs.Map.Iter.{deref}
use Rattle.cb_outside.specs.Trees.{each_once, folder_in}
use Rattle.cb_outside.proofs.listing.folders_in.Given as goal

abbrev pub invariant-files : goal.invariant-files
invariant-files l = l.folders ≡ each_once (filter_map (folder_in l.folder) (map deref l.yielded))
