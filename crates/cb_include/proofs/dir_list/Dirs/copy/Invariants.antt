use Rattle.std.proofs.Common.{◌≡◌, take}
use Rattle.cb_include.proofs.dir_list.Dirs.copy.Given as goal

abbrev pub invariant-dirs : goal.invariant-dirs
invariant-dirs l = l.items.items ≡ take l.dir-index l.dir-items
