use Rattle.std.proofs.Common.{◌≡◌, take}
use Rattle.cb_paths.proofs.text_list.Texts.copy.Given as goal

abbrev pub invariant-texts : goal.invariant-texts
invariant-texts l = l.items.items ≡ take l.text-index l.text-items
