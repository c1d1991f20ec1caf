use Rattle.std.proofs.Common.{◌≡◌, ◌++◌, take}
use Rattle.cb_paste.specs.Strings.{escaped}
use Rattle.cb_paste.proofs.quoting.push_escaped.Given as goal

abbrev pub invariant-bytes : goal.invariant-bytes
invariant-bytes l = l.text.items ≡ l.fn.text.items ++ escaped (take l.byte-index l.bytes)
