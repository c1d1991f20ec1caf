-- So many tokens are copied.
use Rattle.std.proofs.Common.{◌≡◌, ◌++◌, take}
use Rattle.cb_macro.proofs.replacement.push_copies.Given as goal

abbrev pub invariant-loop-token : goal.invariant-loop-token
invariant-loop-token l = l.copies.items ≡ l.fn.copies.items ++ take l.token-index l.tokens
