-- A parameter stands behind each # so far.
use Rattle.std.proofs.Common.{◌≡◌, drop}
use Rattle.cb_macro.specs.Definitions.{hashes_name_parameters}
use Rattle.cb_macro.proofs.replacement.hashes_have_parameters.Given as goal

abbrev pub invariant-loop-at : goal.invariant-loop-at
invariant-loop-at l = hashes_name_parameters l.names (drop l.at l.tokens) ≡ hashes_name_parameters l.names l.tokens
