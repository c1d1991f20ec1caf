-- The parts so far, and then those of the tokens that are left, are all parts.
use Rattle.std.proofs.Common.{length, ◌-◌, ◌≡◌, ◌≤◌, ◌++◌, drop}
use Rattle.cb_macro.specs.declared.item.Before.TheVariants.{Nothing}
use Rattle.cb_macro.specs.Parts.{items, glues}
use Rattle.cb_macro.proofs.item.read_parts.Given as goal

abbrev pub invariant-tokens : goal.invariant-tokens
invariant-tokens l = record {
  within : l.at ≤ length l.tokens;
  read : l.parts.items ++ glues l.before (items l.is_function l.names (drop l.at l.tokens)) ≡ glues Nothing (items l.is_function l.names l.tokens);
}

abbrev pub decreases-tokens : goal.decreases-tokens
decreases-tokens l = length l.tokens - l.at
