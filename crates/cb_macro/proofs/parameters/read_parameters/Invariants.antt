-- The names so far stand in front of what is read of the tokens that are left.
use Rattle.std.proofs.Common.{length, ◌-◌, ◌≡◌, ◌≤◌, drop}
use Rattle.cb_macro.specs.Definitions.{some_parameters, parameters_of}
use Rattle.cb_macro.specs.inner.Reading.{with_names}
use Rattle.cb_macro.proofs.parameters.read_parameters.Given as goal

abbrev pub invariant-names : goal.invariant-names
invariant-names l = record {
  within : l.at ≤ length l.tokens;
  read : with_names l.names.items (some_parameters (drop l.at l.tokens)) ≡ parameters_of l.tokens;
}

abbrev pub decreases-names : goal.decreases-names
decreases-names l = length l.tokens - l.at
