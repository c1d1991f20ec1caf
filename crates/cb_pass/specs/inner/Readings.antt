-- From the start of a pass on.
use Rattle.std.specs.Prelude.{List, [], ◌∷◌}
use Rattle.cb_pass.specs.declared.reading.Reading.{Reading}
use Rattle.cb_pass.specs.declared.reading.Reading.TheVariants.{Whole, Cut}
use Rattle.cb_include.specs.declared.command.Command.{Command}
use Rattle.cb_pass.specs.States.{Waiting}
use Rattle.cb_pass.specs.Passes.{first_macros}
use Rattle.cb_pass.specs.inner.Trails.{Findings}

-- what is known at the start
abbrev pub begun : Command → Findings
begun command = record {
  memo = record { macros = first_macros command.language; once = []; notes = [] };
  rows = [];
  count = 0;
  probes = command.main ∷ [];
}

-- what is left to begin
abbrev pub left_of : Reading → List Waiting → List Waiting
left_of Whole waiting = waiting
left_of Cut waiting = []
