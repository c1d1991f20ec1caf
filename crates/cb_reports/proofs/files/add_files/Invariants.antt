use Rattle.std.proofs.Common.{◌≡◌, ◌++◌, take}
use Rattle.std.specs.List.{flat_map}
use Rattle.cb_reports.specs.Files.{file_text}
use Rattle.cb_reports.proofs.files.add_files.Given as goal

abbrev pub invariant-loop-at : goal.invariant-loop-at
invariant-loop-at l = l.text ≡ l.initial.text ++ flat_map (file_text l.names) (take l.at l.files)
