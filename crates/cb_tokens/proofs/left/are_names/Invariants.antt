use Rattle.std.proofs.Common.{◌≡◌, length}
use Rattle.std.specs.List.{list_all}
use Rattle.cb_lines.specs.Marks.{bytes_of}
use Rattle.cb_tokens.specs.Forms.{is_name_byte}
use Rattle.cb_tokens.proofs.left.are_names.Given as goal

abbrev pub invariant-marks : goal.invariant-marks
invariant-marks l = list_all is_name_byte (bytes_of l.fn.marker) ≡ list_all is_name_byte (bytes_of l.marker)

abbrev pub decreases-marks : goal.decreases-marks
decreases-marks l = length l.marker
