use Rattle.std.proofs.Common.{◌≡◌, take, filter}
use Rattle.cb_reports.specs.Measurements.{is_failing}
use Rattle.cb_reports.proofs.run_lines.failing_on.Given as goal

abbrev pub invariant-platforms : goal.invariant-platforms
invariant-platforms l = l.names ≡ filter (is_failing l.rows l.problem l.application) (take l.platform-index l.platforms)
