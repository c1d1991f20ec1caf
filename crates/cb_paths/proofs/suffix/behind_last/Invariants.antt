use Rattle.std.proofs.Common.{◌≡◌, ◌+◌, length}
use Rattle.std.specs.Option.{option_map_or}
use Rattle.cb_paths.specs.Languages.{behind_last}
use Rattle.cb_paths.proofs.Suffixes.{last_left}
use Rattle.cb_paths.proofs.suffix.behind_last.Given as goal

abbrev pub invariant-pieces : goal.invariant-pieces
invariant-pieces l = last_left l.fn.byte l.last ≡ behind_last l.fn.byte l.fn.text

abbrev pub decreases-pieces : goal.decreases-pieces
decreases-pieces l = option_map_or (λ text. length text.now + 1) l.last 0
