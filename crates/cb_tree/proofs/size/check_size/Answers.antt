use Rattle.std.proofs.Common.{arith}
use Rattle.cb_tree.specs.Sound.{too_many_bytes, too_many_lines}
use Rattle.cb_tree.proofs.size.check_size.Goals as goal

pub returns-then-source-gt-SOURCE_BYTE_LIMIT : goal.returns-then-source-gt-SOURCE_BYTE_LIMIT
returns-then-source-gt-SOURCE_BYTE_LIMIT c = too_many_bytes (omega arith)

pub returns-then-line_count : goal.returns-then-line_count
returns-then-line_count c = too_many_lines (omega arith) (omega arith)
