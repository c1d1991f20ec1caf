use Rattle.std.proofs.Common.{drop}
use Rattle.cb_lines.specs.Marks.{marks_of, bytes_of}
use Rattle.cb_tokens.proofs.Decided.{prefix_name}
use Rattle.cb_tokens.proofs.whole.prefixed.Goals as goal

pub returns-then-are_names : goal.returns-then-are_names
returns-then-are_names c = prefix_name c.args.first (bytes_of (drop 1 (marks_of c.args.bytes.now))) c.requires (cc)
