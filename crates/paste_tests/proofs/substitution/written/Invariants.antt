use Rattle.std.proofs.Common.{vec_len}
use Rattle.paste_tests.proofs.substitution.written.Given as goal

abbrev pub decreases-tokens : goal.decreases-tokens
decreases-tokens l = vec_len l.stack
