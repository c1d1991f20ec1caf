use Rattle.std.proofs.Common.{sym, arith}
use Rattle.cb_tree.proofs.HashTokens.{sign_by_length, digraph_by_length}
use Rattle.cb_tree.proofs.hash.hash_of.Goals as goal

pub returns-then-text-eq1 : goal.returns-then-text-eq1
returns-then-text-eq1 c = sym (sign_by_length c.args.text.now c.requires (omega arith))

pub returns-else-text-eq1 : goal.returns-else-text-eq1
returns-else-text-eq1 c = sym (digraph_by_length c.args.text.now c.requires (λ e. absurd (omega arith)))
