use Rattle.std.proofs.Common.{length, ◌-◌, ◌≤◌}
use Rattle.cb_tokens.proofs.Comments.{CommentAhead}
use Rattle.cb_tokens.proofs.comment.comment_end.Given as goal

abbrev pub invariant-bytes : goal.invariant-bytes
invariant-bytes l = (l.n ≤ length l.bytes) × CommentAhead l.bytes l.n

abbrev pub decreases-bytes : goal.decreases-bytes
decreases-bytes l = length l.bytes - l.n
