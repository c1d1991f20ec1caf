use Rattle.std.proofs.Common.{[], refl, ◌∙◌, sym, arith}
use Rattle.std.proofs.lemmas.List.{append-nil}
use Rattle.std.proofs.lemmas.Result.{err_from_is_err_and}
use Rattle.cb_tree.proofs.ReadsMore.{reads_on, tells_after}
use Rattle.cb_tree.proofs.NodeSteps.{reads_shorter}
use Rattle.cb_tree.proofs.sequence.read_from_token.Goals as goal

pub returns-in_err-head-clause-tells : goal.returns-in_err-head-clause-tells
returns-in_err-head-clause-tells c =
    let p = err_from_is_err_and c.from_residual-in_err-head.result c.from_residual-in_err-head.ensures.1 in
    rw (p.1, p.2) (tells_after c.args.walk.now c.skip_white.new.walk [] c.in_err-head.field-0.0 c.in_ok-token.ensures.reads c.in_err-head.ensures.tells)

pub returns-then-is_hash_text-clause-reads : goal.returns-then-is_hash_text-clause-reads
returns-then-is_hash_text-clause-reads c =
    let (own, adds, reads) = c.in_ok-head.ensures.reads in (
      (own, adds, reads_on c.args.walk.now [] c.skip_white.new.walk _ c.read_directive.new.walk c.in_ok-token.ensures.reads reads),
      omega (arith, reads_shorter c.args.walk.now [] c.skip_white.new.walk c.in_ok-token.ensures.reads, c.in_ok-head.ensures.shorter),
      omega (arith, reads_shorter c.args.walk.now [] c.skip_white.new.walk c.in_ok-token.ensures.reads, c.in_ok-head.ensures.few),
    )

pub returns-in_err-counted-clause-tells : goal.returns-in_err-counted-clause-tells
returns-in_err-counted-clause-tells c =
    let p = err_from_is_err_and c.from_residual-in_err-counted.result c.from_residual-in_err-counted.ensures.1 in
    rw (p.1, p.2) (tells_after c.args.walk.now c.skip_white.new.walk [] c.in_err-counted.field-0.0 c.in_ok-token.ensures.reads c.in_err-counted.ensures.tells)

pub returns-clause-reads : goal.returns-clause-reads
returns-clause-reads c =
    rw c.text_head.ensures (
      ([], record { kept = []; added = sym (append-nil c.args.tokens.now.items); own_is = refl; to_is = c.len.ensures ∙ c.args.tokens.now.ok.0 }, reads_on c.args.walk.now [] c.skip_white.new.walk _ c.read_run.new.walk c.in_ok-token.ensures.reads c.in_ok-counted.ensures.reads),
      omega (arith, reads_shorter c.args.walk.now [] c.skip_white.new.walk c.in_ok-token.ensures.reads, c.in_ok-counted.ensures.shorter),
      omega (arith, reads_shorter c.args.walk.now [] c.skip_white.new.walk c.in_ok-token.ensures.reads, c.in_ok-counted.ensures.few),
    )

pub read_directive-requires-clause-room : goal.read_directive-requires-clause-room
read_directive-requires-clause-room c = omega (arith, reads_shorter c.args.walk.now [] c.skip_white.new.walk c.in_ok-token.ensures.reads, c.requires)

pub returns-then-is_hash_text-clause-few_tokens : goal.returns-then-is_hash_text-clause-few_tokens
returns-then-is_hash_text-clause-few_tokens c = omega (arith, reads_shorter c.args.walk.now [] c.skip_white.new.walk c.in_ok-token.ensures.reads, c.in_ok-head.ensures.few_tokens)

pub returns-clause-few_tokens : goal.returns-clause-few_tokens
returns-clause-few_tokens c = omega (arith, reads_shorter c.args.walk.now [] c.skip_white.new.walk c.in_ok-token.ensures.reads, c.in_ok-counted.ensures.shorter)
