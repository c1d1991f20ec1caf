use Rattle.std.proofs.Common.{[], refl, ◌∙◌, sym, subst, List, arith}
use Rattle.std.proofs.lemmas.List.{append-nil}
use Rattle.std.proofs.lemmas.Result.{err_from_is_err_and}
use Rattle.cb_lines.specs.declared.mark.Mark.{Mark}
use Rattle.cb_tree.specs.inner.Reads.{Reads}
use Rattle.cb_tree.proofs.ReadsMore.{reads_on, tells_after}
use Rattle.cb_lines.specs.Marks.{bytes_of}
use Rattle.cb_tree.proofs.HashTokens.{hash_bytes}
use Rattle.cb_tree.proofs.NodeSteps.{node_after}
use Rattle.cb_tree.proofs.sequence.read_node.Goals as goal

pub returns-in_err-counted-in-Some-clause-tells : goal.returns-in_err-counted-in-Some-clause-tells
returns-in_err-counted-in-Some-clause-tells c =
    let p = err_from_is_err_and c.from_residual-in_err-counted-in-Some.result c.from_residual-in_err-counted-in-Some.ensures.1 in
    let begins = rw c.in-Some.is at c.begin_run.ensures.begins in
    rw (p.1, p.2) (tells_after c.args.walk.now c.pass_white.new.walk [] c.in_err-counted-in-Some.field-0.0 c.pass_white.ensures.blank (c.in_err-counted-in-Some.ensures.tells c.pass_white.new.walk begins))

pub returns-in_ok-counted-in-Some-clause-reads : goal.returns-in_ok-counted-in-Some-clause-reads
returns-in_ok-counted-in-Some-clause-reads c =
    let begins = rw c.in-Some.is at c.begin_run.ensures.begins in
    rw c.text_head.ensures (
      ([], record { kept = []; added = sym (append-nil c.args.tokens.now.items); own_is = refl; to_is = c.len.ensures ∙ c.args.tokens.now.ok.0 }, reads_on c.args.walk.now [] c.pass_white.new.walk _ c.read_on.new.walk c.pass_white.ensures.blank (c.in_ok-counted-in-Some.ensures.reads c.pass_white.new.walk begins)),
      omega (arith, c.pass_white.ensures.shorter, rw c.in-Some.is at c.begin_run.ensures.shorter, c.in_ok-counted-in-Some.ensures.shorter),
      omega (arith, c.pass_white.ensures.shorter, rw c.in-Some.is at c.begin_run.ensures.few, c.in_ok-counted-in-Some.ensures.few),
    )

pub returns-in_ok-head-in-None-clause-reads : goal.returns-in_ok-head-in-None-clause-reads
returns-in_ok-head-in-None-clause-reads c =
    let same = rw c.in-None.is at c.begin_run.ensures.begins in
    let blank = subst (λ (rest : List Mark). Reads c.args.walk.now [] rest) (sym same) c.pass_white.ensures.blank in
    node_after c.args.walk.now c.begin_run.new.walk c.read_from_token.new.walk c.args.tokens.now.items c.read_from_token.new.tokens.items c.in_ok-head-in-None.head blank c.in_ok-head-in-None.ensures.reads

pub returns-in_err-head-in-None-clause-tells : goal.returns-in_err-head-in-None-clause-tells
returns-in_err-head-in-None-clause-tells c =
    let p = err_from_is_err_and c.from_residual-in_err-head-in-None.result c.from_residual-in_err-head-in-None.ensures.1 in
    let same = rw c.in-None.is at c.begin_run.ensures.begins in
    let blank = subst (λ (rest : List Mark). Reads c.args.walk.now [] rest) (sym same) c.pass_white.ensures.blank in
    rw (p.1, p.2) (tells_after c.args.walk.now c.begin_run.new.walk [] c.in_err-head-in-None.field-0.0 blank c.in_err-head-in-None.ensures.tells)

pub read_directive-requires-clause-hash : goal.read_directive-requires-clause-hash
read_directive-requires-clause-hash c =
    let here = rw c.rest.ensures at c.if-begins_with_hash.ensures.0 refl in
    hash_bytes (bytes_of c.pass_white.new.walk) here.0

pub returns-then-begins_with_hash-clause-reads : goal.returns-then-begins_with_hash-clause-reads
returns-then-begins_with_hash-clause-reads c =
    let (own, adds, reads) = c.in_ok-head.ensures.reads in (
      (own, adds, reads_on c.args.walk.now [] c.pass_white.new.walk _ c.read_directive.new.walk c.pass_white.ensures.blank reads),
      omega (arith, c.pass_white.ensures.shorter, c.in_ok-head.ensures.shorter),
      omega (arith, c.pass_white.ensures.shorter, c.in_ok-head.ensures.few),
    )

pub returns-in_err-head-clause-tells : goal.returns-in_err-head-clause-tells
returns-in_err-head-clause-tells c =
    let p = err_from_is_err_and c.from_residual.result c.from_residual.ensures.1 in
    rw (p.1, p.2) (tells_after c.args.walk.now c.pass_white.new.walk [] c.in_err-head.field-0.0 c.pass_white.ensures.blank c.in_err-head.ensures.tells)
