use Rattle.std.proofs.Common.{◌-◌, set, ◌∙◌, ap, arith}
use Rattle.cb_paste.specs.declared.work_token.WorkToken.{WorkToken}
use Rattle.cb_paste.specs.Shades.{waiting}
use Rattle.cb_paste.proofs.Stacks.{space_last, in_at, in_set}
use Rattle.cb_paste.proofs.placing.space_first.Goals as goal

pub returns-clause-put : goal.returns-clause-put
returns-clause-put c = λ sets.
    ap {A = WorkToken} (λ t. waiting sets (set c.args.stack.now.items (c.len-count.result - 1) (record t { spaced = c.args.spaced }))) c.index_mut.ensures.value
    ∙ space_last sets c.args.stack.now.items (c.len-count.result - 1) c.args.spaced c.index_mut.result.now (omega (arith, c.len-count.ensures, c.args.stack.now.ok.0, c.if-count-eq0.false))

pub returns-clause-within : goal.returns-clause-within
returns-clause-within c = λ count o.
    in_set count c.args.stack.now.items (c.len-count.result - 1) _
    (in_at count c.args.stack.now.items (c.len-count.result - 1) c.index_mut.result.now (omega (arith, c.len-count.ensures, c.args.stack.now.ok.0, c.if-count-eq0.false)) c.index_mut.ensures.value o) o
