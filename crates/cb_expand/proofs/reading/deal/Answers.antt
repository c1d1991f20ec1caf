use Rattle.std.proofs.lemmas.Result.{err_from_is_err_and}
use Rattle.cb_expand.proofs.Resuming.{same_fault}
use Rattle.cb_expand.specs.inner.Readings.{head_of, IsHeading}
use Rattle.cb_expand.specs.declared.heading.Heading.TheVariants.{Object, Function}
use Rattle.cb_expand.proofs.reading.deal.Goals as goal

pub returns-in_err-replace_name-in-Object-clause-long : goal.returns-in_err-replace_name-in-Object-clause-long
returns-in_err-replace_name-in-Object-clause-long c = λ q.
    let r = c.from_residual-in_err-replace_name-in-Object in
    let p = err_from_is_err_and r.result r.ensures.1 in
    let h : IsHeading c.args.macros.now c.args.work.now c.args.token (head_of c.args.macros.now c.args.mode c.args.work.now c.args.token) (Object c.in-Object.place) = rw c.in-Object.is at c.in_ok-heading.ensures in
    c.replace_name.ensures.long c.args.mode h.1 (same_fault _ _ _ _ c.in_err-replace_name-in-Object.was p.1 p.2 q)

pub returns-in-Function-clause-long : goal.returns-in-Function-clause-long
returns-in-Function-clause-long c = λ q.
    let h : IsHeading c.args.macros.now c.args.work.now c.args.token (head_of c.args.macros.now c.args.mode c.args.work.now c.args.token) (Function c.in-Function.place) = rw c.in-Function.is at c.in_ok-heading.ensures in
    c.read_call.ensures.long c.args.mode h q
