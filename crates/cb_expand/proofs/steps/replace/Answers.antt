use Rattle.std.proofs.Common.{◌≡◌, List, length, ◌++◌, ap, sym, ◌∙◌, subst, arith}
use Rattle.std.proofs.lemmas.Result.{on_ok_weaker}
use Rattle.cb_paste.specs.declared.argument.Argument.{Argument}
use Rattle.cb_paste.specs.Puts.{AreArgumentsIn}
use Rattle.cb_expand.specs.inner.Works.{raws, became, lacking}
use Rattle.cb_expand.proofs.Resuming.{added_kept, length_row, replaced_goes, too_long}
use Rattle.cb_expand.proofs.steps.replace.Goals as goal

pub put_in-requires-clause-arguments : goal.put_in-requires-clause-arguments
put_in-requires-clause-arguments c =
    subst (λ (xs : List Argument). AreArgumentsIn (length c.args.work.now.arena) xs) (sym c.as_mut_slice.ensures.value)
    (c.in_ok-arguments.ensures.within (length c.args.work.now.arena) c.requires.work.call.arguments)

pub returns-clause-steps : goal.returns-clause-steps
returns-clause-steps c =
    let w = c.args.work.now in
    let s = c.as_mut_slice.result.now in
    let e : raws w.arena s ≡ raws w.arena c.args.call.arguments.items ++ lacking c.args.call.lacks_rest = ap (raws w.arena) c.as_mut_slice.ensures.value ∙ c.in_ok-arguments.ensures.raws w.arena in
    let f : became w.arena s ≡ became w.arena c.args.call.arguments.items ++ lacking c.args.call.lacks_rest = ap (became w.arena) c.as_mut_slice.ensures.value ∙ c.in_ok-arguments.ensures.became w.arena in
    on_ok_weaker c.put_in.result (λ a mode. replaced_goes c.args.macros.now mode w c.args.call s c.requires.left e f c.put_in.new.work a (length c.args.macros.now) c.requires.work) c.put_in.ensures.added

pub returns-clause-kept : goal.returns-clause-kept
returns-clause-kept c =
    let w = c.args.work.now in
    let h = c.requires.work in
    on_ok_weaker c.put_in.result (λ a. added_kept c.args.macros.now w c.put_in.new.work _ a (length c.args.macros.now) (omega (arith, length_row w, h.floor)) h.done h.frames) c.put_in.ensures.added

pub returns-clause-long : goal.returns-clause-long
returns-clause-long c = λ mode q.
    let w = c.args.work.now in
    let s = c.as_mut_slice.result.now in
    let e : raws w.arena s ≡ raws w.arena c.args.call.arguments.items ++ lacking c.args.call.lacks_rest = ap (raws w.arena) c.as_mut_slice.ensures.value ∙ c.in_ok-arguments.ensures.raws w.arena in
    let f : became w.arena s ≡ became w.arena c.args.call.arguments.items ++ lacking c.args.call.lacks_rest = ap (became w.arena) c.as_mut_slice.ensures.value ∙ c.in_ok-arguments.ensures.became w.arena in
    too_long c.args.macros.now mode w c.args.call s c.requires.left e f (c.put_in.ensures.long q)
