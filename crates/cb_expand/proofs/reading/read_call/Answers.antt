use Rattle.std.proofs.Common.{◌≡◌, length, None, Some}
use Rattle.std.proofs.lemmas.Result.{err_from_is_err_and}
use Rattle.cb_paste.specs.Shades.{seen}
use Rattle.cb_expand.specs.Heads.{Stands}
use Rattle.cb_expand.specs.declared.work.Work.{Work}
use Rattle.cb_expand.specs.inner.Readings.{head_of, rest_of, IsEnded, IsCalled}
use Rattle.cb_expand.proofs.Readings.{same_work, same_opened, same_taken, same_exceeds}
use Rattle.cb_expand.proofs.Resuming.{same_fault}
use Rattle.cb_expand.proofs.reading.read_call.Goals as goal

pub begin_call-requires-clause-ended : goal.begin_call-requires-clause-ended
begin_call-requires-clause-ended c =
    let p : Work = record c.args.work.now { row = c.keep_ends.new.self } in
    let e : IsEnded c.args.macros.now p c.args.place c.in-Some.gathered.ends.items = rw c.in-Some.is at c.in_ok-call_ends.ensures.ended in e

pub returns-in_err-call-in-Some-clause-long : goal.returns-in_err-call-in-Some-clause-long
returns-in_err-call-in-Some-clause-long c = λ mode o q.
    let ms = c.args.macros.now in
    let w = c.args.work.now in
    let t = c.args.token in
    let r = c.keep_ends.new.self in
    let p : Work = record w { row = r } in
    let e = c.in_ok-keep_ends.ensures.tokens in
    let f = err_from_is_err_and c.from_residual-in_err-call-in-Some.result c.from_residual-in_err-call-in-Some.ensures.1 in
    let k : IsCalled ms p t c.args.place c.in-Some.gathered.ends.items c.in-Some.gathered.lacks_rest (head_of ms mode p t) =
    rw c.in-Some.is at c.in_ok-call_ends.ensures.called t (head_of ms mode p t) (same_opened ms mode w r t e c.args.place o) in
    same_exceeds ms mode w r t e (c.begin_call.ensures.long mode k (same_fault _ _ _ _ c.in_err-call-in-Some.was f.1 f.2 q))

pub returns-in_ok-stand-in-None-clause-taken : goal.returns-in_ok-stand-in-None-clause-taken
returns-in_ok-stand-in-None-clause-taken c = λ mode o.
    let ms = c.args.macros.now in
    let w = c.args.work.now in
    let t = c.args.token in
    let r = c.keep_ends.new.self in
    let p : Work = record w { row = r } in
    let e = c.in_ok-keep_ends.ensures.tokens in
    let k : head_of ms mode p t ≡ Stands (seen p.arena t) (rest_of p) =
    rw c.in-None.is at c.in_ok-call_ends.ensures.called t (head_of ms mode p t) (same_opened ms mode w r t e c.args.place o) in
    same_taken ms mode w r t e c.stand.new.work None
    (c.in_ok-stand-in-None.ensures.taken ms mode (same_work ms mode w r t e (length ms) c.in_ok-keep_ends.ensures.kept.ends c.requires.work) c.requires.token k)

pub returns-in_ok-call-in-Some-clause-taken : goal.returns-in_ok-call-in-Some-clause-taken
returns-in_ok-call-in-Some-clause-taken c = λ mode o.
    let ms = c.args.macros.now in
    let w = c.args.work.now in
    let t = c.args.token in
    let r = c.keep_ends.new.self in
    let p : Work = record w { row = r } in
    let e = c.in_ok-keep_ends.ensures.tokens in
    let k : IsCalled ms p t c.args.place c.in-Some.gathered.ends.items c.in-Some.gathered.lacks_rest (head_of ms mode p t) =
    rw c.in-Some.is at c.in_ok-call_ends.ensures.called t (head_of ms mode p t) (same_opened ms mode w r t e c.args.place o) in
    same_taken ms mode w r t e c.begin_call.new.work (Some c.in_ok-call-in-Some.call) (c.in_ok-call-in-Some.ensures.taken mode k)
