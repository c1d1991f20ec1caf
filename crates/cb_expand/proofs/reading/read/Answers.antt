use Rattle.std.proofs.Common.{◌≡◌, ◌∷◌, [], length, ap, sym, ◌∙◌, subst, arith, refl, None, length-append}
use Rattle.cb_expand.specs.declared.work.Work.{Work}
use Rattle.cb_expand.specs.inner.Readings.{reading}
use Rattle.cb_expand.specs.inner.Works.{state_of, Exceeds}
use Rattle.cb_expand.proofs.Runs.{read_state, read_step, if_ok_more, popped_work, popped_token}
use Rattle.cb_expand.proofs.reading.read.Goals as goal

pub deal-requires-clause-work : goal.deal-requires-clause-work
deal-requires-clause-work c =
    popped_work (length c.args.macros.now) c.args.work.now _ c.pop-token.result c.requires.work c.pop-token.ensures.tokens c.pop-token.ensures.kept c.requires.more refl refl refl refl refl

pub deal-requires-clause-token : goal.deal-requires-clause-token
deal-requires-clause-token c =
    popped_token (length c.args.work.now.arena) c.args.work.now.row.tokens.items c.pop-token.new.self.tokens.items c.pop-token.result c.pop-token.ensures.tokens c.requires.work.tokens

pub returns-clause-steps : goal.returns-clause-steps
unfolding state_of
returns-clause-steps c =
    let ms = c.args.macros.now in
    let w = c.args.work.now in
    let t = c.pop-token.result in
    let p : Work = record w { row = c.pop-token.new.self } in
    let e = c.pop-token.ensures.tokens in
    let l = ap length e ∙ length-append p.row.tokens.items (t ∷ []) in
    let s : state_of ms w None ≡ reading ms p t = read_state ms p t w.row.tokens.items e (omega (arith, l, c.requires.more)) c.requires.work.frames in
    if_ok_more c.deal.result (λ behind a. read_step ms c.args.mode w p c.deal.new.work t behind s refl (omega (arith, l)) a) c.deal.ensures.taken

pub returns-clause-long : goal.returns-clause-long
unfolding state_of
returns-clause-long c = λ q.
    let ms = c.args.macros.now in
    let w = c.args.work.now in
    let t = c.pop-token.result in
    let p : Work = record w { row = c.pop-token.new.self } in
    let e = c.pop-token.ensures.tokens in
    let l = ap length e ∙ length-append p.row.tokens.items (t ∷ []) in
    let s : state_of ms w None ≡ reading ms p t = read_state ms p t w.row.tokens.items e (omega (arith, l, c.requires.more)) c.requires.work.frames in
    subst (λ s. Exceeds ms c.args.mode s w.used) (sym s) (c.deal.ensures.long q)
