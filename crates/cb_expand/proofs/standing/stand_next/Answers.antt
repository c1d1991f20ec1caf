use Rattle.std.proofs.Common.{◌≡◌, ◌∷◌, ◌++◌, [], length, ap, ◌∙◌, arith, refl, false, None, length-append}
use Rattle.cb_tokens.specs.Kinds.{is_identifier_kind}
use Rattle.cb_paste.specs.Shades.{seen}
use Rattle.cb_expand.specs.declared.work.Work.{Work}
use Rattle.cb_expand.specs.inner.Readings.{reading, rest_of}
use Rattle.cb_expand.specs.inner.Works.{state_of}
use Rattle.cb_expand.proofs.Headings.{head_by, asked_by_kind, no_name}
use Rattle.cb_expand.proofs.Runs.{read_state, read_step, popped_work, popped_token, stands_taken}
use Rattle.cb_expand.proofs.standing.stand_next.Goals as goal

pub returns-clause-stood : goal.returns-clause-stood
unfolding state_of
returns-clause-stood c = λ ms mode h.
    let w = c.args.work.now in
    let t = c.pop-token.result in
    let p : Work = record w { row = c.pop-token.new.self } in
    let e = c.pop-token.ensures.tokens in
    let l = ap length e ∙ length-append p.row.tokens.items (t ∷ []) in
    let s : state_of ms w None ≡ reading ms p t = read_state ms p t w.row.tokens.items e (omega (arith, l, c.requires.next.0)) h.frames in
    let k : is_identifier_kind t.kind ≡ false = c.requires.next.1 t p.row.tokens.items e in
    let stands = head_by ms mode (seen w.arena t) (rest_of p) None (asked_by_kind mode (seen w.arena t) (rest_of p) k) ∙ no_name ms (seen w.arena t) (rest_of p) k in
    let q = popped_work (length ms) w p t h e c.pop-token.ensures.kept c.requires.next.0 refl refl refl refl refl in
    let x = popped_token (length w.arena) w.row.tokens.items p.row.tokens.items t e h.tokens in
    let d = c.push_reserved.ensures.items ∙ ap (λ ts. ts ++ t ∷ []) c.in_ok-reserve.ensures.items in
    read_step ms mode w p _ t None s refl (omega (arith, l)) (stands_taken ms mode p _ t q x stands d refl)

pub returns-clause-fewer : goal.returns-clause-fewer
returns-clause-fewer c = omega (arith, ap length c.pop-token.ensures.tokens ∙ length-append c.pop-token.new.self.tokens.items (c.pop-token.result ∷ []))
