use Rattle.std.proofs.Common.{ℕ, sym, ap, subst, ◌∙◌}
use Rattle.std.specs.Prelude.{◌||◌, ◌&&◌, ◌==◌}
use Rattle.std.specs.Str.{bytes_eq}
use Rattle.cb_pass.specs.Reached.{is_in}
use Rattle.cb_pass.specs.Steps.{place_in}
use Rattle.cb_pass.specs.inner.Memos.{Memo}
use Rattle.cb_pass.specs.inner.Trails.{Findings, next_rest}
use Rattle.cb_pass.specs.inner.Moves.{HasEffectIn}
use Rattle.cb_pass.proofs.Visiting.{visited}
use Rattle.cb_pass.proofs.visit.visit.Goals as goal

pub returns-clause-visited : goal.returns-clause-visited
returns-clause-visited c =
    let f = c.args.file.now.frame in
    let old = c.args.trail.now in
    let mid = c.mark.new.self in
    let effect = c.in_ok-effect.effect in
    visited c.args.language f c.advance.new.self.frame c.args.kind old mid _ effect.condition effect.header
    c.requires.next c.requires.room c.in_ok-mark.ensures.same.0 c.in_ok-mark.ensures.count c.in_ok-mark.ensures.same.1
    (λ p n.
    c.in_ok-mark.ensures.marked f.path p n (c.requires.placed.0 ∙ sym c.place.ensures)
    ∙ ap (λ (k : ℕ). (bytes_eq p f.path && (n == k)) || is_in old.probes old.rows p n) c.node.ensures)
    (subst (λ (m : Memo). HasEffectIn c.args.language c.args.kind (place_in f) (next_rest f.rest) f.sections m c.act.new.memory effect.condition effect.header)
    (ap (λ (t : Findings). t.memo) c.trail.view_is) c.in_ok-effect.ensures)
    (ap (λ (t : Findings). record t { memo = c.act.new.memory }) c.trail.view_is)
    c.in_ok-advance.ensures.moved
