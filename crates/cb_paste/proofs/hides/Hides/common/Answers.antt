use Rattle.std.proofs.Common.{sym, ◌∙◌, ap}
use Rattle.std.proofs.lemmas.Bool.{eqb-true}
use Rattle.cb_paste.specs.Sets.{hides}
use Rattle.cb_paste.proofs.Arenas.{hides_none}
use Rattle.cb_paste.proofs.Sides.{common_all, common_none}
use Rattle.cb_paste.proofs.hides.Hides.common.Goals as goal

pub returns-then-has-clause-places : goal.returns-then-has-clause-places
returns-then-has-clause-places c = λ n.
    common_all (hides c.args.self.now c.args.one n) (hides c.args.self.now c.args.other n)
    (λ h. ap (λ k. hides c.args.self.now c.args.other k) (eqb-true n c.args.place (sym (c.requires.place n) ∙ h)) ∙ (sym c.has.ensures ∙ c.if-has.true))

pub returns-else-has-clause-places : goal.returns-else-has-clause-places
returns-else-has-clause-places c = λ n.
    hides_none c.args.self.now n
    ∙ common_none (hides c.args.self.now c.args.one n) (hides c.args.self.now c.args.other n)
    (λ h. ap (λ k. hides c.args.self.now c.args.other k) (eqb-true n c.args.place (sym (c.requires.place n) ∙ h)) ∙ (sym c.has.ensures ∙ c.if-has.false))
