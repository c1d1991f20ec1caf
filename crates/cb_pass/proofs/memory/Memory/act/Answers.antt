use Rattle.std.proofs.Common.{refl}
use Rattle.cb_tree.specs.declared.node.NodeKind.TheVariants as kinds
use Rattle.cb_pass.specs.Answers.{Silent}
use Rattle.cb_pass.proofs.Acting.{each, at_kind, in_language, inert}
use Rattle.cb_pass.proofs.memory.Memory.act.Goals as goal

pub returns-in-Ifdef : goal.returns-in-Ifdef
returns-in-Ifdef c = at_kind c.look_for.result c.args.language c.args.kind kinds.Ifdef _ _ _ _ c.in-Ifdef.is c.look_for.ensures

pub returns-in-Ifndef : goal.returns-in-Ifndef
returns-in-Ifndef c = at_kind c.look_for_none.result c.args.language c.args.kind kinds.Ifndef _ _ _ _ c.in-Ifndef.is c.look_for_none.ensures

pub returns-in-Define : goal.returns-in-Define
returns-in-Define c = at_kind c.define_tokens.result c.args.language c.args.kind kinds.Define _ _ _ _ c.in-Define.is c.define_tokens.ensures

pub returns-in-Undef : goal.returns-in-Undef
returns-in-Undef c = at_kind c.undef_tokens.result c.args.language c.args.kind kinds.Undef _ _ _ _ c.in-Undef.is c.undef_tokens.ensures

pub returns-in-Include : goal.returns-in-Include
returns-in-Include c = in_language c.include.result c.args.language c.args.kind kinds.Include _ _ _ _ c.in-Include.is c.include.ensures

pub returns-in-Once : goal.returns-in-Once
returns-in-Once c =
    at_kind c.once.result c.args.language c.args.kind kinds.Once _ _ _ _ c.in-Once.is
    (each c.once.result _ _ c.once.ensures (λ e h l. h l c.args.node c.args.tokens.now))

pub returns-in-Error : goal.returns-in-Error
returns-in-Error c =
    at_kind c.error.result c.args.language c.args.kind kinds.Error _ _ _ _ c.in-Error.is
    (each c.error.result _ _ c.error.ensures (λ e h l. h l c.args.tokens.now))

pub returns-in-Text : goal.returns-in-Text
returns-in-Text c = inert c.args.language c.args.kind kinds.Text _ _ _ c.nothing.result c.in-Text.is (Silent, refl, (λ s. refl), refl, refl) c.nothing.ensures

pub returns-in-Else : goal.returns-in-Else
returns-in-Else c = inert c.args.language c.args.kind kinds.Else _ _ _ c.nothing-in-Else.result c.in-Else.is (Silent, refl, (λ s. refl), refl, refl) c.nothing-in-Else.ensures

pub returns-in-Endif : goal.returns-in-Endif
returns-in-Endif c = inert c.args.language c.args.kind kinds.Endif _ _ _ c.nothing-in-Endif.result c.in-Endif.is (Silent, refl, (λ s. refl), refl, refl) c.nothing-in-Endif.ensures

pub returns-in-Other : goal.returns-in-Other
returns-in-Other c = inert c.args.language c.args.kind kinds.Other _ _ _ c.nothing-in-Other.result c.in-Other.is (Silent, refl, (λ s. refl), refl, refl) c.nothing-in-Other.ensures
