use Rattle.std.proofs.Common.{◌≡◌, ℕ, List, [], sym, ap, subst}
use Rattle.std.specs.Prelude.{Option}
use Rattle.cb_macro.specs.Definitions.{Definition, defines}
use Rattle.cb_pass.specs.declared.effect.Effect.{Effect}
use Rattle.cb_pass.specs.Answers.{IsDefinition}
use Rattle.cb_pass.proofs.Acting.{taken}
use Rattle.cb_pass.proofs.memory.Memory.define_tokens.Goals as goal

pub returns : goal.returns
returns c = λ language.
    let tokens = c.args.tokens.now in
    let t = taken (λ (d : Option (List ℕ × Definition)). defines tokens ≡ d) c.read_define-read.result (record { path = c.args.path.now; node = c.args.node }) []
    c.args.self.now c.define_read.new.self c.read_define-read.ensures.defined c.read_define-read.ensures.bad c.in_ok-define_read.ensures in (
      t.0,
      subst (λ (d : Option (List ℕ × Definition)). IsDefinition c.args.self.now.macros d t.0) (sym t.1.1) t.1.2,
      t.2,
      ap (λ (e : Effect). e.condition) c.nothing.ensures,
      ap (λ (e : Effect). e.header) c.nothing.ensures,
    )
