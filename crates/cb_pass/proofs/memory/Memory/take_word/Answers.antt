use Rattle.cb_pass.proofs.Acting.{each_ok, word_taken, word_undone}
use Rattle.cb_pass.proofs.memory.Memory.take_word.Goals as goal

pub returns-in-Define : goal.returns-in-Define
returns-in-Define c =
    each_ok c.define_read.result _ _ c.define_read.ensures
    (λ h language. word_taken c.args.op.now _ _ _ c.define_word-read.result (record { path = c.args.path.now; node = 0 }) c.args.self.now c.define_read.new.self
    c.in-Define.is c.as_slice.ensures c.as_slice-in-Define.ensures c.define_word-read.ensures.defined c.define_word-read.ensures.bad h)

pub returns-in_ok-name-in-Undef : goal.returns-in_ok-name-in-Undef
returns-in_ok-name-in-Undef c =
    each_ok c.undefine.result _ _ c.undefine.ensures
    (λ h language. word_undone c.args.op.now _ _ _ _ _ (record { path = c.args.path.now; node = 0 }) c.args.self.now c.undefine.new.self
    c.in-Undef.is c.as_slice-in-Undef.ensures c.as_slice-in-Undef-2.ensures c.in_ok-name-in-Undef.ensures c.bytes_of.ensures h)
