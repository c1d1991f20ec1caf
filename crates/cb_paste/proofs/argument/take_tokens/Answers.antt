use Rattle.std.proofs.Common.{true, false, get_or, sym, subst, ap, ◌∙◌, arith}
use Rattle.cb_paste.specs.Shades.{AreIn}
use Rattle.cb_paste.proofs.Copies.{argument_in}
use Rattle.cb_paste.proofs.Moves.{kept_self, set_kept, raw_taken, expanded_taken}
use Rattle.cb_paste.proofs.argument.take_tokens.Goals as goal

pub returns-then-i-arguments-clause-others : goal.returns-then-i-arguments-clause-others
returns-then-i-arguments-clause-others c = kept_self _ _

pub returns-then-raw-clause-within : goal.returns-then-raw-clause-within
returns-then-raw-clause-within c = λ count o.
    subst (λ v. AreIn count v.items) (sym c.replace.ensures.value)
    (subst (λ a. AreIn count a.raw.items) c.index-arguments-i.is (argument_in count c.args.arguments.now c.args.i c.index-arguments-i.result (omega arith) c.index-arguments-i.is o).0)

pub returns-then-raw-clause-others : goal.returns-then-raw-clause-others
returns-then-raw-clause-others c =
    let old = get_or c.args.arguments.now c.args.i c.index-arguments-i.result in
    rw c.if-raw.true
    (set_kept c.args.arguments.now c.args.i c.index-arguments-i.result (record { raw = c.replace.new.dest; expanded = old.expanded }) true (omega arith) c.index-arguments-i.is
    (λ sets form other. raw_taken sets form (record { raw = c.replace.new.dest; expanded = old.expanded }) c.index-arguments-i.result (ap (λ a. a.expanded.items) (sym c.index-arguments-i.is)) other)
    (λ count o. (subst (λ l. AreIn count l) (sym (ap (λ v. v.items) c.replace.ensures.after ∙ c.new-then-raw.ensures.items)) tt, subst (λ a. AreIn count a.expanded.items) c.index-arguments-i.is (argument_in count c.args.arguments.now c.args.i c.index-arguments-i.result (omega arith) c.index-arguments-i.is o).1)))

pub returns-clause-within : goal.returns-clause-within
returns-clause-within c = λ count o.
    subst (λ v. AreIn count v.items) (sym c.replace-2.ensures.value)
    (subst (λ a. AreIn count a.expanded.items) c.index-arguments-i.is (argument_in count c.args.arguments.now c.args.i c.index-arguments-i.result (omega arith) c.index-arguments-i.is o).1)

pub returns-clause-others : goal.returns-clause-others
returns-clause-others c =
    let old = get_or c.args.arguments.now c.args.i c.index-arguments-i.result in
    rw c.if-raw.false
    (set_kept c.args.arguments.now c.args.i c.index-arguments-i.result (record { raw = old.raw; expanded = c.replace-2.new.dest }) false (omega arith) c.index-arguments-i.is
    (λ sets form other. expanded_taken sets form (record { raw = old.raw; expanded = c.replace-2.new.dest }) c.index-arguments-i.result (ap (λ a. a.raw.items) (sym c.index-arguments-i.is)) other)
    (λ count o. (subst (λ a. AreIn count a.raw.items) c.index-arguments-i.is (argument_in count c.args.arguments.now c.args.i c.index-arguments-i.result (omega arith) c.index-arguments-i.is o).0, subst (λ l. AreIn count l) (sym (ap (λ v. v.items) c.replace-2.ensures.after ∙ c.new-2.ensures.items)) tt)))
