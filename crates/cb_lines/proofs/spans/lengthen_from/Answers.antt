use Rattle.std.proofs.Common.{◌≡◌, ℕ, ◌+◌, ◌-◌, ◌<◌, ◌≤◌, List, length, set, sym, ap, ◌∙◌, subst, arith}
use Rattle.cb_lines.specs.declared.line_set.Span.{Span}
use Rattle.cb_lines.specs.Lines.{AreMaximal}
use Rattle.cb_lines.proofs.AtEnd.{last_of}
use Rattle.cb_lines.proofs.Stretching.{Longer, longer, ending_with}
use Rattle.cb_lines.proofs.spans.lengthen_from.Goals as goal

-- the last span made longer, as it was read and then written
made : (from line : ℕ) (held ss new : List Span) → held ≡ ss → AreMaximal ss → 0 < length held → (last_of held).last ≡ from → from ≤ line
    → new ≡ set ss (length held - 1) (record { first = (last_of held).first; last = line }) → Longer from (line - from) ss new
made from line held ss new e h some last rising is =
    let end : from + (line - from) ≡ line = omega arith in
    let run : Span = record { first = (last_of held).first; last = line } in
    subst (λ (old : List Span). Longer from (line - from) old new) e
    (subst (Longer from (line - from) held) (ap (λ n. ending_with n held) end ∙ (ap (λ ss. set ss (length held - 1) run) e ∙ sym is))
    (longer (line - from) from held (subst AreMaximal (sym e) h) some last))

pub returns-clause-maximal : goal.returns-clause-maximal
returns-clause-maximal c =
    (made c.args.from c.args.line c.as_slice-held.result.now c.args.spans.now c.set.new.self c.as_slice-held.ensures c.requires.maximal (omega arith) (omega arith) c.requires.rising c.set.ensures).maximal

pub returns-clause-numbers : goal.returns-clause-numbers
returns-clause-numbers c = λ _.
    (made c.args.from c.args.line c.as_slice-held.result.now c.args.spans.now c.set.new.self c.as_slice-held.ensures c.requires.maximal (omega arith) (omega arith) c.requires.rising c.set.ensures).numbers
