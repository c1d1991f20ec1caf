-- Spans that are read as a slice, and then written.
use Rattle.std.proofs.Common.{◌≡◌, ℕ, ◌<◌, List, length, get_or, sym, subst}
use Rattle.std.proofs.lemmas.List.{get_or_default}
use Rattle.cb_lines.specs.declared.line_set.Span.{Span}
use Rattle.cb_lines.proofs.Adding.{Added, none}
use Rattle.cb_lines.proofs.Joining.{Joins}

-- what is read at a place does not depend on what is read past the end
pub read_at : (ss : List Span) (i : ℕ) → i < length ss → get_or ss i none ≡ get_or ss i (get_or ss i none)
read_at ss i l = get_or_default ss i none (get_or ss i none) l

-- what is said of the spans that were read holds of those that were written
pub added_as : (line : ℕ) (held ss made new : List Span) → held ≡ ss → new ≡ made → Added line held made → Added line ss new
added_as line held ss made new e n h = subst (λ (old : List Span). Added line old new) e (subst (Added line held) (sym n) h)

pub joins_as : (next : Span) (held ss made new : List Span) → held ≡ ss → new ≡ made → Joins next held made → Joins next ss new
joins_as next held ss made new e n h = subst (λ (old : List Span). Joins next old new) e (subst (Joins next held) (sym n) h)
