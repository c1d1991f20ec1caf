-- The least number of spans.
use Rattle.std.proofs.Common.{◌≡◌, ℕ, ◌+◌, ◌-◌, ◌<◌, ◌≤◌, List, [], ◌∷◌, length, get_or, ap, sym, ◌++◌, arith}
use Prim.Native.Nat.{suc}
use Rattle.std.specs.List.{flat_map, range_with_len}
use Rattle.cb_lines.specs.declared.line_set.Span.{Span}
use Rattle.cb_lines.specs.Lines.{AreMaximal, span_lines}
use Rattle.cb_tree.specs.Nodes.{first_of}

first_is : (s : Span) (more : List ℕ) → s.first ≤ s.last → first_of (span_lines s ++ more) ≡ s.first
first_is s more h =
    let e : s.last + 1 - s.first ≡ suc (s.last - s.first) = omega arith in
    ap (λ n. first_of (range_with_len s.first n ++ more)) e

nonempty : (s : Span) (ss : List Span) → AreMaximal (s ∷ ss) → s.first ≤ s.last
nonempty s [] h = h
nonempty s (t ∷ ss) h = h.0

pub first_of_spans : (spans : List Span) (d : Span) → AreMaximal spans → 0 < length spans → (get_or spans 0 d).first ≡ first_of (flat_map span_lines spans)
first_of_spans [] d m h = absurd (omega arith)
first_of_spans (s ∷ ss) d m h = sym (first_is s (flat_map span_lines ss) (nonempty s ss m))
