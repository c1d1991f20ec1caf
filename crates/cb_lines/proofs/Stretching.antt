-- The last of maximal spans made longer by any number of lines.
use Rattle.std.proofs.Common.{◌≡◌, ℕ, ◌+◌, ◌-◌, ◌<◌, List, [], ◌∷◌, length, get_or, set, refl, sym, ap, ◌∙◌, subst, suc, zero, arith, length-set}
use Rattle.std.specs.List.{range_with_len}
use Rattle.std.proofs.lemmas.List.{get_or-set_same, set-get_or}
use Rattle.cb_lines.specs.declared.line_set.Span.{Span}
use Rattle.cb_lines.specs.Lines.{with_line, union_of, AreMaximal}
use Rattle.cb_lines.proofs.SpanLists.{lines}
use Rattle.cb_lines.proofs.Adding.{none}
use Rattle.cb_lines.proofs.AtEnd.{last_of, added_to_last}

-- the first number of a range goes in, and then the others
pub union_range : (a z : ℕ) (set : List ℕ) → a < z → union_of (range_with_len a (z - a)) set ≡ union_of (range_with_len (a + 1) (z - (a + 1))) (with_line a set)
union_range a z set h =
    let e : z - a ≡ suc (z - (a + 1)) = omega arith in
    ap (λ n. union_of (range_with_len a n) set) e

-- what adding the lines behind one leaves
pub record Longer (from count : ℕ) (old new : List Span) : Type 0 where
  pub maximal : AreMaximal new
  pub numbers : lines new ≡ union_of (range_with_len (from + 1) count) (lines old)

set_twice : (ss : List Span) (i : ℕ) (x y : Span) → set (set ss i x) i y ≡ set ss i y
set_twice [] i x y = refl
set_twice (s ∷ ss) zero x y = refl
set_twice (s ∷ ss) (suc i) x y = ap (λ ss. s ∷ ss) (set_twice ss i x y)

-- spans whose last one ends with another line
abbrev pub ending_with : ℕ → List Span → List Span
ending_with line ss = set ss (length ss - 1) (record { first = (last_of ss).first; last = line })

pub longer : (count from : ℕ) (ss : List Span) → AreMaximal ss → 0 < length ss → (last_of ss).last ≡ from → Longer from count ss (ending_with (from + count) ss)
longer zero from ss h some e =
    let same : ending_with (from + zero) ss ≡ ss = (let f : from + zero ≡ (last_of ss).last = omega (arith, e) in ap (λ n. ending_with n ss) f) ∙ set-get_or ss (length ss - 1) none in
    record {
      maximal = subst AreMaximal (sym same) h;
      numbers = ap lines same;
    }
longer (suc count) from ss h some e =
    let next : List Span = ending_with (from + 1) ss in
    let added = added_to_last (from + 1) ss h some (omega (arith, e)) in
    let long : length next ≡ length ss = length-set ss (length ss - 1) (record { first = (last_of ss).first; last = from + 1 }) in
    let within : length ss - 1 < length ss = omega arith in
    let last : last_of next ≡ record { first = (last_of ss).first; last = from + 1 } =
    ap (λ n. get_or next (n - 1) none) long ∙ get_or-set_same ss (length ss - 1) (record { first = (last_of ss).first; last = from + 1 }) none within in
    let rest = longer count (from + 1) next added.maximal (omega (arith, long)) (ap (λ s. s.last) last) in
    let end : from + 1 + count ≡ from + suc count = omega arith in
    let made : ending_with (from + 1 + count) next ≡ ending_with (from + suc count) ss =
    ap (λ n. set next (n - 1) (record { first = (last_of next).first; last = from + 1 + count })) long
    ∙ (ap (λ (s : Span). set next (length ss - 1) (record { first = s.first; last = from + 1 + count })) last
    ∙ (set_twice ss (length ss - 1) (record { first = (last_of ss).first; last = from + 1 }) (record { first = (last_of ss).first; last = from + 1 + count })
    ∙ ap (λ n. ending_with n ss) end)) in
    record {
      maximal = subst AreMaximal made rest.maximal;
      numbers = ap lines (sym made) ∙ (rest.numbers ∙ ap (union_of (range_with_len (from + 1 + 1) count)) added.numbers);
    }
