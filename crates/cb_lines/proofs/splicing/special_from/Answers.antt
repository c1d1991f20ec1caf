use Rattle.std.proofs.Common.{◌≡◌, ◌+◌, ◌-◌, ◌≤◌, ℕ, true, false, List, length, take, drop, get_or, sym, ap, ◌∙◌, arith, length-drop}
use Rattle.std.proofs.lemmas.Bool.{false_from_ne_true}
use Rattle.std.proofs.lemmas.List.{get_or-drop, take_rest}
use Rattle.cb_lines.specs.inner.Held.{is_special}
use Rattle.cb_lines.proofs.splicing.special_from.Goals as goal

-- a byte of the rest of a source, at its place in the whole
at_rest : (source : List ℕ) (from k : ℕ) → from ≤ k → get_or (drop from source) (k - from) 0 ≡ get_or source k 0
at_rest source from k h = get_or-drop from source (k - from) 0 ∙ (let e : from + (k - from) ≡ k = omega arith in ap (λ (n : ℕ). get_or source n 0) e)

-- the same of the slice that the search is given
at_slice : (source : List ℕ) (from k : ℕ) → from ≤ k → get_or (take (length source - from) (drop from source)) (k - from) 0 ≡ get_or source k 0
at_slice source from k h = ap (λ (bs : List ℕ). get_or bs (k - from) 0) (take_rest source from) ∙ at_rest source from k h

plain : (source : List ℕ) (from k : ℕ) → from ≤ k → (is_special (get_or (take (length source - from) (drop from source)) (k - from) 0) ≡ true → ⊥) → is_special (get_or source k 0) ≡ false
plain source from k h no_special =
    ap is_special (sym (at_slice source from k h)) ∙ false_from_ne_true (is_special (get_or (take (length source - from) (drop from source)) (k - from) 0)) no_special

pub returns-in-Some-clause-plain : goal.returns-in-Some-clause-plain
returns-in-Some-clause-plain c = λ k h l.
    plain c.args.source.now c.args.from k h (c.in-Some.ensures.0.before (k - c.args.from) (omega arith) (omega arith))

pub returns-in-None-clause-plain : goal.returns-in-None-clause-plain
returns-in-None-clause-plain c = λ k h l.
    plain c.args.source.now c.args.from k h (c.in-None.ensures (k - c.args.from) (omega arith) (let e = ap length (take_rest c.args.source.now c.args.from) in omega (arith, e, length-drop c.args.from c.args.source.now)))
