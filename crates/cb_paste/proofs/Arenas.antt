-- Arenas that grow keep their sets.
use Rattle.std.proofs.Common.{◌≡◌, ℕ, zero, suc, ◌-◌, ◌/◌, ◌%◌, ◌==◌, ◌≤◌, if◌then◌else◌, false, List, [], ◌++◌, length, refl, sym, ◌∙◌, ap, arith, append_assoc, length-append}
use Rattle.std.specs.List.{list_any}
use Rattle.std.proofs.lemmas.List.{append-nil, get_or_append_left}
use Rattle.std.proofs.lemmas.Bool.{cond_both}
use Rattle.cb_paste.specs.declared.hides.Cell.{Cell}
use Rattle.cb_paste.specs.Sets.{set_at, hides, Extends}
use Rattle.cb_paste.specs.inner.Nodes.{side_of, in_cell, IsOver}

pub extends_self : (sets : List (List ℕ)) → Extends sets sets
extends_self sets = record { more = []; is = sym (append-nil sets) }

pub extends_trans : {a b c : List (List ℕ)} → Extends a b → Extends b c → Extends a c
extends_trans {a} {b} {c} e f = record {
  more = e.more ++ f.more;
  is = f.is ∙ (ap (λ l. l ++ f.more) e.is ∙ append_assoc a e.more f.more);
}

pub extends_length : {a b : List (List ℕ)} → Extends a b → length a ≤ length b
extends_length {a} {b} e = omega (arith, ap length e.is, length-append a e.more)

pub set_at_kept : (a more : List (List ℕ)) (i : ℕ) → i ≤ length a → set_at (a ++ more) i ≡ set_at a i
set_at_kept a more zero h = refl
set_at_kept a more (suc i) h = get_or_append_left a more [] i (omega arith)

pub hides_kept : {a b : List (List ℕ)} → Extends a b → (i : ℕ) → i ≤ length a → (n : ℕ) → hides b i n ≡ hides a i n
unfolding hides
hides_kept {a} {b} e i h n = ap (λ s. list_any (λ p. n == p) s) (ap (λ l. set_at l i) e.is ∙ set_at_kept a e.more i h)

pub hides_none : (sets : List (List ℕ)) (n : ℕ) → hides sets 0 n ≡ false
unfolding hides
hides_none sets n = refl

pub side_le : (c : Cell) (count n : ℕ) → IsOver count c → side_of c n ≤ count
unfolding side_of
side_le c count n o = cond_both (n % 2 == 1) c.odd c.even (λ k. k ≤ count) (λ _. o.odd) (λ _. o.even)

pub in_cell_kept : {a b : List (List ℕ)} → Extends a b → (c : Cell) → IsOver (length a) c → (n : ℕ) → in_cell b c n ≡ in_cell a c n
unfolding in_cell
in_cell_kept {a} {b} e c o n =
    ap (λ v. if n == 0 then c.here else v) (hides_kept e (side_of c n) (side_le c (length a) n o) ((n - 1) / 2))

pub over_more : (c : Cell) (m n : ℕ) → m ≤ n → IsOver m c → IsOver n c
over_more c m n le o = record { odd = omega (arith, o.odd); even = omega (arith, o.even) }
