-- One span more taken from two lists of them.
use Rattle.std.proofs.Common.{◌≡◌, ℕ, ◌+◌, ◌≤◌, Bool, true, false, ◌||◌, List, [], ◌∷◌, refl, sym, ap, ◌∙◌, subst, inl, inr, arith}
use Rattle.cb_lines.specs.declared.line_set.Span.{Span}
use Rattle.cb_lines.specs.Lines.{has_line, union_of, span_lines, AreMaximal}
use Rattle.cb_lines.specs.inner.Merging.{BeginsFrom, TakesFirst, last_first}
use Rattle.cb_lines.proofs.SpanLists.{lines, Fits, Fits-from_maximal, Fits-weaker}
use Rattle.cb_lines.proofs.Members.{has-append, has-union_of, Rising-lines, Rising-union_of, same_numbers}
use Rattle.cb_lines.proofs.Joining.{Joins}

-- the spans so far, with what is left of both lists, hold what both lists held
pub record Merges (all_left all_right ss left right : List Span) : Type 0 where
  pub maximal : AreMaximal ss
  pub left_rises : Fits (last_first ss) left
  pub right_rises : Fits (last_first ss) right
  pub members : (l : ℕ) → (has_line (lines ss) l || (has_line (lines left) l || has_line (lines right) l)) ≡ (has_line (lines all_left) l || has_line (lines all_right) l)

pub merges_none : (all_left all_right : List Span) → AreMaximal all_left → AreMaximal all_right → Merges all_left all_right [] all_left all_right
merges_none all_left all_right h k = record {
  maximal = tt;
  left_rises = Fits-from_maximal all_left h;
  right_rises = Fits-from_maximal all_right k;
  members = λ l. refl;
}

Fits-begins : (line low : ℕ) (ss : List Span) → BeginsFrom line ss → Fits low ss → Fits line ss
Fits-begins line low [] b h = tt
Fits-begins line low (s ∷ ss) b h = (b, h.1, h.2)

from_left : (a s l r : Bool) → ((a || s) || (l || r)) ≡ (a || ((s || l) || r))
from_left true s l r = refl
from_left false true l r = refl
from_left false false l r = refl

from_right : (a s l r : Bool) → ((a || s) || (l || r)) ≡ (a || (l || (s || r)))
from_right true s l r = refl
from_right false true true r = refl
from_right false true false r = refl
from_right false false l r = refl

pub merges_more : (all_left all_right ss left right left' right' ss' : List Span) (s : Span) → Merges all_left all_right ss left right → TakesFirst left right s left' right' → Joins s ss ss' → Merges all_left all_right ss' left' right'
merges_more all_left all_right ss left right left' right' ss' s m (inl t) j =
    let f : Fits (last_first ss) (s ∷ left') = subst (Fits (last_first ss)) t.0 m.left_rises in
    let full : s.first ≤ s.last = f.1 in
    let tip : last_first ss' ≤ s.first = j.rising in
    record {
      maximal = j.maximal;
      left_rises = Fits-weaker (last_first ss') (s.last + 2) left' (omega arith) f.2;
      right_rises = subst (Fits (last_first ss')) (sym t.1) (Fits-weaker (last_first ss') s.first right tip (Fits-begins s.first (last_first ss) right t.2 m.right_rises));
      members = λ l.
          ap (λ (b : Bool). b || (has_line (lines left') l || has_line (lines right') l)) (j.members l)
          ∙ (from_left (has_line (lines ss) l) (has_line (span_lines s) l) (has_line (lines left') l) (has_line (lines right') l)
          ∙ (ap (λ (b : Bool). has_line (lines ss) l || (b || has_line (lines right') l)) (sym (has-append (span_lines s) (lines left') l))
          ∙ (ap (λ (xs : List Span). has_line (lines ss) l || (has_line (lines (s ∷ left')) l || has_line (lines xs) l)) t.1
          ∙ (ap (λ (xs : List Span). has_line (lines ss) l || (has_line (lines xs) l || has_line (lines right) l)) (sym t.0)
          ∙ m.members l))));
    }
merges_more all_left all_right ss left right left' right' ss' s m (inr t) j =
    let f : Fits (last_first ss) (s ∷ right') = subst (Fits (last_first ss)) t.0 m.right_rises in
    let full : s.first ≤ s.last = f.1 in
    let tip : last_first ss' ≤ s.first = j.rising in
    record {
      maximal = j.maximal;
      left_rises = subst (Fits (last_first ss')) (sym t.1) (Fits-weaker (last_first ss') s.first left tip (Fits-begins s.first (last_first ss) left t.2 m.left_rises));
      right_rises = Fits-weaker (last_first ss') (s.last + 2) right' (omega arith) f.2;
      members = λ l.
          ap (λ (b : Bool). b || (has_line (lines left') l || has_line (lines right') l)) (j.members l)
          ∙ (from_right (has_line (lines ss) l) (has_line (span_lines s) l) (has_line (lines left') l) (has_line (lines right') l)
          ∙ (ap (λ (b : Bool). has_line (lines ss) l || (has_line (lines left') l || b)) (sym (has-append (span_lines s) (lines right') l))
          ∙ (ap (λ (xs : List Span). has_line (lines ss) l || (has_line (lines xs) l || has_line (lines (s ∷ right')) l)) t.1
          ∙ (ap (λ (xs : List Span). has_line (lines ss) l || (has_line (lines left) l || has_line (lines xs) l)) (sym t.0)
          ∙ m.members l))));
    }

or_none : (x : Bool) → x ≡ (x || (false || false))
or_none true = refl
or_none false = refl

pub merges_all : (all_left all_right ss : List Span) → AreMaximal all_left → AreMaximal all_right → Merges all_left all_right ss [] [] → lines ss ≡ union_of (lines all_left) (lines all_right)
merges_all all_left all_right ss h k m =
    same_numbers 0 (lines ss) (union_of (lines all_left) (lines all_right)) (Rising-lines 0 ss (Fits-from_maximal ss m.maximal)) (Rising-union_of (lines all_left) (lines all_right) (Rising-lines 0 all_right (Fits-from_maximal all_right k)))
    (λ l. or_none (has_line (lines ss) l) ∙ (m.members l ∙ sym (has-union_of (lines all_left) (lines all_right) l)))
