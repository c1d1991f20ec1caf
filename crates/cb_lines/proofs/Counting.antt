-- Marks more whose lines are added to a set.
use Rattle.std.proofs.Common.{◌≡◌, ◌+◌, ◌-◌, ◌<◌, ◌≤◌, ℕ, false, List, [], ◌∷◌, ◌++◌, length, get_or, take, drop, get_or-drop, refl, sym, ap, ◌∙◌, suc, zero, arith}
use Rattle.std.proofs.lemmas.List.{take_more, drop-drop, drop-map}
use Rattle.cb_lines.specs.declared.mark.Mark.{Mark}
use Rattle.cb_lines.specs.Marks.{bytes_of, is_line_feed}
use Rattle.cb_lines.specs.Lines.{with_line, with_lines}

pub with_lines-append : (xs ys : List Mark) (set : List ℕ) → with_lines (xs ++ ys) set ≡ with_lines ys (with_lines xs set)
with_lines-append [] ys set = refl
with_lines-append (x ∷ xs) ys set = with_lines-append xs ys (with_line x.line set)

pub with_lines_more : (ms : List Mark) (i : ℕ) (d : Mark) (set : List ℕ) → i < length ms → with_lines (take (i + 1) ms) set ≡ with_line (get_or ms i d).line (with_lines (take i ms) set)
with_lines_more ms i d set h =
    ap (λ (ms : List Mark). with_lines ms set) (take_more ms i d h) ∙ with_lines-append (take i ms) (get_or ms i d ∷ []) set

take_none : {X : Type 0} (k : ℕ) → take {A = X} k [] ≡ []
take_none zero = refl
take_none (suc k) = refl

take-add : {X : Type 0} (n k : ℕ) (xs : List X) → take (n + k) xs ≡ take n xs ++ take k (drop n xs)
take-add zero k xs = (let e : 0 + k ≡ k = omega arith in ap (λ (n : ℕ). take n xs) e)
take-add {X} (suc n) k [] = (let e : suc n + k ≡ suc (n + k) = omega arith in ap (λ (m : ℕ). take {A = X} m []) e ∙ sym (take_none k))
take-add (suc n) k (x ∷ xs) = (let e : suc n + k ≡ suc (n + k) = omega arith in ap (λ (m : ℕ). take m (x ∷ xs)) e ∙ ap (λ ys. x ∷ ys) (take-add n k xs))

-- the marks of a row more, which add one line
pub row_more : (count left row : ℕ) (all now : List Mark) (lines set set' : List ℕ) (line : ℕ) → left ≤ count → row ≤ left → now ≡ drop (count - left) all → lines ≡ with_lines (take (count - left) all) set → set' ≡ with_line line lines → with_lines (take row now) lines ≡ with_line line lines → set' ≡ with_lines (take (count - (left - row)) all) set
row_more count left row all now lines set set' line within fits at held added one =
    let e : count - (left - row) ≡ (count - left) + row = omega arith in
    let passed : List Mark = take (count - left) all in
    let more : with_lines (take (count - (left - row)) all) set ≡ with_lines (take row now) lines =
    ap (λ (n : ℕ). with_lines (take n all) set) e
    ∙ (ap (λ (ms : List Mark). with_lines ms set) (take-add (count - left) row all)
    ∙ (with_lines-append passed (take row (drop (count - left) all)) set
    ∙ (ap (λ (ls : List ℕ). with_lines (take row (drop (count - left) all)) ls) (sym held)
    ∙ ap (λ (ms : List Mark). with_lines (take row ms) lines) (sym at)))) in
    added ∙ (sym one ∙ sym more)

pub drop_more_row : (count left row : ℕ) (all now : List Mark) → left ≤ count → row ≤ left → now ≡ drop (count - left) all → drop row now ≡ drop (count - (left - row)) all
drop_more_row count left row all now within fits at =
    let e : (count - left) + row ≡ count - (left - row) = omega arith in
    ap (λ (ms : List Mark). drop row ms) at ∙ (drop-drop row (count - left) all ∙ ap (λ (n : ℕ). drop n all) e)

-- the marks that are left of some of which none but the last is an LF
pub plain_left : (count left : ℕ) (all now : List Mark) → left ≤ count → now ≡ drop (count - left) all → ((k : ℕ) → k + 1 < count → is_line_feed (get_or (bytes_of all) k 0) ≡ false) → (k : ℕ) → k + 1 < left → is_line_feed (get_or (bytes_of now) k 0) ≡ false
plain_left count left all now within at plain k h =
    ap (λ (ms : List Mark). is_line_feed (get_or (bytes_of ms) k 0)) at
    ∙ (ap (λ (bs : List ℕ). is_line_feed (get_or bs k 0)) (sym (drop-map (λ (m : Mark). m.byte) (count - left) all))
    ∙ (ap is_line_feed (get_or-drop (count - left) (bytes_of all) k 0) ∙ plain (count - left + k) (omega arith)))
