-- The pairs of platforms from one on, in order.
use Rattle.std.proofs.Common.{◌≡◌, ℕ, ◌+◌, ◌-◌, ◌*◌, ◌/◌, ◌<◌, ◌≤◌, List, [], ◌∷◌, ◌++◌, length, map, get_or, drop, refl, sym, ap, ◌∙◌, subst, ◌⊎◌, inl, inr, zero, suc, arith, All}
use Rattle.std.specs.List.{flat_map, range_with_len}
use Rattle.std.proofs.lemmas.Bool.{cases_lt}
use Rattle.std.proofs.lemmas.List.{append-nil, append_assoc, drop_more, drop_all, length-drop, length-append, length-map}
use Rattle.std.proofs.lemmas.List.Elements.{All-nil, All-push}
use Rattle.std.proofs.lemmas.List.FromFn.{length-range_with_len}
use Rattle.cb_diverge.specs.declared.fraction.Fraction.{Fraction}
use Rattle.cb_cluster.specs.declared.link.Link.{Link}
use Rattle.cb_cluster.specs.Links.{pairs_with, pairs_of, linked, links_of, IsPair}

abbrev pub row : ℕ → ℕ → ℕ → List (ℕ × ℕ)
row count left right = map (λ j. (left, j)) (range_with_len right (count + 1 - right))

-- this pair and those behind it
abbrev pub pairs_from : ℕ → ℕ → ℕ → List (ℕ × ℕ)
pairs_from count left right = row count left right ++ flat_map (pairs_with count) (range_with_len (left + 1) (count - left))

range-cons : (a n m : ℕ) → n ≡ suc m → range_with_len a n ≡ a ∷ range_with_len (a + 1) m
range-cons a n m e = ap (range_with_len a) e

range-none : (a n : ℕ) → n ≡ 0 → range_with_len a n ≡ []
range-none a n e = ap (range_with_len a) e

from-none : (count left right : ℕ) → count ≤ left → left < right → pairs_from count left right ≡ []
from-none count left right h lt =
    ap (λ r. map (λ j. (left, j)) r ++ flat_map (pairs_with count) (range_with_len (left + 1) (count - left))) (range-none right (count + 1 - right) (omega arith))
    ∙ ap (flat_map (pairs_with count)) (range-none (left + 1) (count - left) (omega arith))

from-cons : (count left right : ℕ) → right ≤ count → pairs_from count left right ≡ (left, right) ∷ pairs_from count left (right + 1)
from-cons count left right h =
    let e : count + 1 - right ≡ suc (count + 1 - (right + 1)) = omega arith in
    ap (λ r. map (λ j. (left, j)) r ++ flat_map (pairs_with count) (range_with_len (left + 1) (count - left))) (range-cons right (count + 1 - right) (count + 1 - (right + 1)) e)

from-next : (count left right : ℕ) → left < right → right ≤ count → count ≤ right → pairs_from count left (right + 1) ≡ pairs_from count (left + 1) (left + 2)
from-next count left right lt le ge =
    let none : count + 1 - (right + 1) ≡ 0 = omega arith in
    let some : count - left ≡ suc (count - (left + 1)) = omega arith in
    let begin : left + 1 + 1 ≡ left + 2 = omega arith in
    let many : count - (left + 1) ≡ count + 1 - (left + 2) = omega arith in
    ap (λ r. map (λ j. (left, j)) r ++ flat_map (pairs_with count) (range_with_len (left + 1) (count - left))) (range-none (right + 1) (count + 1 - (right + 1)) none)
    ∙ ap (flat_map (pairs_with count)) (range-cons (left + 1) (count - left) (count - (left + 1)) some)
    ∙ ap (λ n. map (λ j. (left + 1, j)) (range_with_len (left + 1 + 1) n) ++ flat_map (pairs_with count) (range_with_len (left + 1 + 1) (count - (left + 1)))) many
    ∙ ap (λ a. map (λ j. (left + 1, j)) (range_with_len a (count + 1 - (left + 2))) ++ flat_map (pairs_with count) (range_with_len (left + 1 + 1) (count - (left + 1)))) begin

pairs-start : (count : ℕ) → pairs_of count ≡ pairs_from count 1 2
pairs-start zero = sym (from-none 0 1 2 (omega arith) (omega arith))
pairs-start (suc n) =
    let one : suc n - 1 ≡ suc n + 1 - 2 = omega arith in
    let rest : n ≡ suc n - 1 = omega arith in
    ap (λ m. map (λ j. (1, j)) (range_with_len 2 m) ++ flat_map (pairs_with (suc n)) (range_with_len 2 n)) one
    ∙ ap (λ m. row (suc n) 1 2 ++ flat_map (pairs_with (suc n)) (range_with_len 2 m)) rest

-- the links made so far, and the pair that comes next
pub record Goes (count : ℕ) (pairs : List Fraction) (i left right : ℕ) (held : List Link) : Type 0 where
  pub all : links_of count pairs ≡ held ++ linked (pairs_from count left right) (drop i pairs)
  pub rest : length (pairs_from count left right) ≡ length (drop i pairs)
  pub made : All (IsPair count) held
  pub some : 0 < left
  pub apart : left < right
  pub place : (right ≤ count) ⊎ (count ≤ left)

pub Goes-start : (count : ℕ) (pairs : List Fraction) → length pairs ≡ length (pairs_of count) → Goes count pairs 0 1 2 []
Goes-start count pairs e = record {
  all = ap (λ ps. linked ps pairs) (pairs-start count);
  rest = ap length (sym (pairs-start count)) ∙ sym e;
  made = All-nil (IsPair count);
  some = omega arith;
  apart = omega arith;
  place = elim (cases_lt count 2) [ inl lt ↦ inr (omega arith) | inr ge ↦ inl ge ];
}

none_left : (n i : ℕ) → i < n → n - i ≡ 0 → ⊥
none_left n i lt e = omega arith

pub Goes-within : (count : ℕ) (pairs : List Fraction) (i left right : ℕ) (held : List Link) → i < length pairs → Goes count pairs i left right held → right ≤ count
Goes-within count pairs i left right held lt g =
    elim g.place [
      | inl le ↦ le
      | inr ge ↦ (
          let e = ap length (from-none count left right ge g.apart) in
          let f = g.rest in
          let n = length-drop i pairs in
          absurd (none_left (length pairs) i lt (sym n ∙ sym f ∙ e)))
    ]

pub Goes-more : (count : ℕ) (pairs : List Fraction) (i left right : ℕ) (held : List Link) (x : Fraction) (new_left new_right : ℕ) → i < length pairs
    → Goes count pairs i left right held → x ≡ get_or pairs i x
    → (right < count → (new_left ≡ left) × (new_right ≡ right + 1)) → (count ≤ right → (new_left ≡ left + 1) × (new_right ≡ left + 2))
    → Goes count pairs (i + 1) new_left new_right (held ++ record { left = left; right = right; distance = x } ∷ [])
Goes-more count pairs i left right held x new_left new_right lt g read row_ next =
    let within = Goes-within count pairs i left right held lt g in
    let apart = g.apart in
    let l : Link = record { left = left; right = right; distance = x } in
    let items : drop i pairs ≡ x ∷ drop (i + 1) pairs = drop_more pairs i x lt ∙ ap (λ y. y ∷ drop (i + 1) pairs) (sym read) in
    let go : (a b : ℕ) → pairs_from count left (right + 1) ≡ pairs_from count a b → 0 < a → a < b → (b ≤ count) ⊎ (count ≤ a) → Goes count pairs (i + 1) a b (held ++ l ∷ [])
    = λ a b e some less place.
    let here : pairs_from count left right ≡ (left, right) ∷ pairs_from count a b = from-cons count left right within ∙ ap (λ ps. (left, right) ∷ ps) e in
    let lens : suc (length (pairs_from count a b)) ≡ suc (length (drop (i + 1) pairs)) = sym (ap length here) ∙ g.rest ∙ ap length items in
    record {
      all = g.all ∙ ap (λ ps. held ++ linked ps (drop i pairs)) here ∙ ap (λ ds. held ++ linked ((left, right) ∷ pairs_from count a b) ds) items
          ∙ sym (append_assoc held (l ∷ []) (linked (pairs_from count a b) (drop (i + 1) pairs)));
      rest = omega arith;
      made = All-push (IsPair count) held l g.made (g.some, apart, within);
      some = some;
      apart = less;
      place = place;
    } in
    elim (cases_lt right count) [
      | inl below ↦ (
          let e = row_ below in
          subst (λ (a : ℕ). Goes count pairs (i + 1) a new_right (held ++ l ∷ [])) (sym e.0)
          (subst (λ (b : ℕ). Goes count pairs (i + 1) left b (held ++ l ∷ [])) (sym e.1) (go left (right + 1) refl g.some (omega arith) (inl (omega arith)))))
      | inr ge ↦ (
          let e = next ge in
          subst (λ (a : ℕ). Goes count pairs (i + 1) a new_right (held ++ l ∷ [])) (sym e.0)
          (subst (λ (b : ℕ). Goes count pairs (i + 1) (left + 1) b (held ++ l ∷ [])) (sym e.1)
          (go (left + 1) (left + 2) (from-next count left right apart within ge) (omega arith) (omega arith)
          (elim (cases_lt (left + 1) count) [ inl k ↦ inl (omega arith) | inr k ↦ inr k ]))))
    ]

linked-nil : (ps : List (ℕ × ℕ)) → linked ps [] ≡ []
linked-nil [] = refl
linked-nil (p ∷ ps) = refl

pub Goes-end : (count : ℕ) (pairs : List Fraction) (i left right : ℕ) (held : List Link) → length pairs ≤ i → Goes count pairs i left right held → held ≡ links_of count pairs
Goes-end count pairs i left right held le g =
    sym (g.all ∙ ap (λ ds. held ++ linked (pairs_from count left right) ds) (drop_all i pairs le) ∙ ap (λ ls. held ++ ls) (linked-nil (pairs_from count left right)) ∙ append-nil held)

squares : (n : ℕ) → n * (n - 1) + n * 2 ≡ suc n * n
squares zero = refl
squares (suc m) = let e : suc m - 1 ≡ m = omega arith in ap (λ k. suc m * k + suc m * 2) e ∙ omega arith

twice : (a b n m : ℕ) → a ≡ n → b * 2 ≡ m → (a + b) * 2 ≡ m + n * 2
twice a b n m e f = omega arith

-- twice the pairs of the platforms from one on
pairs-twice : (count left n : ℕ) → left + n ≡ count + 1 → length (flat_map (pairs_with count) (range_with_len left n)) * 2 ≡ n * (n - 1)
pairs-twice count left zero h = refl
pairs-twice count left (suc n) h =
    let rest = flat_map (pairs_with count) (range_with_len (left + 1) n) in
    let more : length rest * 2 ≡ n * (n - 1) = pairs-twice count (left + 1) n (omega arith) in
    let first : length (pairs_with count left) ≡ n
    = length-map (range_with_len (left + 1) (count - left)) (λ right. (left, right)) ∙ (length-range_with_len (left + 1) (count - left) ∙ omega arith) in
    let all = length-append (pairs_with count left) rest in
    let square : n * (n - 1) + n * 2 ≡ suc n * n = squares n in
    let one : suc n - 1 ≡ n = omega arith in
    ap (λ k. k * 2) all ∙ (twice (length (pairs_with count left)) (length rest) n (n * (n - 1)) first more ∙ (square ∙ ap (λ k. suc n * k) (sym one)))

pub pairs-count : (count : ℕ) → length (pairs_of count) ≡ count * (count - 1) / 2
pairs-count count =
    let e : length (pairs_of count) * 2 ≡ count * (count - 1) = pairs-twice count 1 count (omega arith) in
    omega (arith, e)
