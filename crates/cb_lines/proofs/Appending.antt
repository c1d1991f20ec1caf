-- A set whose lines lie behind those of another one, added to it.
use Rattle.std.proofs.Common.{◌≡◌, ℕ, ◌+◌, ◌<◌, ◌≤◌, Bool, true, false, ◌||◌, eqb, List, [], ◌∷◌, ◌++◌, length, get_or, take, refl, sym, ap, ◌∙◌, arith, append_assoc, append-nil}
use Rattle.std.specs.List.{flat_map}
use Rattle.std.proofs.lemmas.Bool.{le-ltb, ne_eqb, eq-eqb}
use Rattle.std.proofs.lemmas.List.{take_more}
use Rattle.std.proofs.lemmas.List.Concat.{flat_map-append}
use Rattle.cb_lines.specs.declared.line_set.Span.{Span}
use Rattle.cb_lines.specs.Lines.{with_line, has_line, union_of, span_lines}
use Rattle.cb_lines.proofs.Members.{Rising}

pub union_of-append : (xs ys set : List ℕ) → union_of (xs ++ ys) set ≡ union_of ys (union_of xs set)
union_of-append [] ys set = refl
union_of-append (x ∷ xs) ys set = union_of-append xs ys (with_line x set)

-- the lines of one span more
pub union_of-spans : (ss : List Span) (i : ℕ) (d : Span) (set : List ℕ) → i < length ss → union_of (flat_map span_lines (take (i + 1) ss)) set ≡ union_of (span_lines (get_or ss i d)) (union_of (flat_map span_lines (take i ss)) set)
union_of-spans ss i d set h =
    ap (λ (xs : List Span). union_of (flat_map span_lines xs) set) (take_more ss i d h)
    ∙ (ap (λ (xs : List ℕ). union_of xs set) (flat_map-append span_lines (take i ss) (get_or ss i d ∷ []) ∙ ap (λ (xs : List ℕ). flat_map span_lines (take i ss) ++ xs) (append-nil (span_lines (get_or ss i d))))
    ∙ union_of-append (flat_map span_lines (take i ss)) (span_lines (get_or ss i d)) set)

-- numbers that are all less than a bound
abbrev Under : ℕ → List ℕ → Type 0
Under bound [] = Unit {0}
Under bound (x ∷ xs) = (x < bound) × Under bound xs

Under-later : (low high : ℕ) (xs : List ℕ) → low ≤ high → Under low xs → Under high xs
Under-later low high [] le h = tt
Under-later low high (x ∷ xs) le h = (let less : x < low = h.0 in omega arith, Under-later low high xs le h.1)

Under-push : (bound x : ℕ) (xs : List ℕ) → x < bound → Under bound xs → Under bound (xs ++ x ∷ [])
Under-push bound x [] lt h = (lt, tt)
Under-push bound x (y ∷ xs) lt h = (h.0, Under-push bound x xs lt h.1)

with_line-above : (line : ℕ) (xs : List ℕ) → Under line xs → with_line line xs ≡ xs ++ line ∷ []
with_line-above line [] h = refl
with_line-above line (x ∷ xs) h =
    let less : x < line = h.0 in
    rw (le-ltb line x (omega arith), ne_eqb line x (λ e. omega (arith, e))) (ap (λ (ls : List ℕ). x ∷ ls) (with_line-above line xs h.1))

union_of-above : (low : ℕ) (ys xs : List ℕ) → Under low xs → Rising low ys → union_of ys xs ≡ xs ++ ys
union_of-above low [] xs h k = sym (append-nil xs)
union_of-above low (y ∷ ys) xs h k =
    let begins : low ≤ y = k.0 in
    let under : Under y xs = Under-later low y xs begins h in
    ap (λ (set : List ℕ). union_of ys set) (with_line-above y xs under)
    ∙ (union_of-above (y + 1) ys (xs ++ y ∷ []) (Under-push (y + 1) y xs (omega arith) (Under-later y (y + 1) xs (omega arith) under)) k.1
    ∙ append_assoc xs (y ∷ []) ys)

or_true : (a b : Bool) → b ≡ true → (a || b) ≡ true
or_true true b h = refl
or_true false b h = h

Under-from_has : (bound : ℕ) (xs : List ℕ) → ((x : ℕ) → has_line xs x ≡ true → x < bound) → Under bound xs
Under-from_has bound [] h = tt
Under-from_has bound (x ∷ xs) h = (h x (rw (eq-eqb x x refl) refl), Under-from_has bound xs (λ y has. h y (or_true (eqb x y) (has_line xs y) has)))

-- a set that lies wholly behind another
pub append-behind : (xs ys : List ℕ) → Rising 0 ys → ((x y : ℕ) → has_line xs x ≡ true → has_line ys y ≡ true → x < y) → union_of ys xs ≡ xs ++ ys
append-behind xs [] k h = sym (append-nil xs)
append-behind xs (y ∷ ys) k h =
    union_of-above y (y ∷ ys) xs (Under-from_has y xs (λ x has. h x y has (rw (eq-eqb y y refl) refl))) (omega arith, k.1)
