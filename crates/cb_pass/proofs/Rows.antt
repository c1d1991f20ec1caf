-- Sets of nodes by the places of the paths of their files.
use Rattle.std.proofs.Common.{◌≡◌, ℕ, ◌+◌, ◌<◌, ◌≤◌, Bool, true, false, List, [], ◌∷◌, ◌++◌, length, get_or, refl, sym, ap, ◌∙◌, arith, inl, inr, subst}
use Rattle.std.specs.Prelude.{◌||◌, ◌&&◌, ◌==◌, ◌⊎◌, cond, not, Option, Some, None, nat_lt, MatchOption}
use Prim.Native.Nat.{zero, suc}
use Rattle.std.proofs.Math.ListN.{set}
use Rattle.std.proofs.Common.{get_or-set_other, get_or-set_same}
use Rattle.std.specs.List.{position, position_or_len, IsDistinct, AllByRecursion}
use Rattle.std.specs.Str.{bytes_eq}
use Rattle.std.specs.Cmp.Lexicographic.{bytes_decides}
use Rattle.std.proofs.lemmas.Bool.{ltb-true, ltb-false}
use Rattle.std.proofs.lemmas.Nat.Bits.{bit_at-zero}
use Rattle.cb_include.specs.Seen.{has_path}
use Rattle.cb_pass.specs.Reached.{has_bit, is_in}

pub no_bit : (n : ℕ) → has_bit [] n ≡ false
unfolding has_bit
no_bit n = rw (bit_at-zero) refl

-- the place of a path
abbrev pub place : List ℕ → List (List ℕ) → ℕ
place p paths = position_or_len (bytes_eq p) paths

same_bytes : (p q : List ℕ) → bytes_eq p q ≡ true → p ≡ q
same_bytes p q e = (bytes_decides p q).0 e

is_same : (p q : List ℕ) → p ≡ q → bytes_eq p q ≡ true
is_same p q e = (bytes_decides p q).1 e

-- no set stands behind the last
past : (sets : List (List ℕ)) (i : ℕ) → length sets ≤ i → get_or sets i [] ≡ []
past [] i h = refl
past (s ∷ ss) zero h = absurd (omega arith)
past (s ∷ ss) (suc i) h = past ss i (omega arith)

kept_at : (test : Bool) (a b l : ℕ) → cond (not test) (1 + a) 0 < suc l → (a < l → b ≡ a) → cond (not test) (1 + b) 0 ≡ cond (not test) (1 + a) 0
kept_at true a b l h k = refl
kept_at false a b l h k = ap (λ n. 1 + n) (k (omega arith))

-- a path that is there keeps its place
pub place_kept : (p : List ℕ) (xs ys : List (List ℕ)) → place p xs < length xs → place p (xs ++ ys) ≡ place p xs
place_kept p [] ys h = absurd (omega arith)
place_kept p (x ∷ xs) ys h = kept_at (bytes_eq p x) (place p xs) (place p (xs ++ ys)) (length xs) h (place_kept p xs ys)

behind_at : (test : Bool) (a b l : ℕ) → suc l ≤ cond (not test) (1 + a) 0 → (l ≤ a → l ≤ b) → suc l ≤ cond (not test) (1 + b) 0
behind_at true a b l h k = absurd (omega arith)
behind_at false a b l h k = let m : l ≤ b = k (omega arith) in omega arith

place_behind : (p : List ℕ) (xs ys : List (List ℕ)) → length xs ≤ place p xs → length xs ≤ place p (xs ++ ys)
place_behind p [] ys h = omega arith
place_behind p (x ∷ xs) ys h = behind_at (bytes_eq p x) (place p xs) (place p (xs ++ ys)) (length xs) h (place_behind p xs ys)

below_or_not : (a b : ℕ) → (a < b) ⊎ (b ≤ a)
below_or_not a b = grind arith

-- where no more sets stand than paths, further paths change nothing
pub goes_on : (paths more sets : List (List ℕ)) → length sets ≤ length paths → (p : List ℕ) (n : ℕ) → is_in (paths ++ more) sets p n ≡ is_in paths sets p n
goes_on paths more sets h p n =
    elim (below_or_not (place p paths) (length paths)) [
      | inl lt ↦ ap (λ i. has_bit (get_or sets i []) n) (place_kept p paths more lt)
      | inr ge ↦ (
          let a : length paths ≤ place p (paths ++ more) = place_behind p paths more ge in
          let x : get_or sets (place p (paths ++ more)) [] ≡ [] = past sets _ (omega arith) in
          let y : get_or sets (place p paths) [] ≡ [] = past sets _ (omega arith) in
          ap (λ s. has_bit s n) (x ∙ sym y)
          )
    ]

last_empty : (sets : List (List ℕ)) (i : ℕ) → get_or (sets ++ [] ∷ []) i [] ≡ get_or sets i []
last_empty [] zero = refl
last_empty [] (suc i) = refl
last_empty (s ∷ ss) zero = refl
last_empty (s ∷ ss) (suc i) = last_empty ss i

-- an empty set behind the others changes nothing
pub opened : (paths sets : List (List ℕ)) (p : List ℕ) (n : ℕ) → is_in paths (sets ++ [] ∷ []) p n ≡ is_in paths sets p n
opened paths sets p n = ap (λ s. has_bit s n) (last_empty sets (place p paths))

one_at : (a b : Bool) (p q x : List ℕ) (m n l : ℕ) → bytes_eq p x ≡ a → bytes_eq q x ≡ b → cond (not a) (1 + m) 0 ≡ cond (not b) (1 + n) 0
    → cond (not a) (1 + m) 0 < suc l → (m ≡ n → m < l → p ≡ q) → p ≡ q
one_at true true p q x m n l e f h lt k = same_bytes p x e ∙ sym (same_bytes q x f)
one_at true false p q x m n l e f h lt k = absurd (omega arith)
one_at false true p q x m n l e f h lt k = absurd (omega arith)
one_at false false p q x m n l e f h lt k = k (omega arith) (omega arith)

-- two paths at one place are one
one_place : (p q : List ℕ) (paths : List (List ℕ)) → place p paths ≡ place q paths → place p paths < length paths → p ≡ q
one_place p q [] e lt = absurd (omega arith)
one_place p q (x ∷ xs) e lt =
    one_at (bytes_eq p x) (bytes_eq q x) p q x (place p xs) (place q xs) (length xs) refl refl e lt (one_place p q xs)

marked_at : (test : Bool) (path p : List ℕ) (node n : ℕ) (new : List ℕ) (paths sets : List (List ℕ)) (at : ℕ) → bytes_eq p path ≡ test
    → place path paths ≡ at → at < length paths → at < length sets
    → ((k : ℕ) → has_bit new k ≡ ((k == node) || has_bit (get_or sets at []) k))
    → is_in paths (set sets at new) p n ≡ ((test && (n == node)) || is_in paths sets p n)
marked_at true path p node n new paths sets at e here lt there more =
    let same : place p paths ≡ at = ap (λ q. place q paths) (same_bytes p path e) ∙ here in
    ap (λ i. has_bit (get_or (set sets at new) i []) n) same
    ∙ (ap (λ s. has_bit s n) (get_or-set_same sets at new [] there)
    ∙ (more n ∙ ap (λ i. (n == node) || has_bit (get_or sets i []) n) (sym same)))
marked_at false path p node n new paths sets at e here lt there more =
    let other : place p paths ≡ at → ⊥ = λ same. let f : bytes_eq p path ≡ true = is_same p path (one_place p path paths (same ∙ sym here) (omega arith)) in cc in
    ap (λ s. has_bit s n) (get_or-set_other sets at (place p paths) new [] other)

-- a file's set has one node more
pub marked : (path p : List ℕ) (node n : ℕ) (new : List ℕ) (paths sets : List (List ℕ)) (at : ℕ)
    → place path paths ≡ at → at < length paths → at < length sets
    → ((k : ℕ) → has_bit new k ≡ ((k == node) || has_bit (get_or sets at []) k))
    → is_in paths (set sets at new) p n ≡ ((bytes_eq p path && (n == node)) || is_in paths sets p n)
marked path p node n new paths sets at = marked_at (bytes_eq p path) path p node n new paths sets at refl

all_apart : (x : List ℕ) (paths : List (List ℕ)) (i : ℕ) → AllByRecursion (λ y. bytes_eq x y ≡ false) paths → i < length paths → bytes_eq x (get_or paths i []) ≡ false
all_apart x [] i d h = absurd (omega arith)
all_apart x (y ∷ ys) zero d h = d.0
all_apart x (y ∷ ys) (suc i) d h = all_apart x ys i d.1 (omega arith)

flipped : (t : Bool) (p q : List ℕ) → bytes_eq q p ≡ t → bytes_eq p q ≡ false → t ≡ false
flipped true p q e f = let g : bytes_eq p q ≡ true = is_same p q (sym (same_bytes q p e)) in cc
flipped false p q e f = refl

-- distinct paths stand where their places are
pub own_place : (paths : List (List ℕ)) (i : ℕ) → IsDistinct bytes_eq paths → i < length paths → place (get_or paths i []) paths ≡ i
unfolding IsDistinct
own_place [] i d h = absurd (omega arith)
own_place (x ∷ xs) zero d h = ap (λ t. cond (not t) (1 + place x xs) 0) (is_same x x refl)
own_place (x ∷ xs) (suc i) d h =
    let p : List ℕ = get_or xs i [] in
    let e : bytes_eq p x ≡ false = flipped (bytes_eq p x) x p refl (all_apart x xs i d.0 (omega arith)) in
    ap (λ t. cond (not t) (1 + place p xs) 0) e ∙ (ap (λ n. 1 + n) (own_place xs i d.1 (omega arith)) ∙ omega arith)

at_found : (t : Bool) (a l i : ℕ) → nat_lt a l ≡ t → cond t (Some a) None ≡ Some i → (a ≡ i) × (i < l)
at_found true a l i h e = let same : a ≡ i = cc in let lt : a < l = ltb-true a l h in (same, omega arith)
at_found false a l i h e = absurd cc

at_lost : (t : Bool) (a l : ℕ) → nat_lt a l ≡ t → cond t (Some a) None ≡ None → l ≤ a
at_lost true a l h e = absurd cc
at_lost false a l h e = ltb-false a l h

pub same_item : (sets : List (List ℕ)) (i : ℕ) (a b : List ℕ) → i < length sets → get_or sets i a ≡ get_or sets i b
same_item [] i a b h = absurd (omega arith)
same_item (s ∷ ss) zero a b h = refl
same_item (s ∷ ss) (suc i) a b h = same_item ss i a b (omega arith)

-- the place of a path that was found is the place that was answered
pub found_place : (p : List ℕ) (paths : List (List ℕ)) (i : ℕ) → position (bytes_eq p) paths ≡ Some i → (place p paths ≡ i) × (i < length paths)
found_place p paths i e = at_found (nat_lt (place p paths) (length paths)) (place p paths) (length paths) i refl e

-- a path that was not found has its place behind the others
pub lost_place : (p : List ℕ) (paths : List (List ℕ)) → position (bytes_eq p) paths ≡ None → length paths ≤ place p paths
lost_place p paths e = at_lost (nat_lt (place p paths) (length paths)) (place p paths) (length paths) refl e

-- where a path is not there, none of its nodes is
pub lost : (p : List ℕ) (paths sets : List (List ℕ)) (n : ℕ) → length sets ≤ length paths → position (bytes_eq p) paths ≡ None → false ≡ is_in paths sets p n
lost p paths sets n h e =
    let k : length paths ≤ place p paths = lost_place p paths e in
    sym (ap (λ s. has_bit s n) (past sets (place p paths) (omega arith)) ∙ no_bit n)

-- where a path is there, its nodes are those of the set at its place
pub at_place : (p : List ℕ) (paths sets : List (List ℕ)) (i n : ℕ) (row : List ℕ) (result : Bool) → position (bytes_eq p) paths ≡ Some i
    → row ≡ get_or sets i row → i < length sets → result ≡ has_bit row n → result ≡ is_in paths sets p n
at_place p paths sets i n row result e r lt h =
    h ∙ ap (λ s. has_bit s n) (r ∙ (same_item sets i row [] lt ∙ ap (λ k. get_or sets k []) (sym (found_place p paths i e).0)))

there_at : (test : Bool) (a l : ℕ) (rest : Bool) → cond (not test) (1 + a) 0 < suc l → (a < l → rest ≡ true) → (test || rest) ≡ true
there_at true a l rest h k = refl
there_at false a l rest h k = k (omega arith)

-- a path that has a place is there
pub is_there : (p : List ℕ) (paths : List (List ℕ)) → place p paths < length paths → has_path paths p ≡ true
is_there p [] h = absurd (omega arith)
is_there p (x ∷ xs) h = there_at (bytes_eq p x) (place p xs) (length xs) (has_path xs p) h (is_there p xs)

pub found_there : (p : List ℕ) (paths : List (List ℕ)) (i : ℕ) → position (bytes_eq p) paths ≡ Some i → has_path paths p ≡ true
found_there p paths i e = let f = found_place p paths i e in is_there p paths (subst (λ (n : ℕ). n < length paths) (sym f.0) f.1)

absent_at : (test : Bool) (a l : ℕ) (rest : Bool) → suc l ≤ cond (not test) (1 + a) 0 → (l ≤ a → rest ≡ false) → (test || rest) ≡ false
absent_at true a l rest h k = absurd (omega arith)
absent_at false a l rest h k = k (omega arith)

-- a path that has no place is not there
pub is_absent : (p : List ℕ) (paths : List (List ℕ)) → length paths ≤ place p paths → has_path paths p ≡ false
is_absent p [] h = refl
is_absent p (x ∷ xs) h = absent_at (bytes_eq p x) (place p xs) (length xs) (has_path xs p) h (is_absent p xs)

pub lost_absent : (p : List ℕ) (paths : List (List ℕ)) → position (bytes_eq p) paths ≡ None → has_path paths p ≡ false
lost_absent p paths e = is_absent p paths (lost_place p paths e)

-- the set at a place is that of the path there
pub own_row : (paths sets : List (List ℕ)) (i n : ℕ) (row : List ℕ) → IsDistinct bytes_eq paths → i < length paths → row ≡ get_or sets i []
    → has_bit row n ≡ is_in paths sets (get_or paths i []) n
own_row paths sets i n row d lt r = ap (λ s. has_bit s n) (r ∙ ap (λ k. get_or sets k []) (sym (own_place paths i d lt)))

-- what the place of a path says, and the lack of one
pub placed : (p : List ℕ) (paths : List (List ℕ)) (r : Option ℕ) → r ≡ position (bytes_eq p) paths
    → MatchOption r (has_path paths p ≡ false) (λ i. (place p paths ≡ i) × (i < length paths))
placed p paths None e = lost_absent p paths (sym e)
placed p paths (Some i) e = found_place p paths i (sym e)
