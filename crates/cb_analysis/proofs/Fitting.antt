-- What the walk finds is what fits.
use Rattle.std.proofs.Common.{◌≡◌, ℕ, suc, zero, ◌+◌, ◌-◌, ◌≤◌, ◌<◌, Bool, true, false, ◌&&◌, ◌||◌, not, if◌then◌else◌, List, [], ◌∷◌, ◌++◌, length, take, drop, Option, Some, None, refl, sym, ◌∙◌, ap, arith, inl, inr, ◌==◌, is_some, option_map}
use Rattle.std.proofs.lemmas.Bool.Decides.{nat_tests}
use Rattle.std.specs.Borrow.{Bor}
use Rattle.std.specs.List.{list_any, prefix_len}
use Rattle.std.proofs.lemmas.Bool.{not-true, and_parts, or_cases}
use Rattle.std.proofs.lemmas.List.{drop-drop, length-drop, take-append-drop}
use Rattle.std.proofs.Math.Seq.{drop-nil}
use Rattle.cb_analysis.specs.Fits.{tails, fits, is_empty}
use Rattle.cb_analysis.specs.Patterns.{may_follow}
use Rattle.cb_analysis.specs.inner.Fronts.{behind_front, behind_first, behind_star, or_else, passes, has_no, IsCut}

-- tests

or_false : (b : Bool) → (b || false) ≡ b
or_false true = refl
or_false false = refl

absorb : (a b : Bool) → (b ≡ true → a ≡ true) → (a || b) ≡ a
absorb true b h = refl
absorb false true h = sym (h refl)
absorb false false h = refl

same_bool : (a b : Bool) → (a ≡ true → b ≡ true) → (b ≡ true → a ≡ true) → a ≡ b
same_bool true b f g = sym (f refl)
same_bool false true f g = g refl
same_bool false false f g = refl

any_same : {X : Type 0} (f g : X → Bool) (xs : List X) → ((x : X) → f x ≡ g x) → list_any f xs ≡ list_any g xs
any_same f g [] h = refl
any_same f g (x ∷ xs) h = rw (h x, any_same f g xs h) refl

-- some tail passes a test exactly where the list passes it behind some number of elements

any_at : {X : Type 0} (q : List X → Bool) (xs : List X) → list_any q (tails xs) ≡ true → (n : ℕ) × (n ≤ length xs) × (q (drop n xs) ≡ true)
any_at q [] h = (0, omega arith, sym (or_false (q [])) ∙ h)
any_at q (x ∷ xs) h =
    elim (or_cases (q (x ∷ xs)) (list_any q (tails xs)) h) [
      | inl now ↦ (0, omega arith, now)
      | inr later ↦ let at = any_at q xs later in (suc at.0, omega arith, at.2)
    ]

or_right : (a b : Bool) → b ≡ true → (a || b) ≡ true
or_right true b h = refl
or_right false b h = h

or_left : (a b : Bool) → a ≡ true → (a || b) ≡ true
or_left a b h = rw h refl

any_from : {X : Type 0} (q : List X → Bool) (n : ℕ) (xs : List X) → q (drop n xs) ≡ true → list_any q (tails xs) ≡ true
any_from q zero [] h = or_left (q []) false h
any_from q (suc n) [] h = or_left (q []) false h
any_from q zero (x ∷ xs) h = or_left (q (x ∷ xs)) (list_any q (tails xs)) h
any_from q (suc n) (x ∷ xs) h = or_right (q (x ∷ xs)) (list_any q (tails xs)) (any_from q n xs h)

-- a test that holds of a list where it holds of what is behind some of its elements
abbrev pub Closed : {X : Type 0} → (List X → Bool) → Type 0
Closed {X = X} q = (n : ℕ) (xs : List X) → q (drop n xs) ≡ true → q xs ≡ true

pub any_closed : {X : Type 0} (q : List X → Bool) → Closed (λ xs. list_any q (tails xs))
any_closed q n xs h =
    let at = any_at q (drop n xs) h in
    any_from q (n + at.0) xs (rw drop-drop at at.2)

-- elements without a star at the front of a pattern are walked over

front_step : {X : Type 0} (b f : Bool) (q : List X → Bool) (o : Option (List X)) → f ≡ passes q o → (b && f) ≡ passes q (if b then o else None)
front_step true f q o h = h
front_step false f q o h = refl

pub fits-front : {P X : Type 0} (star : P → Bool) (like : P → X → Bool) (left : List X → Bool) (front ps : List P) (xs : List X)
    → has_no star front ≡ true → fits star like left (front ++ ps) xs ≡ passes (fits star like left ps) (behind_front like front xs)
fits-front star like left [] ps xs plain = refl
fits-front star like left (p ∷ front) ps [] plain =
    let parts = and_parts (not (star p)) (has_no star front) plain in
    rw (not-true (star p) parts.0) refl
fits-front star like left (p ∷ front) ps (x ∷ xs) plain =
    let parts = and_parts (not (star p)) (has_no star front) plain in
    rw (not-true (star p) parts.0)
    (front_step (like p x) _ (fits star like left ps) (behind_front like front xs) (fits-front star like left front ps xs parts.1))

-- what is behind a front

some_if : {X : Type 0} (b : Bool) (o : Option X) (l : X) → (if b then o else None) ≡ Some l → o ≡ Some l
some_if true o l h = h
some_if false o l h = cc

front-drop : {P X : Type 0} (like : P → X → Bool) (ps : List P) (xs l : List X) → behind_front like ps xs ≡ Some l → l ≡ drop (length ps) xs
front-drop like [] xs l h = cc
front-drop like (p ∷ ps) [] l h = cc
front-drop like (p ∷ ps) (x ∷ xs) l h = front-drop like ps xs l (some_if (like p x) (behind_front like ps xs) l h)

front-length : {P X : Type 0} (like : P → X → Bool) (ps : List P) (xs l : List X) → behind_front like ps xs ≡ Some l → length xs ≡ length ps + length l
front-length like [] xs l h = let e : xs ≡ l = cc in rw e (omega arith)
front-length like (p ∷ ps) [] l h = cc
front-length like (p ∷ ps) (x ∷ xs) l h = omega (arith, front-length like ps xs l (some_if (like p x) (behind_front like ps xs) l h))

some_of : {X : Type 0} (q : X → Bool) (o : Option X) → passes q o ≡ true → (l : X) × (o ≡ Some l) × (q l ≡ true)
some_of q None h = cc
some_of q (Some l) h = (l, refl, h)

-- of the places at which elements stand the first will do

later_drop : {X : Type 0} (n m : ℕ) (xs l : List X) → l ≡ drop m xs → drop m (drop n xs) ≡ drop n l
later_drop n m xs l e = rw (e, drop-drop, drop-drop) (let s : n + m ≡ m + n = omega arith in rw s refl)

later_fits : {P X : Type 0} (like : P → X → Bool) (ps : List P) (q : List X → Bool) → Closed q → (x : X) (xs l : List X)
    → behind_front like ps (x ∷ xs) ≡ Some l → list_any (λ t. passes q (behind_front like ps t)) (tails xs) ≡ true → q l ≡ true
later_fits like ps q closed x xs l h k =
    let at = any_at (λ t. passes q (behind_front like ps t)) xs k in
    let some = some_of q (behind_front like ps (drop at.0 xs)) at.2 in
    let here = front-drop like ps (x ∷ xs) l h in
    let there = front-drop like ps (drop (suc at.0) (x ∷ xs)) some.0 some.1 in
    closed (suc at.0) l (rw (← later_drop (suc at.0) (length ps) (x ∷ xs) l here, ← there) some.2)

first_case : {X : Type 0} (q : List X → Bool) (o later : Option (List X)) (rest : Bool)
    → rest ≡ passes q later → ((l : List X) → o ≡ Some l → rest ≡ true → q l ≡ true)
    → (passes q o || rest) ≡ passes q (or_else o later)
first_case q None later rest e k = e
first_case q (Some l) later rest e k = absorb (q l) rest (k l refl)

pub first_here : {P X : Type 0} (like : P → X → Bool) (ps : List P) (xs l : List X) → Some l ≡ behind_front like ps xs → Some l ≡ behind_first like ps xs
first_here like ps [] l h = h
first_here like ps (x ∷ xs) l h = rw (← h) refl

pub first_will_do : {P X : Type 0} (like : P → X → Bool) (ps : List P) (q : List X → Bool) → Closed q → (xs : List X)
    → list_any (λ t. passes q (behind_front like ps t)) (tails xs) ≡ passes q (behind_first like ps xs)
first_will_do like ps q closed [] = or_false _
first_will_do like ps q closed (x ∷ xs) =
    first_case q (behind_front like ps (x ∷ xs)) (behind_first like ps xs) _ (first_will_do like ps q closed xs)
    (later_fits like ps q closed x xs)

-- a star, elements and a star: the first place at which the elements stand will do

star_at : {P X : Type 0} (star : P → Bool) (like : P → X → Bool) (left : List X → Bool) (s : P) (ps : List P) (xs : List X)
    → star s ≡ true → fits star like left (s ∷ ps) xs ≡ list_any (fits star like left ps) (tails xs)
star_at star like left s ps xs h = rw h refl

passes_same : {X : Type 0} (f g : X → Bool) (o : Option X) → ((x : X) → f x ≡ g x) → passes f o ≡ passes g o
passes_same f g None h = refl
passes_same f g (Some x) h = h x

to_next_star : {P X : Type 0} (star : P → Bool) (like : P → X → Bool) (left : List X → Bool) (ps : List P) (s : P) (behind : List P) (xs : List X)
    → has_no star ps ≡ true → star s ≡ true
    → behind_star star like left (ps ++ s ∷ behind) xs ≡ passes (behind_star star like left behind) (behind_first like ps xs)
to_next_star star like left ps s behind xs plain is =
    any_same _ _ (tails xs) (λ t. fits-front star like left ps (s ∷ behind) t plain
    ∙ passes_same _ _ (behind_front like ps t) (λ l. star_at star like left s behind l is))
    ∙ first_will_do like ps (behind_star star like left behind) (any_closed (fits star like left behind)) xs

pub nil_behind : {P : Type 0} (ps : List P) → ps ++ [] ≡ ps
nil_behind [] = refl
nil_behind (p ∷ ps) = ap (λ qs. p ∷ qs) (nil_behind ps)

-- elements without a star are all of a pattern
fits-whole : {P X : Type 0} (star : P → Bool) (like : P → X → Bool) (left : List X → Bool) (ps : List P) (xs : List X)
    → has_no star ps ≡ true → fits star like left ps xs ≡ passes left (behind_front like ps xs)
fits-whole star like left ps xs plain = ap (λ qs. fits star like left qs xs) (sym (nil_behind ps)) ∙ fits-front star like left ps [] xs plain

-- a star, and elements to the end
to_end : {P X : Type 0} (star : P → Bool) (like : P → X → Bool) (left : List X → Bool) (ps : List P) (xs : List X)
    → has_no star ps ≡ true → behind_star star like left ps xs ≡ list_any (λ t. passes left (behind_front like ps t)) (tails xs)
to_end star like left ps xs plain = any_same _ _ (tails xs) (λ t. fits-whole star like left ps t plain)

-- where what is left may be more, again the first place will do
to_closed_end : {P X : Type 0} (star : P → Bool) (like : P → X → Bool) (left : List X → Bool) (ps : List P) (xs : List X)
    → has_no star ps ≡ true → Closed left → behind_star star like left ps xs ≡ passes left (behind_first like ps xs)
to_closed_end star like left ps xs plain closed = to_end star like left ps xs plain ∙ first_will_do like ps left closed xs

-- where nothing may be left, the last place decides

empty_of : {X : Type 0} (xs : List X) → is_empty xs ≡ true → xs ≡ []
empty_of [] h = refl
empty_of (x ∷ xs) h = cc

ends_at : {P X : Type 0} (like : P → X → Bool) (ps : List P) (xs : List X) → list_any (λ t. passes is_empty (behind_front like ps t)) (tails xs) ≡ true
    → (length ps ≤ length xs) × (is_some (behind_front like ps (drop (length xs - length ps) xs)) ≡ true)
ends_at like ps xs h =
    let at = any_at (λ t. passes is_empty (behind_front like ps t)) xs h in
    let some = some_of is_empty (behind_front like ps (drop at.0 xs)) at.2 in
    let none : length some.0 ≡ 0 = ap length (empty_of some.0 some.2) in
    let long : length (drop at.0 xs) ≡ length ps + length some.0 = front-length like ps (drop at.0 xs) some.0 some.1 in
    let all : length (drop at.0 xs) ≡ length xs - at.0 = length-drop at.0 xs in
    let where' : length xs - length ps ≡ at.0 = omega arith in
    (omega arith, rw (where', some.1) refl)

some_under : {X : Type 0} (b : Bool) (o : Option (List X)) → is_some (if b then o else None) ≡ true
    → (is_some o ≡ true → passes is_empty o ≡ true) → passes is_empty (if b then o else None) ≡ true
some_under true o h k = k h
some_under false o h k = h

some_empty : {P X : Type 0} (like : P → X → Bool) (ps : List P) (xs : List X) → length xs ≡ length ps → is_some (behind_front like ps xs) ≡ true
    → passes is_empty (behind_front like ps xs) ≡ true
some_empty like [] [] e h = refl
some_empty like [] (x ∷ xs) e h = absurd (omega arith)
some_empty like (p ∷ ps) [] e h = h
some_empty like (p ∷ ps) (x ∷ xs) e h = some_under (like p x) (behind_front like ps xs) h (some_empty like ps xs (omega arith))

pub last_will_do : {P X : Type 0} (star : P → Bool) (like : P → X → Bool) (ps : List P) (xs : List X) → has_no star ps ≡ true → length ps ≤ length xs
    → behind_star star like is_empty ps xs ≡ is_some (behind_front like ps (drop (length xs - length ps) xs))
last_will_do star like ps xs plain long =
    let all : length (drop (length xs - length ps) xs) ≡ length ps = length-drop _ xs ∙ omega arith in
    to_end star like is_empty ps xs plain
    ∙ same_bool _ _ (λ h. (ends_at like ps xs h).1)
    (λ h. any_from _ (length xs - length ps) xs (some_empty like ps (drop (length xs - length ps) xs) all h))

pub too_long : {P X : Type 0} (star : P → Bool) (like : P → X → Bool) (ps : List P) (xs : List X) → has_no star ps ≡ true → length xs < length ps
    → behind_star star like is_empty ps xs ≡ false
too_long star like ps xs plain short =
    to_end star like is_empty ps xs plain ∙ same_bool _ _ (λ h. absurd (let at = ends_at like ps xs h in omega (arith, at.0))) (λ h. cc)

-- a pattern that is cut at its first star

-- what a pattern has behind its first star fits what is left, or nothing is behind it and what is left passes
abbrev pub rest_fits : {P X : Type 0} → (P → Bool) → (P → X → Bool) → (List X → Bool) → Option (Bor (List P)) → List X → Bool
rest_fits star like left None xs = left xs
rest_fits star like left (Some rest) xs = behind_star star like left rest.now xs

pub cut_front : {P X : Type 0} (star : P → Bool) (like : P → X → Bool) (left : List X → Bool) (pattern front : List P) (behind : Option (Bor (List P))) (xs : List X)
    → IsCut star pattern front behind → fits star like left pattern xs ≡ passes (rest_fits star like left behind) (behind_front like front xs)
cut_front star like left pattern front None xs h = rw h.cut (fits-whole star like left front xs h.plain)
cut_front star like left pattern front (Some rest) xs h =
    rw h.cut.2 (fits-front star like left front (h.cut.0 ∷ rest.now) xs h.plain
    ∙ passes_same _ _ (behind_front like front xs) (λ l. star_at star like left h.cut.0 rest.now l h.cut.1))

pub cut_next : {P X : Type 0} (star : P → Bool) (like : P → X → Bool) (left : List X → Bool) (pattern front : List P) (rest : Bor (List P)) (xs : List X)
    → IsCut star pattern front (Some rest) → behind_star star like left pattern xs ≡ passes (behind_star star like left rest.now) (behind_first like front xs)
cut_next star like left pattern front rest xs h = rw h.cut.2 (to_next_star star like left front h.cut.0 rest.now xs h.plain h.cut.1)

cut_last : {P X : Type 0} (star : P → Bool) (like : P → X → Bool) (left : List X → Bool) (pattern front : List P) (xs : List X)
    → IsCut star pattern front None → Closed left → behind_star star like left pattern xs ≡ passes left (behind_first like front xs)
cut_last star like left pattern front xs h closed = rw h.cut (to_closed_end star like left front xs h.plain closed)

pub cut_behind : {P X : Type 0} (star : P → Bool) (like : P → X → Bool) (left : List X → Bool) (pattern front : List P) (behind : Option (Bor (List P))) (xs : List X)
    → IsCut star pattern front behind → Closed left → behind_star star like left pattern xs ≡ passes (rest_fits star like left behind) (behind_first like front xs)
cut_behind star like left pattern front None xs h closed = cut_last star like left pattern front xs h closed
cut_behind star like left pattern front (Some rest) xs h closed = cut_next star like left pattern front rest xs h

folder_closed : (b : Bool) (n : ℕ) (xs : List (List ℕ)) → may_follow b (drop n xs) ≡ true → may_follow b xs ≡ true
folder_closed false n xs h = refl
folder_closed true n [] h = rw (drop-nil n) at h
folder_closed true n (x ∷ xs) h = refl

-- more parts may follow where fewer may
pub may_follow_closed : (b : Bool) → Closed (may_follow b)
may_follow_closed b = folder_closed b

-- an option of references is there where what they lead to is
pub mapped : {X : Type 0} (o : Option (Bor X)) (there : Option X) (b : Bool) → b ≡ is_some o → option_map (λ x. x.now) o ≡ there → b ≡ is_some there
mapped None there b e h = e ∙ ap is_some h
mapped (Some x) there b e h = e ∙ ap is_some h

pub at_some : {X : Type 0} (q : X → Bool) (o : Option X) (x : X) → Some x ≡ o → passes q o ≡ q x
at_some q o x h = rw (← h) refl

pub at_none : {X : Type 0} (q : X → Bool) (o : Option X) → None ≡ o → passes q o ≡ false
at_none q o h = rw (← h) refl

pub empty_length : {X : Type 0} (xs : List X) → (length xs == 0) ≡ is_empty xs
empty_length [] = refl
empty_length (x ∷ xs) = grind (arith, nat_tests)

-- a pattern is cut where its elements without a star end

one_add : (n : ℕ) → 1 + n ≡ suc n
one_add n = omega arith

prefix_case : {P : Type 0} (star : P → Bool) (x : P) (xs : List P) (b : Bool) → star x ≡ b → has_no star (take (prefix_len (λ p. not (star p)) xs) xs) ≡ true
    → has_no star (take (prefix_len (λ p. not (star p)) (x ∷ xs)) (x ∷ xs)) ≡ true
prefix_case star x xs true e h = rw e refl
prefix_case star x xs false e h = rw (e, one_add (prefix_len (λ p. not (star p)) xs), e) h

prefix_plain : {P : Type 0} (star : P → Bool) (xs : List P) → has_no star (take (prefix_len (λ p. not (star p)) xs) xs) ≡ true
prefix_plain star [] = refl
prefix_plain star (x ∷ xs) = prefix_case star x xs (star x) refl (prefix_plain star xs)

star_case : {P : Type 0} (star : P → Bool) (x : P) (xs : List P) (s : P) (rest : List P) (b : Bool) → star x ≡ b
    → (drop (prefix_len (λ p. not (star p)) xs) xs ≡ s ∷ rest → star s ≡ true)
    → drop (prefix_len (λ p. not (star p)) (x ∷ xs)) (x ∷ xs) ≡ s ∷ rest → star s ≡ true
star_case star x xs s rest true e k h =
    let same : x ∷ xs ≡ s ∷ rest = rw e at h in
    let head : x ≡ s = cc in
    rw (← head) e
star_case star x xs s rest false e k h = k (rw (e, one_add (prefix_len (λ p. not (star p)) xs)) at h)

star_first : {P : Type 0} (star : P → Bool) (xs : List P) (s : P) (rest : List P) → drop (prefix_len (λ p. not (star p)) xs) xs ≡ s ∷ rest → star s ≡ true
star_first star [] s rest h = cc
star_first star (x ∷ xs) s rest h = star_case star x xs s rest (star x) refl (star_first star xs s rest) h

pub cut_none : {P : Type 0} (star : P → Bool) (xs front : List P) (n : ℕ) → n ≡ prefix_len (λ p. not (star p)) xs → front ≡ take n xs → drop n xs ≡ []
    → IsCut star xs front None
cut_none star xs front n is f none =
    record { plain = rw (f, is) (prefix_plain star xs); cut = sym (take-append-drop n xs) ∙ rw (none, f) (nil_behind (take n xs)) }

pub cut_some : {P : Type 0} (star : P → Bool) (xs front : List P) (n : ℕ) (s : P) (rest : Bor (List P)) → n ≡ prefix_len (λ p. not (star p)) xs → front ≡ take n xs
    → drop n xs ≡ s ∷ rest.now → IsCut star xs front (Some rest)
cut_some star xs front n s rest is f some =
    record {
      plain = rw (f, is) (prefix_plain star xs);
      cut = (s, star_first star xs s rest.now (rw is at some), sym (take-append-drop n xs) ∙ rw (some, f) refl);
    }

pub none_of : {X : Type 0} (xs : List X) → length xs ≡ 0 → xs ≡ []
none_of [] h = refl
none_of (x ∷ xs) h = absurd (omega arith)
