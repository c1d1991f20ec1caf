-- Punctuators, by their bytes.
use Rattle.std.proofs.Common.{◌≡◌, ℕ, suc, zero, ◌+◌, ◌<◌, ◌≤◌, ◌==◌, ◌||◌, not, Bool, true, false, List, [], ◌∷◌, length, get_or, take, ltb, leb, length-take-le, sym, refl, ap, ◌∙◌, subst, arith, ⊎_elim}
use Rattle.std.specs.List.{list_all, list_any}
use Rattle.std.specs.Str.{bytes_eq}
use Rattle.std.proofs.lemmas.Bool.{false≢true, both_ways, and_parts, or_cases, eqb-true, leb-true, ltb-true, cases_lt, false_from_ne_true}
use Rattle.std.proofs.lemmas.List.{get_or_past}
use Rattle.std.proofs.lemmas.Slice.Eq.{bytes_eq-Decides}
use Rattle.cb_tokens.specs.Forms.{is_punctuator, punctuators}
use Rattle.cb_tokens.specs.Cut.{NoneLonger}
use Rattle.cb_tokens.specs.inner.Scan.{IsLongest, is_second}

pub among : (test : List ℕ → Bool) (l : List ℕ) (ps : List (List ℕ)) → list_all test ps ≡ true → list_any (λ p. bytes_eq p l) ps ≡ true → test l ≡ true
among test l [] all any = absurd (false≢true any)
among test l (p ∷ ps) all any =
    let parts = and_parts (test p) (list_all test ps) all in
    ⊎_elim (λ e. ap test (sym ((bytes_eq-Decides p l).0 e)) ∙ parts.0) (λ e. among test l ps parts.1 e) (or_cases (bytes_eq p l) (list_any (λ p. bytes_eq p l) ps) any)

-- what holds of each in the table holds of each punctuator
pub of_punctuators : (test : List ℕ → Bool) → list_all test punctuators ≡ true → (l : List ℕ) → is_punctuator l ≡ true → test l ≡ true
unfolding is_punctuator
of_punctuators test all l h = among test l punctuators all h

is_short : (l : List ℕ) → is_punctuator l ≡ true → length l ≤ 4
unfolding punctuators
is_short l h = leb-true (length l) 4 (of_punctuators (λ l. leb (length l) 4) refl l h)

-- no byte of one is 0
no_zero : (l : List ℕ) → is_punctuator l ≡ true → list_all (ltb 0) l ≡ true
unfolding punctuators
no_zero l h = of_punctuators (list_all (ltb 0)) refl l h

-- the first bytes, with 0 past the end
abbrev pub front2 : List ℕ → List ℕ
front2 xs = get_or xs 0 0 ∷ get_or xs 1 0 ∷ []

abbrev pub front3 : List ℕ → List ℕ
front3 xs = get_or xs 0 0 ∷ get_or xs 1 0 ∷ get_or xs 2 0 ∷ []

abbrev pub front4 : List ℕ → List ℕ
front4 xs = get_or xs 0 0 ∷ get_or xs 1 0 ∷ get_or xs 2 0 ∷ get_or xs 3 0 ∷ []

take2 : (xs : List ℕ) → 2 ≤ length xs → take 2 xs ≡ front2 xs
take2 [] h = absurd (omega arith)
take2 (a ∷ []) h = absurd (omega arith)
take2 (a ∷ b ∷ xs) h = refl

take3 : (xs : List ℕ) → 3 ≤ length xs → take 3 xs ≡ front3 xs
take3 [] h = absurd (omega arith)
take3 (a ∷ []) h = absurd (omega arith)
take3 (a ∷ b ∷ []) h = absurd (omega arith)
take3 (a ∷ b ∷ c ∷ xs) h = refl

take4 : (xs : List ℕ) → 4 ≤ length xs → take 4 xs ≡ front4 xs
take4 [] h = absurd (omega arith)
take4 (a ∷ []) h = absurd (omega arith)
take4 (a ∷ b ∷ []) h = absurd (omega arith)
take4 (a ∷ b ∷ c ∷ []) h = absurd (omega arith)
take4 (a ∷ b ∷ c ∷ d ∷ xs) h = refl

-- where the last byte of those is not 0, they are there
reaches : (xs : List ℕ) (n : ℕ) → ltb 0 (get_or xs n 0) ≡ true → n < length xs
reaches xs n h =
    ⊎_elim (λ k. k) (λ k. let past = get_or_past xs n 0 k in let above : 0 < get_or xs n 0 = ltb-true 0 (get_or xs n 0) h in absurd (omega arith)) (cases_lt n (length xs))

room2 : (xs : List ℕ) → is_punctuator (front2 xs) ≡ true → 2 ≤ length xs
room2 xs h =
    let k = and_parts (ltb 0 (get_or xs 0 0)) (list_all (ltb 0) (get_or xs 1 0 ∷ [])) (no_zero (front2 xs) h) in
    let e = and_parts (ltb 0 (get_or xs 1 0)) true k.1 in
    let r : 1 < length xs = reaches xs 1 e.0 in
    omega arith

room3 : (xs : List ℕ) → is_punctuator (front3 xs) ≡ true → 3 ≤ length xs
room3 xs h =
    let k = and_parts (ltb 0 (get_or xs 0 0)) (list_all (ltb 0) (get_or xs 1 0 ∷ get_or xs 2 0 ∷ [])) (no_zero (front3 xs) h) in
    let j = and_parts (ltb 0 (get_or xs 1 0)) (list_all (ltb 0) (get_or xs 2 0 ∷ [])) k.1 in
    let e = and_parts (ltb 0 (get_or xs 2 0)) true j.1 in
    let r : 2 < length xs = reaches xs 2 e.0 in
    omega arith

room4 : (xs : List ℕ) → is_punctuator (front4 xs) ≡ true → 4 ≤ length xs
room4 xs h =
    let k = and_parts (ltb 0 (get_or xs 0 0)) (list_all (ltb 0) (get_or xs 1 0 ∷ get_or xs 2 0 ∷ get_or xs 3 0 ∷ [])) (no_zero (front4 xs) h) in
    let j = and_parts (ltb 0 (get_or xs 1 0)) (list_all (ltb 0) (get_or xs 2 0 ∷ get_or xs 3 0 ∷ [])) k.1 in
    let i = and_parts (ltb 0 (get_or xs 2 0)) (list_all (ltb 0) (get_or xs 3 0 ∷ [])) j.1 in
    let e = and_parts (ltb 0 (get_or xs 3 0)) true i.1 in
    let r : 3 < length xs = reaches xs 3 e.0 in
    omega arith

-- none of the longer fronts is one
within : (xs : List ℕ) (n : ℕ) → 1 ≤ n → (n < 2 → is_punctuator (front2 xs) ≡ false) → (n < 3 → is_punctuator (front3 xs) ≡ false) → (n < 4 → is_punctuator (front4 xs) ≡ false) → NoneLonger is_punctuator xs n
within xs n one two three four zero le h = omega arith
within xs n one two three four (suc zero) le h = omega arith
within xs n one two three four (suc (suc zero)) le h =
    ⊎_elim (λ k. absurd (both_ways (is_punctuator (front2 xs)) (two k) (ap is_punctuator (sym (take2 xs le)) ∙ h))) (λ k. k) (cases_lt n 2)
within xs n one two three four (suc (suc (suc zero))) le h =
    ⊎_elim (λ k. absurd (both_ways (is_punctuator (front3 xs)) (three k) (ap is_punctuator (sym (take3 xs le)) ∙ h))) (λ k. k) (cases_lt n 3)
within xs n one two three four (suc (suc (suc (suc zero)))) le h =
    ⊎_elim (λ k. absurd (both_ways (is_punctuator (front4 xs)) (four k) (ap is_punctuator (sym (take4 xs le)) ∙ h))) (λ k. k) (cases_lt n 4)
within xs n one two three four (suc (suc (suc (suc (suc m))))) le h =
    let k : 5 + m ≤ length xs = omega arith in
    let e : suc (suc (suc (suc (suc m)))) ≡ 5 + m = omega arith in
    let s = is_short (take (5 + m) xs) (subst (λ j. is_punctuator (take j xs) ≡ true) e h) in
    absurd (omega (arith, length-take-le (5 + m) xs k))

pub longest4 : (xs : List ℕ) → is_punctuator (front4 xs) ≡ true → IsLongest is_punctuator xs 4
longest4 xs h =
    let room = room4 xs h in
    record {
      within = room;
      holds = ap is_punctuator (take4 xs room) ∙ h;
      longest = within xs 4 (omega arith) (λ k. absurd (omega arith)) (λ k. absurd (omega arith)) (λ k. absurd (omega arith));
    }

pub longest3 : (xs : List ℕ) → is_punctuator (front4 xs) ≡ false → is_punctuator (front3 xs) ≡ true → IsLongest is_punctuator xs 3
longest3 xs four h =
    let room = room3 xs h in
    record {
      within = room;
      holds = ap is_punctuator (take3 xs room) ∙ h;
      longest = within xs 3 (omega arith) (λ k. absurd (omega arith)) (λ k. absurd (omega arith)) (λ k. four);
    }

pub longest2 : (xs : List ℕ) → is_punctuator (front4 xs) ≡ false → is_punctuator (front3 xs) ≡ false → is_punctuator (front2 xs) ≡ true → IsLongest is_punctuator xs 2
longest2 xs four three h =
    let room = room2 xs h in
    record {
      within = room;
      holds = ap is_punctuator (take2 xs room) ∙ h;
      longest = within xs 2 (omega arith) (λ k. absurd (omega arith)) (λ k. three) (λ k. four);
    }

some_left : (xs : List ℕ) → is_punctuator (take 1 xs) ≡ true → 1 ≤ length xs
unfolding is_punctuator punctuators
some_left [] h = absurd (false≢true h)
some_left (x ∷ xs) h = omega arith

pub longest1 : (xs : List ℕ) → is_punctuator (front4 xs) ≡ false → is_punctuator (front3 xs) ≡ false → is_punctuator (front2 xs) ≡ false → is_punctuator (take 1 xs) ≡ true → IsLongest is_punctuator xs 1
longest1 xs four three two h =
    record {
      within = some_left xs h;
      holds = h;
      longest = within xs 1 (omega arith) (λ k. two) (λ k. three) (λ k. four);
    }

pub too_long : (a b c d e : ℕ) (xs : List ℕ) → is_punctuator (a ∷ b ∷ c ∷ d ∷ e ∷ xs) ≡ false
too_long a b c d e xs =
    false_from_ne_true (is_punctuator (a ∷ b ∷ c ∷ d ∷ e ∷ xs)) (λ h. let s = is_short (a ∷ b ∷ c ∷ d ∷ e ∷ xs) h in omega arith)

-- a longer one goes on with one of their second bytes
has_second : List ℕ → Bool
has_second [] = true
has_second (a ∷ []) = true
has_second (a ∷ b ∷ l) = is_second b

pub none_longer : (a b : ℕ) (l : List ℕ) → is_second b ≡ false → is_punctuator (a ∷ b ∷ l) ≡ false
unfolding is_second punctuators has_second
none_longer a b l h =
    false_from_ne_true (is_punctuator (a ∷ b ∷ l)) (λ p. both_ways (is_second b) h (of_punctuators has_second refl (a ∷ b ∷ l) p))

pub longest_alone : (xs : List ℕ) → is_second (get_or xs 1 0) ≡ false → is_punctuator (take 1 xs) ≡ true → IsLongest is_punctuator xs 1
longest_alone xs none h =
    longest1 xs (none_longer (get_or xs 0 0) (get_or xs 1 0) (get_or xs 2 0 ∷ get_or xs 3 0 ∷ []) none)
    (none_longer (get_or xs 0 0) (get_or xs 1 0) (get_or xs 2 0 ∷ []) none) (none_longer (get_or xs 0 0) (get_or xs 1 0) [] none) h

-- # is longer only as ##
is_hash_or_two : List ℕ → Bool
is_hash_or_two [] = true
is_hash_or_two (a ∷ []) = true
is_hash_or_two (a ∷ b ∷ []) = not (a == 35) || (b == 35)
is_hash_or_two (a ∷ b ∷ c ∷ l) = not (a == 35)

no_longer_hash : (b : ℕ) (l : List ℕ) → (b ≡ 35 → ⊥) → is_punctuator (35 ∷ b ∷ l) ≡ true → ⊥
unfolding punctuators is_hash_or_two
no_longer_hash b [] other h = other (eqb-true b 35 (of_punctuators is_hash_or_two refl (35 ∷ b ∷ []) h))
no_longer_hash b (c ∷ l) other h = false≢true (of_punctuators is_hash_or_two refl (35 ∷ b ∷ c ∷ l) h)

pub longest_hash : (xs : List ℕ) → get_or xs 0 0 ≡ 35 → (get_or xs 1 0 ≡ 35 → ⊥) → is_punctuator (take 1 xs) ≡ true → IsLongest is_punctuator xs 1
longest_hash xs hash other h =
    let none : (l : List ℕ) → is_punctuator (get_or xs 0 0 ∷ get_or xs 1 0 ∷ l) ≡ false
    = λ l. false_from_ne_true (is_punctuator (get_or xs 0 0 ∷ get_or xs 1 0 ∷ l)) (λ p. no_longer_hash (get_or xs 1 0) l other (subst (λ (a : ℕ). is_punctuator (a ∷ get_or xs 1 0 ∷ l) ≡ true) hash p)) in
    longest1 xs (none (get_or xs 2 0 ∷ get_or xs 3 0 ∷ [])) (none (get_or xs 2 0 ∷ [])) (none []) h

two_hashes : is_punctuator (35 ∷ 35 ∷ []) ≡ true
unfolding is_punctuator punctuators
two_hashes = refl

pub longest_of_two : (xs : List ℕ) → get_or xs 0 0 ≡ 35 → get_or xs 1 0 ≡ 35 → (2 ≤ length xs) × (is_punctuator (take 2 xs) ≡ true)
longest_of_two xs a b =
    let two : is_punctuator (front2 xs) ≡ true = rw (a, b) two_hashes in
    let room = room2 xs two in
    (room, ap is_punctuator (take2 xs room) ∙ two)
