-- Normal texts are no longer than those that they come from, and hold no other bytes.
use Rattle.std.proofs.Common.{◌≡◌, ℕ, suc, ◌+◌, ◌≤◌, ◌==◌, ◌&&◌, ◌||◌, not, Bool, true, false, cond, List, [], ◌∷◌, ◌++◌, length, drop, refl, arith, length-append}
use Rattle.std.specs.List.{list_any, filter, slice_split, onto_first}
use Rattle.cb_paths.specs.Parts.{is_up, is_kept, parts_of, led, normal, without_ups, rooted}
use Rattle.cb_paths.specs.Paths.{is_control}

-- the bytes of parts, with a slash for each
pub weight : List (List ℕ) → ℕ
weight [] = 0
weight (p ∷ ps) = suc (length p) + weight ps

pub weight_is : (ps : List (List ℕ)) → length (rooted ps) ≡ weight ps
unfolding weight
weight_is [] = refl
weight_is (p ∷ ps) = let l = length-append (47 ∷ p) (rooted ps) in let r = weight_is ps in omega arith

-- the parts of a text, one byte more in front
weight_first : (x : ℕ) (parts : List (List ℕ)) (n : ℕ) → weight parts ≡ suc n → weight (onto_first x parts) ≡ suc (suc n)
unfolding weight
weight_first x [] n e = absurd (omega arith)
weight_first x (p ∷ ps) n e = omega arith

weight_step : (x : ℕ) (xs : List ℕ) (t : Bool) → (x == 47) ≡ t → weight (slice_split (λ b. b == 47) xs) ≡ suc (length xs)
    → weight (slice_split (λ b. b == 47) (x ∷ xs)) ≡ suc (suc (length xs))
unfolding weight
weight_step x xs true e h = rw e (omega arith)
weight_step x xs false e h = rw e (weight_first x (slice_split (λ b. b == 47) xs) (length xs) h)

weight_split : (xs : List ℕ) → weight (slice_split (λ b. b == 47) xs) ≡ suc (length xs)
unfolding weight
weight_split [] = refl
weight_split (x ∷ xs) = weight_step x xs (x == 47) refl (weight_split xs)

weight_filter : (ps : List (List ℕ)) → weight (filter is_kept ps) ≤ weight ps
unfolding weight
weight_filter [] = omega arith
weight_filter (p ∷ ps) =
    let r = weight_filter ps in
    elim (is_kept p) as (λ t. weight (cond t (p ∷ filter is_kept ps) (filter is_kept ps)) ≤ weight (p ∷ ps)) [ true ↦ omega arith | false ↦ omega arith ]

weight_led : (p : List ℕ) (ps : List (List ℕ)) → weight (led p ps) ≤ weight (p ∷ ps)
unfolding weight
weight_led p [] = omega arith
weight_led p (q ∷ qs) =
    elim (not (is_up p) && is_up q) as (λ t. weight (cond t qs (p ∷ q ∷ qs)) ≤ weight (p ∷ q ∷ qs)) [ true ↦ omega arith | false ↦ omega arith ]

weight_normal : (ps : List (List ℕ)) → weight (normal ps) ≤ weight ps
unfolding weight
weight_normal [] = omega arith
weight_normal (p ∷ ps) = let r = weight_normal ps in let l = weight_led p (normal ps) in omega arith

-- the text of a normal path is no longer than that of the text
pub rooted_fits : (text : List ℕ) → length (rooted (normal (parts_of text))) ≤ suc (length text)
rooted_fits text =
    let n = weight_normal (parts_of text) in
    let f = weight_filter (slice_split (λ b. b == 47) text) in
    let s = weight_split text in
    let w = weight_is (normal (parts_of text)) in
    omega arith

-- no part has a control byte
abbrev pub AreClean : List (List ℕ) → Type 0
AreClean [] = Unit {0}
AreClean (p ∷ ps) = (list_any is_control p ≡ false) × AreClean ps

or-false : (a b : Bool) → a ≡ false → b ≡ false → (a || b) ≡ false
or-false a b e f = rw (e, f) refl

or-left : (a b : Bool) → (a || b) ≡ false → a ≡ false
or-left true b h = h
or-left false b h = refl

or-right : (a b : Bool) → (a || b) ≡ false → b ≡ false
or-right true b h = cc
or-right false b h = h

clean_first : (x : ℕ) (parts : List (List ℕ)) → is_control x ≡ false → AreClean parts → AreClean (onto_first x parts)
clean_first x [] e h = (or-false (is_control x) false e refl, tt)
clean_first x (p ∷ ps) e h = (or-false (is_control x) (list_any is_control p) e h.0, h.1)

clean_split : (xs : List ℕ) → list_any is_control xs ≡ false → AreClean (slice_split (λ b. b == 47) xs)
clean_split [] h = (refl, tt)
clean_split (x ∷ xs) h =
    let r = clean_split xs (or-right (is_control x) _ h) in
    elim (x == 47) as (λ t. AreClean (cond t ([] ∷ slice_split (λ b. b == 47) xs) (onto_first x (slice_split (λ b. b == 47) xs)))) [ true ↦ (refl, r) | false ↦ clean_first x (slice_split (λ b. b == 47) xs) (or-left (is_control x) _ h) r ]

clean_filter : (ps : List (List ℕ)) → AreClean ps → AreClean (filter is_kept ps)
clean_filter [] h = tt
clean_filter (p ∷ ps) h =
    let r = clean_filter ps h.1 in
    elim (is_kept p) as (λ t. AreClean (cond t (p ∷ filter is_kept ps) (filter is_kept ps))) [ true ↦ (h.0, r) | false ↦ r ]

pub clean_parts : (text : List ℕ) → list_any is_control text ≡ false → AreClean (parts_of text)
clean_parts text h = clean_filter (slice_split (λ b. b == 47) text) (clean_split text h)

clean_led : (p : List ℕ) (ps : List (List ℕ)) → list_any is_control p ≡ false → AreClean ps → AreClean (led p ps)
clean_led p [] h k = (h, tt)
clean_led p (q ∷ qs) h k =
    elim (not (is_up p) && is_up q) as (λ t. AreClean (cond t qs (p ∷ q ∷ qs))) [ true ↦ k.1 | false ↦ (h, k) ]

pub clean_normal : (ps : List (List ℕ)) → AreClean ps → AreClean (normal ps)
clean_normal [] h = tt
clean_normal (p ∷ ps) h = clean_led p (normal ps) h.0 (clean_normal ps h.1)

pub clean_without : (ps : List (List ℕ)) → AreClean ps → AreClean (without_ups ps)
clean_without [] h = tt
clean_without (p ∷ ps) h =
    let r = clean_without ps h.1 in
    elim (is_up p) as (λ t. AreClean (cond t (without_ups ps) (p ∷ ps))) [ true ↦ r | false ↦ h ]

pub clean-append : (ps qs : List (List ℕ)) → AreClean ps → AreClean qs → AreClean (ps ++ qs)
clean-append [] qs h k = k
clean-append (p ∷ ps) qs h k = (h.0, clean-append ps qs h.1 k)

any-append : (xs ys : List ℕ) → list_any is_control xs ≡ false → list_any is_control ys ≡ false → list_any is_control (xs ++ ys) ≡ false
any-append [] ys h k = k
any-append (x ∷ xs) ys h k = or-false (is_control x) _ (or-left (is_control x) _ h) (any-append xs ys (or-right (is_control x) _ h) k)

pub clean_rooted : (ps : List (List ℕ)) → AreClean ps → list_any is_control (rooted ps) ≡ false
clean_rooted [] h = refl
clean_rooted (p ∷ ps) h = any-append (47 ∷ p) (rooted ps) h.0 (clean_rooted ps h.1)

pub clean_path : (ps : List (List ℕ)) → AreClean ps → list_any is_control (drop 1 (rooted ps)) ≡ false
clean_path [] h = refl
clean_path (p ∷ ps) h = any-append p (rooted ps) h.0 (clean_rooted ps h.1)
