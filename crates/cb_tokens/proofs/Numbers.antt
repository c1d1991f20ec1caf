-- Numbers, a byte at a time.
use Rattle.std.proofs.Common.{◌≡◌, ℕ, suc, zero, ◌+◌, ◌<◌, ◌≤◌, ◌==◌, Bool, true, false, ◌&&◌, ◌||◌, List, [], ◌∷◌, length, get_or, take, drop, zero-add, add-zero, length-drop, sym, refl, ap, ◌∙◌, subst, arith, ◌⊎◌, inl, inr, ⊎_elim}
use Rattle.std.proofs.lemmas.Bool.{false≢true, and_parts, and_from, both_ways}
use Rattle.cb_tokens.proofs.Longest.{split_at, head_at, counts_on}
use Rattle.cb_tokens.specs.Forms.{is_name_start, is_name_byte, continues_number, is_number_rest}
use Rattle.cb_tokens.specs.inner.Scan.{IsLongest}

-- a byte of a name goes on with a number, whatever stands beside it
pub name_continues : (before b after : ℕ) → is_name_byte b ≡ true → continues_number before b after ≡ true
unfolding continues_number
name_continues before b after h = rw h refl

either : (x y z : Bool) → (x || y && z) ≡ true → ((x || y && false) ≡ true) ⊎ (z ≡ true)
either true y z h = inl refl
either false true true h = inr refl
either false true false h = inl h
either false false z h = absurd (false≢true h)

without : (x y z : Bool) → (x || y && false) ≡ true → (x || y && z) ≡ true
without true y z h = refl
without false true z h = absurd (false≢true h)
without false false z h = absurd (false≢true h)

zero_is_no_name : is_name_byte 0 ≡ false
unfolding is_name_byte is_name_start
zero_is_no_name = refl

-- what goes on whatever stands behind it, and what goes on before a byte of a name
freely : ℕ → ℕ → Bool
freely before byte =
    is_name_byte byte || (byte == 46) || (((byte == 43) || (byte == 45)) && ((before == 101) || (before == 69) || (before == 112) || (before == 80)))

parts : (before b after : ℕ) → continues_number before b after ≡ (freely before b || ((b == 39) && is_name_byte before) && is_name_byte after)
unfolding continues_number freely
parts before b after = refl

-- the byte behind counts only where it is a byte of a name
after_counts : (before b after : ℕ) → continues_number before b after ≡ true → (continues_number before b 0 ≡ true) ⊎ (is_name_byte after ≡ true)
after_counts before b after h =
    ⊎_elim (λ e. inl (parts before b 0 ∙ ap (λ v. freely before b || ((b == 39) && is_name_byte before) && v) zero_is_no_name ∙ e)) inr
    (either (freely before b) ((b == 39) && is_name_byte before) (is_name_byte after) (sym (parts before b after) ∙ h))

-- and 0 is none
zero_counts : (before b after : ℕ) → continues_number before b 0 ≡ true → continues_number before b after ≡ true
zero_counts before b after h =
    parts before b after
    ∙ without (freely before b) ((b == 39) && is_name_byte before) (is_name_byte after)
    (sym (parts before b 0 ∙ ap (λ v. freely before b || ((b == 39) && is_name_byte before) && v) zero_is_no_name) ∙ h)

-- one byte of a name is a prefix that goes on
one_goes : (b c : ℕ) (cs : List ℕ) (r : ℕ) → is_name_byte c ≡ true → IsLongest (is_number_rest b) (c ∷ cs) r → 1 ≤ r
unfolding is_number_rest
one_goes b c cs r h l = l.longest 1 (omega arith) (rw (name_continues b c 0 h) refl)

first_counts : (before b : ℕ) (bs : List ℕ) (r : ℕ) → continues_number before b (get_or bs 0 0) ≡ true → IsLongest (is_number_rest b) bs r → continues_number before b (get_or (take r bs) 0 0) ≡ true
first_counts before b [] zero h l = h
first_counts before b [] (suc r) h l = h
first_counts before b (c ∷ cs) (suc r) h l = h
first_counts before b (c ∷ cs) zero h l =
    ⊎_elim (λ e. e) (λ e. let k : 1 ≤ 0 = one_goes b c cs 0 e l in absurd (omega arith)) (after_counts before b c h)

most_more : (before b : ℕ) (bs : List ℕ) (r : ℕ) → IsLongest (is_number_rest b) bs r → (m : ℕ) → m ≤ suc (length bs) → is_number_rest before (take m (b ∷ bs)) ≡ true → m ≤ suc r
unfolding is_number_rest
most_more before b bs r l zero le h = omega arith
most_more before b bs r l (suc m) le h =
    let k : m ≤ r = l.longest m (omega arith) (and_parts (continues_number before b (get_or (take m bs) 0 0)) (is_number_rest b (take m bs)) h).1 in omega arith

pub number_more : (before b : ℕ) (bs : List ℕ) (r : ℕ) → continues_number before b (get_or bs 0 0) ≡ true → IsLongest (is_number_rest b) bs r → IsLongest (is_number_rest before) (b ∷ bs) (suc r)
unfolding is_number_rest
number_more before b bs r h l =
    record {
      within = let k = l.within in omega arith;
      holds = and_from (continues_number before b (get_or (take r bs) 0 0)) (is_number_rest b (take r bs)) (first_counts before b bs r h l) l.holds;
      longest = most_more before b bs r l;
    }

-- the byte at the front is the last one that could go on, where one is left
stops : (before b : ℕ) (bs : List ℕ) (m : ℕ) → continues_number before b (get_or bs 0 0) ≡ false → continues_number before b (get_or (take m bs) 0 0) ≡ true → ⊥
stops before b [] zero e h = both_ways (continues_number before b 0) e h
stops before b [] (suc m) e h = both_ways (continues_number before b 0) e h
stops before b (c ∷ cs) (suc m) e h = both_ways (continues_number before b c) e h
stops before b (c ∷ cs) zero e h = both_ways (continues_number before b c) e (zero_counts before b c h)

most_none : (before : ℕ) (xs : List ℕ) → (0 < length xs → continues_number before (get_or xs 0 0) (get_or xs 1 0) ≡ false) → (m : ℕ) → m ≤ length xs → is_number_rest before (take m xs) ≡ true → m ≤ 0
unfolding is_number_rest
most_none before xs e zero le h = omega arith
most_none before [] e (suc m) le h = omega arith
most_none before (b ∷ []) e (suc m) le h =
    absurd (stops before b [] m (e (omega arith)) (and_parts (continues_number before b (get_or (take m []) 0 0)) (is_number_rest b (take m [])) h).0)
most_none before (b ∷ c ∷ cs) e (suc m) le h =
    absurd (stops before b (c ∷ cs) m (e (omega arith)) (and_parts (continues_number before b (get_or (take m (c ∷ cs)) 0 0)) (is_number_rest b (take m (c ∷ cs))) h).0)

pub number_none : (before : ℕ) (xs : List ℕ) → (0 < length xs → continues_number before (get_or xs 0 0) (get_or xs 1 0) ≡ false) → IsLongest (is_number_rest before) xs 0
unfolding is_number_rest
number_none before xs e = record { within = omega arith; holds = refl; longest = most_none before xs e }

-- what a number goes on over from an index on is what it goes on over from the start
abbrev pub NumberAhead : ℕ → ℕ → List ℕ → ℕ → Type 0
NumberAhead before last xs n =
    (r : ℕ) → IsLongest (is_number_rest last) (drop n xs) r → IsLongest (is_number_rest before) xs (n + r)

pub ahead_start : (before : ℕ) (xs : List ℕ) → NumberAhead before before xs 0
ahead_start before xs r l = subst (λ k. IsLongest (is_number_rest before) xs k) (sym (zero-add r)) l

pub ahead_more : (before last : ℕ) (xs : List ℕ) (n : ℕ) → n < length xs → continues_number last (get_or xs n 0) (get_or xs (n + 1) 0) ≡ true → NumberAhead before last xs n → NumberAhead before (get_or xs n 0) xs (n + 1)
ahead_more before last xs n h c ahead r l =
    let at : get_or (drop (n + 1) xs) 0 0 ≡ get_or xs (n + 1) 0 = head_at xs (n + 1) 0 ∙ ap (λ k. get_or xs k 0) (add-zero (n + 1)) in
    let goes : continues_number last (get_or xs n 0) (get_or (drop (n + 1) xs) 0 0) ≡ true = ap (λ v. continues_number last (get_or xs n 0) v) at ∙ c in
    counts_on (λ k. IsLongest (is_number_rest before) xs k) n r
    (ahead (suc r) (subst (λ ys. IsLongest (is_number_rest last) ys (suc r)) (sym (split_at xs n h)) (number_more last (get_or xs n 0) (drop (n + 1) xs) r goes l)))

pub ahead_end : (before last : ℕ) (xs : List ℕ) (n : ℕ) → (n < length xs → continues_number last (get_or xs n 0) (get_or xs (n + 1) 0) ≡ false) → NumberAhead before last xs n → IsLongest (is_number_rest before) xs n
ahead_end before last xs n c ahead =
    let at : (i k : ℕ) → n + i ≡ k → get_or (drop n xs) i 0 ≡ get_or xs k 0 = λ i k e. head_at xs n i ∙ ap (λ j. get_or xs j 0) e in
    let none : 0 < length (drop n xs) → continues_number last (get_or (drop n xs) 0 0) (get_or (drop n xs) 1 0) ≡ false =
    λ some. ap (λ v. continues_number last v (get_or (drop n xs) 1 0)) (at 0 n (add-zero n)) ∙ ap (λ v. continues_number last (get_or xs n 0) v) (at 1 (n + 1) refl) ∙ c (omega (arith, length-drop n xs)) in
    subst (λ k. IsLongest (is_number_rest before) xs k) (add-zero n) (ahead 0 (number_none last (drop n xs) none))
