-- What each step of the splitting reads.
use Rattle.std.proofs.Common.{◌≡◌, ◌∙◌, ◌+◌, ◌==◌, ℕ, suc, cond, not, Bool, true, false, List, [], ◌∷◌, ◌++◌, map, length, take, drop, Option, Some, None, refl, sym, ap, subst, append_assoc, arith}
use Rattle.std.specs.List.{list_all, prefix_len}
use Rattle.std.proofs.lemmas.List.{take-append-drop, append-nil, nil_from_length}
use Rattle.std.proofs.lemmas.Bool.{eqb-true, not-false, cond-true}
use Rattle.cb_compdb.specs.Pieces.{gap, escape, lone, single, given, joined, is_gap, is_inner_byte, is_plain, Reads, HasWords, HasOpenQuote, IsOpen, IsOpenSingle}
use Rattle.cb_compdb.specs.inner.Steps.{Progress, start, Leads, LeadsInside, words_behind}
use Rattle.cb_compdb.proofs.Leading.{list_all-prefix, Leads-piece, Leads-plain, Leads-double, LeadsInside-run, LeadsInside-escaped}

-- a text is what stands in front of a place and what stands behind it
joins : (n : ℕ) (bytes front back : List ℕ) → front ≡ take n bytes → back ≡ drop n bytes → bytes ≡ front ++ back
joins n bytes front back f b = sym (take-append-drop n bytes) ∙ ap (λ xs. xs ++ drop n bytes) (sym f) ∙ ap (λ xs. front ++ xs) (sym b)

-- what stands in front passes
passes : (p : ℕ → Bool) (n : ℕ) (bytes front : List ℕ) → n ≡ prefix_len p bytes → front ≡ take n bytes → list_all p front ≡ true
passes p n bytes front e f = ap (list_all p) (f ∙ ap (λ k. take k bytes) e) ∙ list_all-prefix p bytes

-- the byte behind those that pass a test does not, by the test of the first one
next_by : (p : ℕ → Bool) (x : ℕ) (xs : List ℕ) (b : Bool) → p x ≡ b
    → ((y : ℕ) (rest : List ℕ) → drop (prefix_len p xs) xs ≡ y ∷ rest → p y ≡ false)
    → (y : ℕ) (rest : List ℕ) → drop (cond b (1 + prefix_len p xs) 0) (x ∷ xs) ≡ y ∷ rest → p y ≡ false
next_by p x xs true e more y rest h =
    let n : 1 + prefix_len p xs ≡ suc (prefix_len p xs) = omega arith in more y rest (rw n at h)
next_by p x xs false e more y rest h = let same : x ≡ y = cc in ap p (sym same) ∙ e

-- the byte behind those that pass a test does not
next_fails : (p : ℕ → Bool) (xs : List ℕ) (y : ℕ) (rest : List ℕ) → drop (prefix_len p xs) xs ≡ y ∷ rest → p y ≡ false
next_fails p [] y rest h = cc
next_fails p (x ∷ xs) y rest h = next_by p x xs (p x) refl (next_fails p xs) y rest h

-- a piece in single quotes
pub single_read : (n : ℕ) (bytes front back : List ℕ) (quote : ℕ) (left : List ℕ) (old new : Progress)
    → n ≡ prefix_len (λ b. not (b == 39)) bytes → front ≡ take n bytes → back ≡ drop n bytes → back ≡ quote ∷ left
    → ((gives : List (Option (List ℕ))) → words_behind old (Some front ∷ gives) ≡ words_behind new gives)
    → Leads (39 ∷ bytes) old left new
single_read n bytes front back quote left old new e f b q gives =
    let fails = next_fails (λ b. not (b == 39)) bytes quote left (ap (λ k. drop k bytes) (sym e) ∙ sym b ∙ q) in
    let is : quote ≡ 39 = eqb-true quote 39 (not-false (quote == 39) fails) in
    let spelled : bytes ≡ (front ++ 39 ∷ []) ++ left =
    joins n bytes front back f b ∙ ap (λ xs. front ++ xs) (q ∙ ap (λ x. x ∷ left) is) ∙ sym (append_assoc front (39 ∷ []) left)
    in
    let P : List ℕ → Type 0 = λ bs. Leads (39 ∷ bs) old left new in
    subst P (sym spelled) (Leads-piece (single front) left old new (passes (λ b. not (b == 39)) n bytes front e f) gives)

-- a single quote without an end
pub single_open : (n : ℕ) (bytes front back : List ℕ) → n ≡ prefix_len (λ b. not (b == 39)) bytes → front ≡ take n bytes → back ≡ drop n bytes
    → length back ≡ 0 → IsOpenSingle (39 ∷ bytes)
single_open n bytes front back e f b none =
    let whole : bytes ≡ front = joins n bytes front back f b ∙ ap (λ xs. front ++ xs) (nil_from_length back none) ∙ append-nil front in
    (bytes, ap (list_all (λ b. not (b == 39))) whole ∙ passes (λ b. not (b == 39)) n bytes front e f, refl)

-- a byte behind a backslash, between double quotes
pub inner_escape_read : (b : ℕ) (bytes left : List ℕ) (old new : Progress) → bytes ≡ b ∷ left
    → ((gives : List (Option (List ℕ))) → words_behind old (Some (b ∷ []) ∷ gives) ≡ words_behind new gives)
    → LeadsInside (92 ∷ bytes) old left new
inner_escape_read b bytes left old new e gives =
    let P : List ℕ → Type 0 = λ bs. LeadsInside (92 ∷ bs) old left new in
    subst P (sym e) (LeadsInside-escaped b left old new gives)

-- bytes that stand for themselves, between double quotes
pub inner_run_read : (n : ℕ) (bytes front back : List ℕ) (old new : Progress)
    → n ≡ prefix_len is_inner_byte bytes → front ≡ take n bytes → back ≡ drop n bytes
    → ((gives : List (Option (List ℕ))) → words_behind old (Some front ∷ gives) ≡ words_behind new gives)
    → LeadsInside bytes old back new
inner_run_read n bytes front back old new e f b gives =
    let P : List ℕ → Type 0 = λ bs. LeadsInside bs old back new in
    subst P (sym (joins n bytes front back f b)) (LeadsInside-run front back old new (passes is_inner_byte n bytes front e f) gives)

-- a byte behind a backslash, outside quotes
pub escape_read : (b : ℕ) (bytes left : List ℕ) (old new : Progress) → bytes ≡ b ∷ left
    → ((gives : List (Option (List ℕ))) → words_behind old (Some (b ∷ []) ∷ gives) ≡ words_behind new gives)
    → Leads (92 ∷ bytes) old left new
escape_read b bytes left old new e gives =
    let P : List ℕ → Type 0 = λ bs. Leads (92 ∷ bs) old left new in
    subst P (sym e) (Leads-piece (escape b) left old new tt gives)

-- a backslash at the very end
pub lone_read : (bytes : List ℕ) (old new : Progress) → length bytes ≡ 0
    → ((gives : List (Option (List ℕ))) → words_behind old (Some (92 ∷ []) ∷ gives) ≡ words_behind new gives)
    → Leads (92 ∷ bytes) old bytes new
lone_read bytes old new none gives = Leads-piece lone bytes old new (nil_from_length bytes none) gives

-- bytes that stand for themselves, where there is one more
plain_by : (b m : ℕ) (behind : List ℕ) (old new : Progress) → m ≡ prefix_len is_plain behind → is_plain b ≡ true
    → ((gives : List (Option (List ℕ))) → words_behind old (Some (b ∷ take m behind) ∷ gives) ≡ words_behind new gives)
    → Leads (b ∷ behind) old (drop m behind) new
plain_by b m behind old new e plain gives =
    let P : List ℕ → Type 0 = λ bs. Leads (b ∷ bs) old (drop m behind) new in
    let rest : list_all is_plain (take m behind) ≡ true = passes is_plain m behind (take m behind) e refl in
    subst P (take-append-drop m behind) (Leads-plain b (take m behind) (drop m behind) old new (rw (plain, rest) refl) gives)

-- bytes that stand for themselves, at least one
pub plain_read : (n : ℕ) (bytes front back : List ℕ) (b : ℕ) (behind : List ℕ) (old new : Progress)
    → n ≡ prefix_len is_plain bytes → front ≡ take n bytes → back ≡ drop n bytes → bytes ≡ b ∷ behind → is_plain b ≡ true
    → ((gives : List (Option (List ℕ))) → words_behind old (Some front ∷ gives) ≡ words_behind new gives)
    → Leads bytes old back new
plain_read n bytes front back b behind old new e f k first plain gives =
    let one : 1 + prefix_len is_plain behind ≡ suc (prefix_len is_plain behind) = omega arith in
    let m : n ≡ suc (prefix_len is_plain behind) =
    e ∙ ap (prefix_len is_plain) first ∙ cond-true (is_plain b) (1 + prefix_len is_plain behind) 0 plain ∙ one
    in
    let run : front ≡ b ∷ take (prefix_len is_plain behind) behind =
    f ∙ ap (λ i. take i bytes) m ∙ ap (take (suc (prefix_len is_plain behind))) first
    in
    let rest : back ≡ drop (prefix_len is_plain behind) behind =
    k ∙ ap (λ i. drop i bytes) m ∙ ap (drop (suc (prefix_len is_plain behind))) first
    in
    let P : List ℕ → Type 0 = λ bs. Leads bs old back new in
    let Q : List ℕ → Type 0 = λ bs. Leads (b ∷ behind) old bs new in
    subst P (sym first)
    (subst Q (sym rest)
    (plain_by b (prefix_len is_plain behind) behind old new refl plain (λ gs. ap (λ w. words_behind old (Some w ∷ gs)) (sym run) ∙ gives gs)))

-- where nothing is left, the words are all that was joined
pub split_whole : (command left : List ℕ) (new : Progress) (words : List (List ℕ)) → Leads command start left new → length left ≡ 0
    → words ≡ words_behind new [] → HasWords command words
split_whole command left new words h all is =
    let P : List ℕ → Type 0 = λ l. Reads command h.0 l in
    (h.0, subst P (nil_from_length left all) h.1, is ∙ sym (h.2 []) ∙ ap (joined None) (append-nil (map given h.0)))

-- where a quote is open in what is left, it is open in the command
pub split_open : (command left : List ℕ) (old new : Progress) → Leads command old left new → IsOpen left → HasOpenQuote command
split_open command left old new h open' = (h.0, left, h.1, open')

-- a gap at the end ends the word that has begun
joined-end : (word : Option (List ℕ)) → joined word (None ∷ []) ≡ joined word []
joined-end None = refl
joined-end (Some word) = refl

-- the words, where the last one has ended
pub ended : (old new : Progress) (words : List (List ℕ)) → ((gives : List (Option (List ℕ))) → words_behind old (None ∷ gives) ≡ words_behind new gives)
    → new.word ≡ None → words ≡ new.done → words ≡ words_behind old []
ended old new words ends none is =
    let by : words_behind old (None ∷ []) ≡ words_behind old [] = ap (λ ws. old.done ++ ws) (joined-end old.word) in
    let all : words_behind new [] ≡ new.done = ap (λ w. new.done ++ joined w []) none ∙ append-nil new.done in
    is ∙ sym all ∙ sym (ends []) ∙ by

-- a gap
pub gap_read : (b : ℕ) (bytes behind : List ℕ) (old new : Progress) → bytes ≡ b ∷ behind → is_gap b ≡ true
    → ((gives : List (Option (List ℕ))) → words_behind old (None ∷ gives) ≡ words_behind new gives) → Leads bytes old behind new
gap_read b bytes behind old new e is gives =
    let P : List ℕ → Type 0 = λ bs. Leads bs old behind new in
    subst P (sym e) (Leads-piece (gap b) behind old new is gives)

-- a piece in double quotes
pub double_read : (bytes left : List ℕ) (b : ℕ) (behind : List ℕ) (old new : Progress) → LeadsInside bytes old left new → left ≡ b ∷ behind → b ≡ 34
    → Leads (34 ∷ bytes) old behind new
double_read bytes left b behind old new h e is =
    let P : List ℕ → Type 0 = λ bs. LeadsInside bytes old bs new in
    Leads-double bytes old behind new (subst P (e ∙ ap (λ x. x ∷ behind) is) h)

-- a byte that is no gap, no backslash and no quote stands for itself
pub plain_byte : (b : ℕ) → is_gap b ≡ false → (b == 92) ≡ false → (b == 39) ≡ false → (b == 34) ≡ false → is_plain b ≡ true
unfolding is_plain
plain_byte b gap' backslash single' double' = rw (gap', backslash, single', double') refl
