-- The end of a block comment, a byte at a time.
use Rattle.std.proofs.Common.{◌≡◌, ℕ, suc, zero, ◌+◌, ◌-◌, ◌<◌, ◌≤◌, ◌==◌, true, false, ◌&&◌, Option, Some, None, List, [], ◌∷◌, length, get_or, take, drop, zero-add, add-zero, length-take-le, sym, refl, ap, ◌∙◌, subst, arith, ⊎_elim}
use Rattle.std.proofs.lemmas.Bool.{eqb-true, and_parts, and_right, cases_lt, cond-false}
use Rattle.std.proofs.lemmas.List.{drop_all, get_or_past}
use Rattle.cb_tokens.specs.Forms.{begins_with, ends_comment, has_comment_end}
use Rattle.cb_tokens.specs.Cut.{NoneLonger}
use Rattle.cb_tokens.specs.inner.Scan.{ends_with, IsLongest, EndsComment}
use Rattle.cb_tokens.proofs.Longest.{longest_on, split_at, head_at}

begins_short : (b : ℕ) (bs : List ℕ) → begins_with 42 47 (b ∷ bs) ≡ ((b == 42) && (get_or bs 0 0 == 47))
unfolding begins_with
begins_short b [] = sym (and_right (b == 42) false refl)
begins_short b (c ∷ cs) = refl

-- whether */ stands at an index
begins_at : (xs : List ℕ) (n : ℕ) → n < length xs → begins_with 42 47 (get_or xs n 0 ∷ drop (n + 1) xs) ≡ ((get_or xs n 0 == 42) && (get_or xs (n + 1) 0 == 47))
begins_at xs n h =
    begins_short (get_or xs n 0) (drop (n + 1) xs) ∙ ap (λ v. (get_or xs n 0 == 42) && (v == 47)) (head_at xs (n + 1) 0 ∙ ap (λ k. get_or xs k 0) (add-zero (n + 1)))

still_not : (b : ℕ) (bs : List ℕ) (m : ℕ) → begins_with 42 47 (b ∷ bs) ≡ false → begins_with 42 47 (b ∷ take m bs) ≡ false
unfolding begins_with
still_not b bs zero e = refl
still_not b [] (suc m) e = refl
still_not b (c ∷ cs) (suc m) e = e

ends_on : (b : ℕ) (bs : List ℕ) → begins_with 42 47 (b ∷ bs) ≡ false → (m : ℕ) → ends_comment (b ∷ take m bs) ≡ ends_comment (take m bs)
unfolding ends_comment
ends_on b bs e m = cond-false (begins_with 42 47 (b ∷ take m bs)) (length (take m bs) == 1) (ends_comment (take m bs)) (still_not b bs m e)

has_on : (b : ℕ) (bs : List ℕ) → begins_with 42 47 (b ∷ bs) ≡ false → has_comment_end (b ∷ bs) ≡ has_comment_end bs
unfolding has_comment_end
has_on b bs e = rw e refl

here_within : (cs : List ℕ) → NoneLonger ends_comment (42 ∷ 47 ∷ cs) 2
unfolding ends_comment begins_with
here_within cs zero le h = omega arith
here_within cs (suc zero) le h = omega arith
here_within cs (suc (suc m)) le h =
    let one : length (47 ∷ take m cs) ≡ 1 = eqb-true (length (47 ∷ take m cs)) 1 h in
    omega (arith, length-take-le m cs (omega arith))

has_here : (cs : List ℕ) → has_comment_end (42 ∷ 47 ∷ cs) ≡ true
unfolding has_comment_end begins_with
has_here cs = refl

ends_here : (cs : List ℕ) → EndsComment (42 ∷ 47 ∷ cs) (Some 2)
unfolding ends_comment begins_with
ends_here cs = (record { within = omega arith; holds = refl; longest = here_within cs }, has_here cs)

-- the answer so many bytes further on
abbrev pub moved : ℕ → Option ℕ → Option ℕ
moved n None = None
moved n (Some k) = Some (n + k)

further : (b : ℕ) (bs : List ℕ) (r : Option ℕ) → begins_with 42 47 (b ∷ bs) ≡ false → EndsComment bs r → EndsComment (b ∷ bs) (moved 1 r)
further b bs None e h = has_on b bs e ∙ h
further b bs (Some k) e h =
    let one : suc k ≡ 1 + k = omega arith in
    (subst (IsLongest ends_comment (b ∷ bs)) one (longest_on ends_comment ends_comment b bs (ends_on b bs e) k h.0), has_on b bs e ∙ h.1)

moved_none : (r : Option ℕ) → moved 0 r ≡ r
moved_none None = refl
moved_none (Some k) = ap Some (zero-add k)

moved_further : (n : ℕ) (r : Option ℕ) → moved n (moved 1 r) ≡ moved (n + 1) r
moved_further n None = refl
moved_further n (Some k) = let e : n + (1 + k) ≡ (n + 1) + k = omega arith in ap Some e

-- where the comment ends from an index on is where it ends from the start
abbrev pub CommentAhead : List ℕ → ℕ → Type 0
CommentAhead xs n = (r : Option ℕ) → EndsComment (drop n xs) r → EndsComment xs (moved n r)

pub ahead_start : (xs : List ℕ) → CommentAhead xs 0
ahead_start xs r e = subst (EndsComment xs) (sym (moved_none r)) e

pub ahead_more : (xs : List ℕ) (n : ℕ) → n < length xs → ((get_or xs n 0 == 42) && (get_or xs (n + 1) 0 == 47)) ≡ false → CommentAhead xs n → CommentAhead xs (n + 1)
ahead_more xs n h e ahead r l =
    subst (EndsComment xs) (moved_further n r)
    (ahead (moved 1 r) (subst (λ ys. EndsComment ys (moved 1 r)) (sym (split_at xs n h)) (further (get_or xs n 0) (drop (n + 1) xs) r (begins_at xs n h ∙ e) l)))

pub ahead_here : (xs : List ℕ) (n : ℕ) → n < length xs → ((get_or xs n 0 == 42) && (get_or xs (n + 1) 0 == 47)) ≡ true → CommentAhead xs n → EndsComment xs (Some (n + 2))
ahead_here xs n h e ahead =
    let parts = and_parts (get_or xs n 0 == 42) (get_or xs (n + 1) 0 == 47) e in
    let star : get_or xs n 0 ≡ 42 = eqb-true (get_or xs n 0) 42 parts.0 in
    let slash : get_or xs (n + 1) 0 ≡ 47 = eqb-true (get_or xs (n + 1) 0) 47 parts.1 in
    let room : n + 1 < length xs =
    ⊎_elim (λ k. k) (λ k. let past : 0 ≡ 47 = sym (get_or_past xs (n + 1) 0 k) ∙ slash in absurd (omega arith)) (cases_lt (n + 1) (length xs)) in
    let opened : drop n xs ≡ 42 ∷ 47 ∷ drop ((n + 1) + 1) xs =
    split_at xs n h ∙ ap (λ v. v ∷ drop (n + 1) xs) star ∙ ap (λ ys. 42 ∷ ys) (split_at xs (n + 1) room ∙ ap (λ v. v ∷ drop ((n + 1) + 1) xs) slash) in
    ahead (Some 2) (subst (λ ys. EndsComment ys (Some 2)) (sym opened) (ends_here (drop ((n + 1) + 1) xs)))

none_left : has_comment_end [] ≡ false
unfolding has_comment_end
none_left = refl

pub ahead_end : (xs : List ℕ) (n : ℕ) → length xs ≤ n → CommentAhead xs n → EndsComment xs None
ahead_end xs n h ahead = ahead None (subst (λ ys. EndsComment ys None) (sym (drop_all n xs h)) none_left)

-- over bytes at which it does not end
ahead_by : (xs : List ℕ) (d n : ℕ) → n + d ≤ length xs → ((k : ℕ) → n ≤ k → k < n + d → ends_with (get_or xs k 0) (get_or xs (k + 1) 0) ≡ false) → CommentAhead xs n → CommentAhead xs (n + d)
unfolding ends_with
ahead_by xs zero n le goes ahead = let e : n ≡ n + 0 = omega arith in subst (CommentAhead xs) e ahead
ahead_by xs (suc d) n le goes ahead =
    let e : (n + 1) + d ≡ n + suc d = omega arith in
    subst (CommentAhead xs) e (ahead_by xs d (n + 1) (omega arith) (λ k low lt. goes k (omega arith) (omega arith)) (ahead_more xs n (omega arith) (goes n (omega arith) (omega arith)) ahead))

pub ahead_run : (xs : List ℕ) (n m : ℕ) → n ≤ m → m ≤ length xs → ((k : ℕ) → n ≤ k → k < m → ends_with (get_or xs k 0) (get_or xs (k + 1) 0) ≡ false) → CommentAhead xs n → CommentAhead xs m
ahead_run xs n m le within goes ahead =
    let e : n + (m - n) ≡ m = omega arith in
    subst (CommentAhead xs) e (ahead_by xs (m - n) n (omega arith) (λ k low lt. goes k low (omega arith)) ahead)
