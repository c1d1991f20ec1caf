-- What the walk over parts holds after one more part.
use Rattle.std.proofs.Common.{◌≡◌, ℕ, ◌+◌, ◌==◌, ◌&&◌, not, nat_lt, Bool, true, false, List, [], ◌∷◌, ◌++◌, length, take, refl, sym, ap, subst, ◌∙◌, append_assoc, arith, length-append}
use Rattle.std.proofs.lemmas.List.{append-nil}
use Rattle.std.proofs.Math.Seq.{take-append_seam}
use Rattle.std.specs.List.{list_all, filter}
use Rattle.cb_paths.specs.Parts.{is_up, is_kept, normal}
use Rattle.cb_paths.specs.inner.Trails.{is_plain, text_back, starts_back, in_order, Stands}
use Rattle.cb_paths.specs.declared.trail.Trail.{Trail}
use Rattle.cb_paths.proofs.Normal.{normal_front, pair_goes, AreDown, down-append, normal_ups, up-head, up-tail}

not-true : (b : Bool) → not b ≡ true → b ≡ false
not-true true h = cc
not-true false h = refl

pub plain_is_down : (p : List ℕ) → is_plain p ≡ true → is_up p ≡ false
unfolding is_plain
plain_is_down p h = not-true (is_up p) (up-head (not (is_up p)) _ (up-head _ _ h))

pub plain_is_kept : (p : List ℕ) → is_plain p ≡ true → is_kept p ≡ true
unfolding is_plain
plain_is_kept p h = up-tail (not (is_up p)) _ (up-head _ _ h)

pub plain_has_no_slash : (p : List ℕ) → is_plain p ≡ true → list_all (λ b. not (b == 47)) p ≡ true
unfolding is_plain
plain_has_no_slash p h = up-tail (not (is_up p) && is_kept p) _ h

pub plain_from : (p : List ℕ) → is_up p ≡ false → is_kept p ≡ true → list_all (λ b. not (b == 47)) p ≡ true → is_plain p ≡ true
unfolding is_plain
plain_from p d k s = rw (d, k, s) refl

pub order_is_down : (back : List (List ℕ)) → list_all is_plain back ≡ true → AreDown (in_order back)
order_is_down [] h = tt
order_is_down (p ∷ ps) h =
    down-append (in_order ps) (p ∷ []) (order_is_down ps (up-tail (is_plain p) _ h)) (plain_is_down p (up-head (is_plain p) _ h), tt)

-- the normal form with more parts behind
further : (so_far more ups : List (List ℕ)) (back : List (List ℕ)) → normal so_far ≡ ups ++ in_order back
    → normal (so_far ++ more) ≡ normal (ups ++ (in_order back ++ more))
further so_far more ups back e =
    sym (normal_front so_far more) ∙ ap (λ ps. normal (ps ++ more)) e ∙ ap normal (append_assoc ups (in_order back) more)

snoc : (xs ys : List ℕ) (a b : ℕ) → xs ++ (a ∷ []) ≡ ys ++ (b ∷ []) → (xs ≡ ys) × (a ≡ b)
snoc [] [] a b h = (refl, cc)
snoc [] (y ∷ ys) a b h = let l = ap length h in let m = length-append ys (b ∷ []) in absurd (omega arith)
snoc (x ∷ xs) [] a b h = let l = ap length h in let m = length-append xs (a ∷ []) in absurd (omega arith)
snoc (x ∷ xs) (y ∷ ys) a b h =
    let t : xs ++ (a ∷ []) ≡ ys ++ (b ∷ []) = cc in
    let u : x ≡ y = cc in
    let r = snoc xs ys a b t in (rw (r.0, u) refl, r.1)

no_starts : (back : List (List ℕ)) → starts_back back ≡ [] → back ≡ []
no_starts [] h = refl
no_starts (p ∷ ps) h = let l = ap length h in let m = length-append (starts_back ps) (length (text_back ps) ∷ []) in absurd (omega arith)

all-push : (ps : List (List ℕ)) (p : List ℕ) → list_all is_up ps ≡ true → is_up p ≡ true → list_all is_up (ps ++ p ∷ []) ≡ true
all-push [] p h k = rw k refl
all-push (q ∷ qs) p h k = rw (up-head (is_up q) _ h) (all-push qs p (up-tail (is_up q) _ h) k)

-- a part that goes down
pub entered : (so_far : List (List ℕ)) (part : List ℕ) (s t : Trail) → is_plain part ≡ true → Stands so_far s
    → t.text.items ≡ s.text.items ++ (47 ∷ part) → t.starts.items ≡ s.starts.items ++ (length s.text.items ∷ []) → t.climbed ≡ s.climbed
    → Stands (so_far ++ part ∷ []) t
entered so_far part s t plain h text starts climbed =
    let all : list_all is_plain (part ∷ h.back) ≡ true = rw plain h.plain in
    record {
      ups = h.ups;
      back = part ∷ h.back;
      is_normal = further so_far (part ∷ []) h.ups h.back h.is_normal ∙ normal_ups h.ups (in_order (part ∷ h.back)) h.up (order_is_down (part ∷ h.back) all);
      up = h.up;
      plain = all;
      text = text ∙ ap (λ xs. xs ++ (47 ∷ part)) h.text;
      starts = starts ∙ rw (h.starts, h.text) refl;
      climbed = climbed ∙ h.climbed;
    }

-- a `..` where no part is left
climbed_from : (so_far ups : List (List ℕ)) (up : List ℕ) → list_all is_up ups ≡ true → is_up up ≡ true → normal so_far ≡ ups ++ []
    → normal (so_far ++ up ∷ []) ≡ (ups ++ up ∷ []) ++ []
climbed_from so_far ups up all h e = further so_far (up ∷ []) ups [] e ∙ ap normal (sym (append-nil (ups ++ up ∷ []))) ∙ normal_ups (ups ++ up ∷ []) [] (all-push ups up all h) tt

some_of : (n : ℕ) → nat_lt 0 (n + 1) ≡ true
some_of n = grind arith

pub climbed_at : (so_far : List (List ℕ)) (up : List ℕ) (s t : Trail) → is_up up ≡ true → (h : Stands so_far s) → h.back ≡ []
    → t.text.items ≡ s.text.items → t.starts.items ≡ s.starts.items → t.climbed ≡ true
    → Stands (so_far ++ up ∷ []) t
climbed_at so_far up s t is_it h e text starts climbed =
    record {
      ups = h.ups ++ up ∷ [];
      back = [];
      is_normal = climbed_from so_far h.ups up h.up is_it (subst (λ b. normal so_far ≡ h.ups ++ in_order b) e h.is_normal);
      up = all-push h.ups up h.up is_it;
      plain = refl;
      text = text ∙ subst (λ b. s.text.items ≡ text_back b) e h.text;
      starts = starts ∙ subst (λ b. s.starts.items ≡ starts_back b) e h.starts;
      climbed = climbed ∙ (let l = length-append h.ups (up ∷ []) in rw l (sym (some_of (length h.ups))));
    }

pub went_up_none : (so_far : List (List ℕ)) (up : List ℕ) (s t : Trail) → is_up up ≡ true → Stands so_far s → s.starts.items ≡ []
    → t.text.items ≡ s.text.items → t.starts.items ≡ s.starts.items → t.climbed ≡ true
    → Stands (so_far ++ up ∷ []) t
went_up_none so_far up s t is_it h none_left text starts climbed =
    climbed_at so_far up s t is_it h (no_starts h.back (sym h.starts ∙ none_left)) text starts climbed

-- a `..` behind a part
back_from : (so_far ups : List (List ℕ)) (p up : List ℕ) (ps : List (List ℕ)) → list_all is_up ups ≡ true → list_all is_plain (p ∷ ps) ≡ true
    → is_up up ≡ true → normal so_far ≡ ups ++ in_order (p ∷ ps) → normal (so_far ++ up ∷ []) ≡ ups ++ in_order ps
back_from so_far ups p up ps all plain h e =
    further so_far (up ∷ []) ups (p ∷ ps) e
    ∙ ap normal (ap (λ xs. ups ++ xs) (append_assoc (in_order ps) (p ∷ []) (up ∷ [])) ∙ sym (append_assoc ups (in_order ps) (p ∷ up ∷ [])))
    ∙ pair_goes (ups ++ in_order ps) p up [] (plain_is_down p (up-head (is_plain p) _ plain)) h
    ∙ ap normal (append-nil (ups ++ in_order ps))
    ∙ normal_ups ups (in_order ps) all (order_is_down ps (up-tail (is_plain p) _ plain))

went_back : (so_far : List (List ℕ)) (up : List ℕ) (s t : Trail) (front : List ℕ) (start : ℕ) → is_up up ≡ true → (h : Stands so_far s) (back : List (List ℕ)) → h.back ≡ back
    → s.starts.items ≡ front ++ (start ∷ [])
    → t.text.items ≡ take start s.text.items → t.starts.items ≡ front → t.climbed ≡ s.climbed
    → Stands (so_far ++ up ∷ []) t
went_back so_far up s t front start is_it h [] e starts text left climbed =
    let n : starts_back [] ≡ front ++ (start ∷ []) = sym (subst (λ b. s.starts.items ≡ starts_back b) e h.starts) ∙ starts in
    let l = ap length n in let m = length-append front (start ∷ []) in absurd (omega arith)
went_back so_far up s t front start is_it h (p ∷ ps) e starts text left climbed =
    let old : s.starts.items ≡ starts_back (p ∷ ps) = subst (λ b. s.starts.items ≡ starts_back b) e h.starts in
    let both = snoc front (starts_back ps) start (length (text_back ps)) (sym starts ∙ old) in
    let whole : s.text.items ≡ text_back (p ∷ ps) = subst (λ b. s.text.items ≡ text_back b) e h.text in
    let plain : list_all is_plain (p ∷ ps) ≡ true = subst (λ b. list_all is_plain b ≡ true) e h.plain in
    record {
      ups = h.ups;
      back = ps;
      is_normal = back_from so_far h.ups p up ps h.up plain is_it (subst (λ b. normal so_far ≡ h.ups ++ in_order b) e h.is_normal);
      up = h.up;
      plain = up-tail (is_plain p) _ plain;
      text = text ∙ ap (take start) whole ∙ ap (λ n. take n (text_back ps ++ (47 ∷ p))) both.1 ∙ take-append_seam (text_back ps) (47 ∷ p);
      starts = left ∙ both.0;
      climbed = climbed ∙ h.climbed;
    }

pub went_up_some : (so_far : List (List ℕ)) (up : List ℕ) (s t : Trail) (front : List ℕ) (start : ℕ) → is_up up ≡ true → Stands so_far s
    → s.starts.items ≡ front ++ (start ∷ [])
    → t.text.items ≡ take start s.text.items → t.starts.items ≡ front → t.climbed ≡ s.climbed
    → Stands (so_far ++ up ∷ []) t
went_up_some so_far up s t front start is_it h starts text left climbed =
    went_back so_far up s t front start is_it h h.back refl starts text left climbed

pub skipped : (so_far : List (List ℕ)) (part : List ℕ) (s : Trail) → is_kept part ≡ false → Stands so_far s → Stands (so_far ++ filter is_kept (part ∷ [])) s
skipped so_far part s e h = rw (e, append-nil so_far) h

pub taken : (so_far : List (List ℕ)) (part : List ℕ) (t : Trail) → is_kept part ≡ true → Stands (so_far ++ part ∷ []) t → Stands (so_far ++ filter is_kept (part ∷ [])) t
taken so_far part t e h = rw e h
