-- The texts of lists of parts, and the parts of such texts.
use Rattle.std.proofs.Common.{◌≡◌, ℕ, suc, ◌<◌, ◌==◌, nat_lt, true, false, List, [], ◌∷◌, ◌++◌, length, refl, sym, ap, subst, ◌∙◌, arith}
use Rattle.std.specs.List.{list_all, filter, slice_split}
use Rattle.std.proofs.lemmas.List.{append-nil}
use Rattle.std.proofs.lemmas.Grind.{flat_map-append}
use Rattle.cb_paths.specs.Parts.{is_up, is_kept, parts_of, normal, without_ups, rooted}
use Rattle.cb_paths.specs.Paths.{climbs, path_text, folder_text}
use Rattle.cb_paths.specs.inner.Trails.{is_plain, text_back, in_order, Stands}
use Rattle.cb_paths.specs.declared.trail.Trail.{Trail}
use Rattle.cb_paths.proofs.Normal.{AreDown, up-head, up-tail}
use Rattle.cb_paths.proofs.Trails.{plain_is_down, plain_is_kept, plain_has_no_slash, order_is_down}
use Rattle.cb_paths.proofs.Splitting.{split_none, split_at}

-- all parts are plain
abbrev pub ArePlain : List (List ℕ) → Type 0
ArePlain ps = list_all is_plain ps ≡ true

plain-head : (p : List ℕ) (ps : List (List ℕ)) → ArePlain (p ∷ ps) → is_plain p ≡ true
plain-head p ps h = up-head (is_plain p) _ h

plain-tail : (p : List ℕ) (ps : List (List ℕ)) → ArePlain (p ∷ ps) → ArePlain ps
plain-tail p ps h = up-tail (is_plain p) _ h

plain-push : (ps : List (List ℕ)) (p : List ℕ) → ArePlain ps → is_plain p ≡ true → ArePlain (ps ++ p ∷ [])
plain-push [] p h k = rw k refl
plain-push (q ∷ qs) p h k = rw (plain-head q qs h) (plain-push qs p (plain-tail q qs h) k)

order_is_plain : (back : List (List ℕ)) → ArePlain back → ArePlain (in_order back)
order_is_plain [] h = refl
order_is_plain (p ∷ ps) h = plain-push (in_order ps) p (order_is_plain ps (plain-tail p ps h)) (plain-head p ps h)

pub plain_are_down : (ps : List (List ℕ)) → ArePlain ps → AreDown ps
plain_are_down [] h = tt
plain_are_down (p ∷ ps) h = (plain_is_down p (plain-head p ps h), plain_are_down ps (plain-tail p ps h))

text_in_order : (back : List (List ℕ)) → text_back back ≡ rooted (in_order back)
text_in_order [] = refl
text_in_order (p ∷ ps) =
    ap (λ xs. xs ++ (47 ∷ p)) (text_in_order ps)
    ∙ ap (λ xs. rooted (in_order ps) ++ (47 ∷ xs)) (sym (append-nil p))
    ∙ sym (flat_map-append (λ part. 47 ∷ part) (in_order ps) (p ∷ []))

without-append : (us ps : List (List ℕ)) → list_all is_up us ≡ true → AreDown ps → without_ups (us ++ ps) ≡ ps
without-append [] [] h k = refl
without-append [] (p ∷ ps) h k = rw k.0 refl
without-append (u ∷ us) ps h k = rw (up-head (is_up u) _ h) (without-append us ps (up-tail (is_up u) _ h) k)

some_of : (n : ℕ) → nat_lt 0 (suc n) ≡ true
some_of n = grind arith

climbs-append : (us ps : List (List ℕ)) → list_all is_up us ≡ true → AreDown ps → climbs (us ++ ps) ≡ nat_lt 0 (length us)
climbs-append [] [] h k = refl
climbs-append [] (p ∷ ps) h k = k.0
climbs-append (u ∷ us) ps h k = up-head (is_up u) _ h ∙ (let n = length us in sym (some_of n))

none_up : (us : List (List ℕ)) → nat_lt 0 (length us) ≡ false → us ≡ []
none_up [] h = refl
none_up (u ∷ us) h = let e = some_of (length us) in cc

-- what the walk says at its end
pub record Ends (ps : List (List ℕ)) (t : Trail) : Type 0 where
  pub text : t.text.items ≡ rooted (without_ups (normal ps))
  pub climbed : climbs (normal ps) ≡ t.climbed
  pub plain : ArePlain (without_ups (normal ps))
  pub same : t.climbed ≡ false → without_ups (normal ps) ≡ normal ps

pub ends_at : (ps : List (List ℕ)) (t : Trail) → Stands ps t → Ends ps t
ends_at ps t h =
    let down = order_is_down h.back h.plain in
    let left : without_ups (normal ps) ≡ in_order h.back = ap without_ups h.is_normal ∙ without-append h.ups (in_order h.back) h.up down in
    record {
      text = h.text ∙ text_in_order h.back ∙ ap rooted (sym left);
      climbed = ap climbs h.is_normal ∙ climbs-append h.ups (in_order h.back) h.up down ∙ sym h.climbed;
      plain = subst ArePlain (sym left) (order_is_plain h.back h.plain);
      same = λ e. left ∙ sym (h.is_normal ∙ ap (λ us. us ++ in_order h.back) (none_up h.ups (sym h.climbed ∙ e)));
    }

-- the parts of the text of plain parts
pub split_rooted : (p : List ℕ) (ps : List (List ℕ)) → ArePlain (p ∷ ps) → slice_split (λ b. b == 47) (p ++ rooted ps) ≡ p ∷ ps
split_rooted p [] h = ap (slice_split (λ b. b == 47)) (append-nil p) ∙ split_none 47 p (plain_has_no_slash p (plain-head p [] h))
split_rooted p (q ∷ qs) h =
    split_at 47 p (q ++ rooted qs) (plain_has_no_slash p (plain-head p (q ∷ qs) h)) ∙ ap (λ ps. p ∷ ps) (split_rooted q qs (plain-tail p (q ∷ qs) h))

kept_plain : (ps : List (List ℕ)) → ArePlain ps → filter is_kept ps ≡ ps
kept_plain [] h = refl
kept_plain (p ∷ ps) h = rw (plain_is_kept p (plain-head p ps h), kept_plain ps (plain-tail p ps h)) refl

pub parts_of_path : (ps : List (List ℕ)) → ArePlain ps → 0 < length ps → parts_of (path_text ps) ≡ ps
parts_of_path [] h some = absurd (omega arith)
parts_of_path (p ∷ ps) h some = ap (filter is_kept) (split_rooted p ps h) ∙ kept_plain (p ∷ ps) h

pub parts_of_folder : (ps : List (List ℕ)) → ArePlain ps → parts_of (folder_text ps) ≡ ps
unfolding is_kept
parts_of_folder [] h = refl
parts_of_folder (p ∷ ps) h = ap (filter is_kept) (split_rooted p ps h) ∙ kept_plain (p ∷ ps) h
