-- Replacement lists without ##.
use Rattle.std.proofs.Common.{◌≡◌, ℕ, ◌+◌, ◌<◌, ◌≤◌, ◌||◌, Bool, true, false, not, List, [], ◌∷◌, ◌++◌, length, map, take, drop, get_or, refl, sym, ◌∙◌, ap, append_assoc, length-append}
use Rattle.std.specs.List.{list_any}
use Rattle.std.proofs.lemmas.Bool.{and_parts, not-true, or_right}
use Rattle.std.proofs.lemmas.List.{append-nil, drop_more, take_more, map-append}
use Rattle.std.proofs.lemmas.List.Folds.{list_any_kept, list_any_more}
use Rattle.std.proofs.lemmas.Grind.{flat_map-append}
use Rattle.cb_paste.specs.declared.argument.Argument.{Argument}
use Rattle.cb_paste.specs.declared.part.Part.{Part}
use Rattle.cb_paste.specs.declared.part.Shape.{Shape}
use Rattle.cb_paste.specs.declared.part.Shape.TheVariants.{Fixed, Parameter, Quoted}
use Rattle.cb_paste.specs.Sets.{hides, Extends}
use Rattle.cb_paste.specs.Shades.{Shaded, shaded, all_shaded, first_spaced}
use Rattle.cb_paste.specs.Joins.{Put, Real, reals}
use Rattle.cb_paste.specs.Puts.{Given, seen_argument, given_at, AreArgumentsIn, shape_puts, next_glued, put_one, put_from}
use Rattle.cb_paste.specs.inner.Uses.{takes, is_used_plainly, Kept}
use Rattle.cb_paste.specs.inner.Given.{tokens_of}
use Rattle.cb_paste.specs.inner.Plain.{is_plain, plain_of, plain_all}
use Rattle.cb_paste.proofs.Counts.{reals-append}
use Rattle.cb_paste.proofs.Copies.{arguments_kept}
use Rattle.cb_paste.proofs.Moves.{shape_kept}
use Rattle.cb_paste.proofs.Stacks.{hides_same}

not_next : (ps : List Part) → is_plain ps ≡ true → next_glued ps ≡ false
not_next [] h = refl
not_next (p ∷ ps) h = not-true p.glued (and_parts (not p.glued) (is_plain ps) h).0

reals_map : (ts : List Shaded) → reals (map Real ts) ≡ ts
reals_map [] = refl
reals_map (t ∷ ts) = ap (λ l. t ∷ l) (reals_map ts)

shape_plain : (gs : List Given) (spaced : Bool) (s : Shape) → reals (shape_puts gs false spaced s) ≡ plain_of gs spaced s
shape_plain gs spaced (Fixed kind text) = refl
shape_plain gs spaced (Parameter i) = reals_map (first_spaced spaced (given_at gs i).expanded)
shape_plain gs spaced (Quoted i) = refl

plain_from : (gs : List Given) (done : List Put) (ps : List Part) → is_plain ps ≡ true → reals (put_from gs done ps) ≡ reals done ++ plain_all gs ps
plain_from gs done [] h = sym (append-nil (reals done))
plain_from gs done (p ∷ ps) h =
    let parts = and_parts (not p.glued) (is_plain ps) h in
    plain_from gs (put_one done p.glued (shape_puts gs (p.glued || next_glued ps) p.spaced p.shape)) ps parts.1
    ∙ (ap (λ l. reals l ++ plain_all gs ps)
    (ap (λ b. put_one done b (shape_puts gs (b || next_glued ps) p.spaced p.shape)) (not-true p.glued parts.0)
    ∙ ap (λ b. done ++ shape_puts gs b p.spaced p.shape) (not_next ps parts.1))
    ∙ (ap (λ l. l ++ plain_all gs ps)
    (reals-append done (shape_puts gs false p.spaced p.shape) ∙ ap (λ l. reals done ++ l) (shape_plain gs p.spaced p.shape))
    ∙ append_assoc (reals done) (plain_of gs p.spaced p.shape) (plain_all gs ps)))

-- without ## each part puts in its own tokens
pub plain_is : (gs : List Given) (ps : List Part) → is_plain ps ≡ true → reals (put_from gs [] ps) ≡ plain_all gs ps
plain_is gs ps h = plain_from gs [] ps h

pub plain_drop : (gs : List Given) (ps : List Part) (at : ℕ) (p : Part) → at < length ps → p ≡ get_or ps at p → length (plain_all gs (drop at ps)) ≡ length (plain_of gs p.spaced p.shape) + length (plain_all gs (drop (at + 1) ps))
plain_drop gs ps at p h e =
    ap (λ l. length (plain_all gs l)) (drop_more ps at p h ∙ ap (λ q. q ∷ drop (at + 1) ps) (sym e))
    ∙ length-append (plain_of gs p.spaced p.shape) (plain_all gs (drop (at + 1) ps))

take_next : (ps : List Part) (at : ℕ) (p : Part) → at < length ps → p ≡ get_or ps at p → take (at + 1) ps ≡ take at ps ++ p ∷ []
take_next ps at p h e = take_more ps at p h ∙ ap (λ q. take at ps ++ q ∷ []) (sym e)

pub plain_take : (gs : List Given) (ps : List Part) (at : ℕ) (p : Part) → at < length ps → p ≡ get_or ps at p → plain_all gs (take (at + 1) ps) ≡ plain_all gs (take at ps) ++ plain_of gs p.spaced p.shape
plain_take gs ps at p h e =
    ap (λ l. plain_all gs l) (take_next ps at p h e)
    ∙ (flat_map-append (λ q. plain_of gs q.spaced q.shape) (take at ps) (p ∷ [])
    ∙ ap (λ l. plain_all gs (take at ps) ++ l) (append-nil (plain_of gs p.spaced p.shape)))

-- what the earlier parts use
pub used_before : (ps : List Part) (at : ℕ) (raw : Bool) (i : ℕ) → is_used_plainly (take at ps) raw i ≡ true → is_used_plainly (take (at + 1) ps) raw i ≡ true
used_before ps at raw i u = list_any_kept (λ p. takes p.shape false raw i) ps at u

used_last : (ps : List Part) (at : ℕ) (p : Part) → at < length ps → p ≡ get_or ps at p → (raw : Bool) (i : ℕ) → takes p.shape false raw i ≡ true → is_used_plainly (take (at + 1) ps) raw i ≡ true
used_last ps at p h e raw i u =
    list_any_more (λ q. takes q.shape false raw i) ps at p h
    ∙ or_right (list_any (λ q. takes q.shape false raw i) (take at ps)) (takes (get_or ps at p).shape false raw i) (ap (λ q. takes q.shape false raw i) (sym e) ∙ u)

plain_kept : (gs hs : List Given) (spaced : Bool) (s : Shape) → ((raw : Bool) (i : ℕ) → takes s false raw i ≡ true → tokens_of raw (given_at gs i) ≡ tokens_of raw (given_at hs i)) → plain_of gs spaced s ≡ plain_of hs spaced s
plain_kept gs hs spaced s k = sym (shape_plain gs spaced s) ∙ (ap (λ l. reals l) (shape_kept gs hs false spaced s k) ∙ shape_plain hs spaced s)

-- one more part lies on the stack
pub plain_step : {a b : List (List ℕ)} → Extends a b → (extra : ℕ) → extra ≤ length a → (old now : List Argument) (ps : List Part) (at : ℕ) (p : Part) → at < length ps → p ≡ get_or ps at p → AreArgumentsIn (length a) old → Kept (is_used_plainly (take (at + 1) ps)) old now → (below new : List Shaded) → new ≡ all_shaded (hides b extra) (plain_of (map (seen_argument b) now) p.spaced p.shape) ++ below → all_shaded (hides a extra) (plain_all (map (seen_argument a) old) (take at ps)) ++ new ≡ all_shaded (hides a extra) (plain_all (map (seen_argument a) old) (take (at + 1) ps)) ++ below
plain_step {a} {b} e extra h old now ps at p l is o k below new put =
    let gs : List Given = map (seen_argument a) old in
    let same : plain_of (map (seen_argument b) now) p.spaced p.shape ≡ plain_of gs p.spaced p.shape =
    plain_kept (map (seen_argument b) now) (map (seen_argument b) old) p.spaced p.shape (λ raw i u. k.same b raw i (used_last ps at p l is raw i u))
    ∙ ap (λ xs. plain_of xs p.spaced p.shape) (arguments_kept e old o) in
    ap (λ xs. all_shaded (hides a extra) (plain_all gs (take at ps)) ++ xs)
    (put ∙ (ap (λ f. all_shaded f (plain_of (map (seen_argument b) now) p.spaced p.shape) ++ below) (hides_same e extra h) ∙ ap (λ xs. all_shaded (hides a extra) xs ++ below) same))
    ∙ (sym (append_assoc (all_shaded (hides a extra) (plain_all gs (take at ps))) (all_shaded (hides a extra) (plain_of gs p.spaced p.shape)) below)
    ∙ ap (λ xs. xs ++ below)
    (sym (map-append (shaded (hides a extra)) (plain_all gs (take at ps)) (plain_of gs p.spaced p.shape))
    ∙ ap (λ xs. all_shaded (hides a extra) xs) (sym (plain_take gs ps at p l is))))
