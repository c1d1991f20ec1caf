-- Lists of what is put in, one at a time.
use Rattle.std.proofs.Common.{◌≡◌, ℕ, ◌||◌, ◌≤◌, Bool, true, false, List, [], ◌∷◌, ◌++◌, length, map, Option, Some, None, refl, sym, ap, arith, append_assoc, length-append}
use Rattle.std.proofs.lemmas.List.{append-nil}
use Rattle.std.proofs.lemmas.Grind.{flat_map-append}
use Rattle.cb_tokens.specs.declared.token.TokenKind.{TokenKind}
use Rattle.cb_tokens.specs.Kinds.{token_kind}
use Rattle.cb_paste.specs.declared.part.Part.{Part}
use Rattle.cb_paste.specs.declared.slots.Slot.{Slot}
use Rattle.cb_paste.specs.declared.slots.Slot.TheVariants as slot
use Rattle.cb_paste.specs.Shades.{Shaded}
use Rattle.cb_paste.specs.Joins.{Put, Mark, Real, joined_as, glue, onto_last, real_of, reals}
use Rattle.cb_paste.specs.Puts.{Given, shape_puts, next_glued, put_one, put_from}
use Rattle.cb_paste.specs.inner.Slots.{token_count, seen_slot}

pub onto_push : (xs : List Put) (l m : Put) (ms : List Put) → onto_last (xs ++ l ∷ []) (m ∷ ms) ≡ xs ++ (glue l m ++ ms)
onto_push [] l m ms = refl
onto_push (x ∷ []) l m ms = refl
onto_push (x ∷ y ∷ xs) l m ms = ap (λ r. x ∷ r) (onto_push (y ∷ xs) l m ms)

onto_more : (done : List Put) (m : Put) (ms : List Put) → onto_last done (m ∷ ms) ≡ onto_last done (m ∷ []) ++ ms
onto_more [] m ms = refl
onto_more (l ∷ []) m ms = sym (ap (λ g. g ++ ms) (append-nil (glue l m)))
onto_more (l ∷ k ∷ ls) m ms = ap (λ r. l ∷ r) (onto_more (k ∷ ls) m ms)

onto_none : (done : List Put) → onto_last done [] ≡ done
onto_none [] = refl
onto_none (l ∷ []) = refl
onto_none (l ∷ k ∷ ls) = ap (λ r. l ∷ r) (onto_none (k ∷ ls))

pub put_more : (done : List Put) (glued : Bool) (m : Put) (ms : List Put) → put_one done glued (m ∷ ms) ≡ put_one done glued (m ∷ []) ++ ms
put_more done true m ms = onto_more done m ms
put_more done false m ms = sym (append_assoc done (m ∷ []) ms)

pub put_none : (done : List Put) (glued : Bool) → put_one done glued [] ≡ done
put_none done true = onto_none done
put_none done false = append-nil done

pub reals-append : (xs ys : List Put) → reals (xs ++ ys) ≡ reals xs ++ reals ys
reals-append xs ys = flat_map-append real_of xs ys

pub reals_count : (sets : List (List ℕ)) (ss : List Slot) → length (reals (map (seen_slot sets) ss)) ≡ token_count ss
reals_count sets [] = refl
reals_count sets (slot.Mark s ∷ ss) = reals_count sets ss
reals_count sets (slot.Real t j ∷ ss) = omega (arith, reals_count sets ss)

joined_count : (t u : Shaded) (k : Option TokenKind) → 1 ≤ length (reals (joined_as t u k))
joined_count t u (Some k) = omega arith
joined_count t u None = omega arith

glue_count : (l m : Put) → length (real_of l) ≤ length (reals (glue l m))
glue_count (Mark s) m = omega arith
glue_count (Real t) (Mark r) = omega arith
glue_count (Real t) (Real u) = joined_count t u (token_kind (t.text ++ u.text))

onto_count : (done ms : List Put) → length (reals done) ≤ length (reals (onto_last done ms))
onto_count [] ms = omega arith
onto_count (l ∷ []) [] = omega arith
onto_count (l ∷ []) (m ∷ ms) =
    omega (arith, ap length (reals-append (glue l m) ms), length-append (reals (glue l m)) (reals ms), glue_count l m, length-append (real_of l) [])
onto_count (l ∷ k ∷ ls) ms =
    omega (arith, length-append (real_of l) (reals (k ∷ ls)), length-append (real_of l) (reals (onto_last (k ∷ ls) ms)), onto_count (k ∷ ls) ms)

-- no token that stands goes away
pub put_one_count : (done : List Put) (glued : Bool) (ms : List Put) → length (reals done) ≤ length (reals (put_one done glued ms))
put_one_count done true ms = onto_count done ms
put_one_count done false ms = omega (arith, ap length (reals-append done ms), length-append (reals done) (reals ms))

pub put_from_count : (gs : List Given) (done : List Put) (ps : List Part) → length (reals done) ≤ length (reals (put_from gs done ps))
put_from_count gs done [] = omega arith
put_from_count gs done (p ∷ ps) =
    let ms : List Put = shape_puts gs (p.glued || next_glued ps) p.spaced p.shape in
    omega (arith, put_one_count done p.glued ms, put_from_count gs (put_one done p.glued ms) ps)
