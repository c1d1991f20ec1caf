-- Tokens on the stack, in the order in which they are read.
use Rattle.std.proofs.Common.{◌≡◌, ℕ, zero, suc, ◌+◌, ◌<◌, ◌≤◌, Bool, List, [], ◌∷◌, ◌++◌, length, map, take, set, get_or, reverse, refl, sym, ◌∙◌, ap, subst, arith, append_assoc}
use Rattle.std.proofs.Math.Path.{fun_ext}
use Rattle.std.proofs.lemmas.List.{append-nil, map_push, map-append, reverse-append, take_all, take_more, set_split, drop_all}
use Rattle.cb_paste.specs.declared.work_token.WorkToken.{WorkToken}
use Rattle.cb_paste.specs.declared.slots.Slot.{Slot}
use Rattle.cb_paste.specs.Sets.{hides, Extends}
use Rattle.cb_paste.specs.Shades.{Shaded, seen, waiting, shaded, all_shaded, first_spaced, AreIn}
use Rattle.cb_paste.specs.Joins.{real_of, reals}
use Rattle.cb_paste.specs.inner.Slots.{seen_slot, IsSlotIn}
use Rattle.cb_paste.proofs.Arenas.{hides_kept}
use Rattle.cb_paste.proofs.Standing.{seen_kept, seen_all_kept, slot_kept}
use Rattle.cb_paste.proofs.Counts.{reals-append}

pub waiting_push : (sets : List (List ℕ)) (ts : List WorkToken) (t : WorkToken) → waiting sets (ts ++ t ∷ []) ≡ seen sets t ∷ waiting sets ts
waiting_push sets ts t = ap (λ l. reverse l) (map_push (seen sets) ts t) ∙ reverse-append (map (seen sets) ts) (seen sets t ∷ [])

pub waiting_kept : {a b : List (List ℕ)} → Extends a b → (ts : List WorkToken) → AreIn (length a) ts → waiting b ts ≡ waiting a ts
waiting_kept e ts o = ap (λ l. reverse l) (seen_all_kept e ts o)

pub in_push : (n : ℕ) (ts : List WorkToken) (t : WorkToken) → AreIn n ts → t.hides ≤ n → AreIn n (ts ++ t ∷ [])
in_push n [] t o h = (h, tt)
in_push n (u ∷ us) t o h = (o.0, in_push n us t o.1 h)

pub in_front : (n : ℕ) (ts : List WorkToken) (t : WorkToken) → AreIn n (ts ++ t ∷ []) → AreIn n ts × (t.hides ≤ n)
in_front n [] t o = (tt, o.0)
in_front n (u ∷ us) t o = let r = in_front n us t o.1 in ((o.0, r.0), r.1)

pub hides_same : {a b : List (List ℕ)} → Extends a b → (i : ℕ) → i ≤ length a → hides b i ≡ hides a i
hides_same e i h = fun_ext (hides_kept e i h)

pub reals_push : (sets : List (List ℕ)) (ss : List Slot) (s : Slot) → reals (map (seen_slot sets) (ss ++ s ∷ [])) ≡ reals (map (seen_slot sets) ss) ++ real_of (seen_slot sets s)
reals_push sets ss s = ap (λ l. reals l) (map_push (seen_slot sets) ss s) ∙ (reals-append (map (seen_slot sets) ss) (seen_slot sets s ∷ []) ∙ ap (λ l. reals (map (seen_slot sets) ss) ++ l) (append-nil (real_of (seen_slot sets s))))

-- the last of what stands went onto the stack
pub stack_step : {a b : List (List ℕ)} → Extends a b → (extra : ℕ) → extra ≤ length a → (front : List Slot) (s : Slot) → IsSlotIn (length a) s → (old new : List Shaded) → new ≡ all_shaded (hides b extra) (real_of (seen_slot b s)) ++ old → all_shaded (hides a extra) (reals (map (seen_slot a) front)) ++ new ≡ all_shaded (hides a extra) (reals (map (seen_slot a) (front ++ s ∷ []))) ++ old
stack_step {a} {b} e extra h front s o old new is =
    ap (λ l. all_shaded (hides a extra) (reals (map (seen_slot a) front)) ++ l)
    (is ∙ rw (hides_same e extra h, slot_kept e s o))
    ∙ (sym (append_assoc (all_shaded (hides a extra) (reals (map (seen_slot a) front))) (all_shaded (hides a extra) (real_of (seen_slot a s))) old)
    ∙ ap (λ l. l ++ old)
    (sym (map-append (shaded (hides a extra)) (reals (map (seen_slot a) front)) (real_of (seen_slot a s)))
    ∙ ap (λ l. all_shaded (hides a extra) l) (sym (reals_push a front s))))

-- the first token put in takes the white space, whichever hide set is joined
pub space_all : (extra : ℕ → Bool) (spaced : Bool) (ts old : List Shaded) → (length ts ≡ 0 → ⊥) → first_spaced spaced (all_shaded extra ts ++ old) ≡ all_shaded extra (first_spaced spaced ts) ++ old
space_all extra spaced [] old ne = absurd (ne refl)
space_all extra spaced (t ∷ ts) old ne = refl

-- one more token lies on the stack
pub token_step : {a b : List (List ℕ)} → Extends a b → (extra : ℕ) → extra ≤ length a → (front : List WorkToken) (t : WorkToken) → t.hides ≤ length a → (old new : List Shaded) → new ≡ shaded (hides b extra) (seen b t) ∷ old → all_shaded (hides a extra) (map (seen a) front) ++ new ≡ all_shaded (hides a extra) (map (seen a) (front ++ t ∷ [])) ++ old
token_step {a} {b} e extra h front t o old new is =
    ap (λ l. all_shaded (hides a extra) (map (seen a) front) ++ l) (is ∙ (ap (λ f. shaded f (seen b t) ∷ old) (hides_same e extra h) ∙ ap (λ u. shaded (hides a extra) u ∷ old) (seen_kept e t o)))
    ∙ (sym (append_assoc (all_shaded (hides a extra) (map (seen a) front)) (shaded (hides a extra) (seen a t) ∷ []) old)
    ∙ ap (λ l. l ++ old)
    (sym (map_push (shaded (hides a extra)) (map (seen a) front) (seen a t))
    ∙ ap (λ l. all_shaded (hides a extra) l) (sym (map_push (seen a) front t))))

-- the last token with such white space is the next one to be read
pub space_last : (sets : List (List ℕ)) (ts : List WorkToken) (k : ℕ) (spaced : Bool) (d : WorkToken) → k + 1 ≡ length ts → waiting sets (set ts k (record (get_or ts k d) { spaced = spaced })) ≡ first_spaced spaced (waiting sets ts)
space_last sets ts k spaced d h =
    let t : WorkToken = get_or ts k d in
    let u : WorkToken = record t { spaced = spaced } in
    let split : ts ≡ take k ts ++ t ∷ [] = sym (take_all (k + 1) ts (omega arith)) ∙ take_more ts k d (omega arith) in
    let made : set ts k u ≡ take k ts ++ u ∷ [] = set_split ts k u (omega arith) ∙ ap (λ l. take k ts ++ u ∷ l) (drop_all (suc k) ts (omega arith)) in
    ap (λ l. waiting sets l) made
    ∙ (waiting_push sets (take k ts) u
    ∙ sym (ap (λ l. first_spaced spaced (waiting sets l)) split ∙ ap (λ l. first_spaced spaced l) (waiting_push sets (take k ts) t)))

pub in_at : (n : ℕ) (ts : List WorkToken) (k : ℕ) (t : WorkToken) → k < length ts → t ≡ get_or ts k t → AreIn n ts → t.hides ≤ n
in_at n [] k t h e o = absurd (omega arith)
in_at n (u ∷ us) zero t h e o = subst (λ v. v.hides ≤ n) (sym e) o.0
in_at n (u ∷ us) (suc k) t h e o = in_at n us k t (omega arith) e o.1

pub in_set : (n : ℕ) (ts : List WorkToken) (k : ℕ) (t : WorkToken) → t.hides ≤ n → AreIn n ts → AreIn n (set ts k t)
in_set n [] k t h o = tt
in_set n (u ∷ us) zero t h o = (h, o.1)
in_set n (u ∷ us) (suc k) t h o = (o.0, in_set n us k t h o.1)

pub take_back : (ts : List WorkToken) (k at : ℕ) (t : WorkToken) → k + 1 ≡ at → k < length ts → t ≡ get_or ts k t → take k ts ++ t ∷ [] ≡ take at ts
take_back ts k at t h l e =
    sym (ap (λ n. take n ts) (sym h) ∙ (take_more ts k t l ∙ ap (λ u. take k ts ++ u ∷ []) (sym e)))
