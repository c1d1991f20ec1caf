-- Lists of tokens and arguments that are put in.
use Rattle.std.proofs.Common.{◌≡◌, ℕ, zero, suc, ◌+◌, ◌<◌, ◌≤◌, ◌||◌, Bool, true, false, List, [], ◌∷◌, ◌++◌, length, map, take, drop, get_or, refl, sym, ◌∙◌, ap, subst, arith, append_assoc}
use Rattle.std.proofs.lemmas.List.{append-nil, map_push, map-append, take_more, take-append-drop, drop_more}
use Rattle.cb_paste.specs.declared.argument.Argument.{Argument}
use Rattle.cb_paste.specs.declared.part.Part.{Part}
use Rattle.cb_paste.specs.declared.work_token.WorkToken.{WorkToken}
use Rattle.cb_paste.specs.declared.slots.Slot.{Slot}
use Rattle.cb_paste.specs.Sets.{Extends}
use Rattle.cb_paste.specs.Shades.{Shaded, seen, spaced_as, AreIn}
use Rattle.cb_paste.specs.Joins.{Put, Real, glue, onto_last}
use Rattle.cb_paste.specs.Puts.{Given, seen_argument, AreArgumentsIn, shape_puts, next_glued, put_one, put_from}
use Rattle.cb_paste.specs.inner.Slots.{token_count, seen_slot, as_slot, AreSlotsIn}
use Rattle.cb_paste.specs.inner.Given.{tokens_puts}
use Rattle.cb_paste.proofs.Standing.{token_count-append, slots_kept, seen_all_kept, seen_as_slots, in_more}
use Rattle.cb_paste.proofs.Counts.{onto_push, put_more}

pub as_more : (old : List Slot) (ts : List WorkToken) (i : ℕ) (t : WorkToken) → i < length ts → t ≡ get_or ts i t → (old ++ map as_slot (take i ts)) ++ as_slot t ∷ [] ≡ old ++ map as_slot (take (i + 1) ts)
as_more old ts i t h e =
    append_assoc old (map as_slot (take i ts)) (as_slot t ∷ [])
    ∙ ap (λ l. old ++ l)
    (sym (map_push as_slot (take i ts) t) ∙ ap (λ l. map as_slot l) (ap (λ c. take i ts ++ c ∷ []) e ∙ sym (take_more ts i t h)))

pub as_few : (old : List Slot) (ts : List WorkToken) (k : ℕ) → token_count (old ++ map as_slot (take k ts)) ≤ token_count (old ++ map as_slot ts)
as_few old ts k =
    let split : map as_slot ts ≡ map as_slot (take k ts) ++ map as_slot (drop k ts) = ap (λ l. map as_slot l) (sym (take-append-drop k ts)) ∙ map-append as_slot (take k ts) (drop k ts) in
    omega
    (arith, token_count-append old (map as_slot (take k ts)), token_count-append old (map as_slot ts), ap token_count split, token_count-append (map as_slot (take k ts)) (map as_slot (drop k ts)))

pub front_few : (old : List Slot) (t : WorkToken) (ts : List WorkToken) → token_count (old ++ as_slot t ∷ []) ≤ token_count (old ++ map as_slot (t ∷ ts))
front_few old t ts = omega (arith, token_count-append old (as_slot t ∷ []), token_count-append old (map as_slot (t ∷ ts)))

-- what two sides of ## make, behind what stands
pub glued_put : {a b : List (List ℕ)} → Extends a b → (front : List Slot) (last slot : Slot) (made : List Slot) → AreSlotsIn (length a) front → map (seen_slot b) made ≡ glue (seen_slot a last) (seen_slot a slot) → map (seen_slot b) (front ++ made) ≡ onto_last (map (seen_slot a) (front ++ last ∷ [])) (seen_slot a slot ∷ [])
glued_put {a} {b} e front last slot made o is =
    map-append (seen_slot b) front made
    ∙ (rw (slots_kept e front o, is)
    (sym
    (ap (λ d. onto_last d (seen_slot a slot ∷ [])) (map_push (seen_slot a) front last)
    ∙ (onto_push (map (seen_slot a) front) (seen_slot a last) (seen_slot a slot) [] ∙ ap (λ g. map (seen_slot a) front ++ g) (append-nil _)))))

pub some_puts : (beside spaced : Bool) (t : Shaded) (ts : List Shaded) → tokens_puts beside spaced (t ∷ ts) ≡ Real (spaced_as spaced t) ∷ map Real ts
some_puts true spaced t ts = refl
some_puts false spaced t ts = refl

-- the first token of an argument was put, and the others behind it
pub rest_put : {a b : List (List ℕ)} → Extends a b → (mid : List Slot) (done : List Put) (glued spaced : Bool) (t : WorkToken) (ts : List WorkToken) → AreIn (length a) ts → map (seen_slot b) mid ≡ put_one done glued (Real (spaced_as spaced (seen a t)) ∷ []) → map (seen_slot b) (mid ++ map as_slot ts) ≡ put_one done glued (tokens_puts false spaced (map (seen a) (t ∷ ts)))
rest_put {a} {b} e mid done glued spaced t ts o is =
    map-append (seen_slot b) mid (map as_slot ts)
    ∙ (rw (is, seen_as_slots b ts, seen_all_kept e ts o) (sym (put_more done glued (Real (spaced_as spaced (seen a t))) (map Real (map (seen a) ts)))))

pub argument_in : (count : ℕ) (args : List Argument) (i : ℕ) (x : Argument) → i < length args → x ≡ get_or args i x → AreArgumentsIn count args → AreIn count x.raw.items × AreIn count x.expanded.items
argument_in count [] i x h e o = absurd (omega arith)
argument_in count (a ∷ rest) zero x h e o = subst (λ y. AreIn count y.raw.items × AreIn count y.expanded.items) (sym e) (o.0, o.1)
argument_in count (a ∷ rest) (suc i) x h e o = argument_in count rest i x (omega arith) e o.2

pub arguments_more : (m n : ℕ) → m ≤ n → (args : List Argument) → AreArgumentsIn m args → AreArgumentsIn n args
arguments_more m n le [] o = tt
arguments_more m n le (x ∷ xs) o = (in_more m n le x.raw.items o.0, in_more m n le x.expanded.items o.1, arguments_more m n le xs o.2)

pub arguments_kept : {a b : List (List ℕ)} → Extends a b → (args : List Argument) → AreArgumentsIn (length a) args → map (seen_argument b) args ≡ map (seen_argument a) args
arguments_kept e [] o = refl
arguments_kept {a} {b} e (x ∷ xs) o =
    ap (λ r. r ∷ map (seen_argument b) xs)
    (ap (λ l. record { raw = l; expanded = map (seen b) x.expanded.items }) (seen_all_kept e x.raw.items o.0)
    ∙ ap (λ l. record { raw = map (seen a) x.raw.items; expanded = l }) (seen_all_kept e x.expanded.items o.1))
    ∙ ap (λ r. seen_argument a x ∷ r) (arguments_kept e xs o.2)

-- one more part put in
pub put_step : (gs : List Given) (done new : List Put) (ps : List Part) (at : ℕ) (p : Part) → at < length ps → p ≡ get_or ps at p → new ≡ put_one done p.glued (shape_puts gs (next_glued (drop at ps) || next_glued (drop (at + 1) ps)) p.spaced p.shape) → put_from gs new (drop (at + 1) ps) ≡ put_from gs done (drop at ps)
put_step gs done new ps at p h e is =
    let split : drop at ps ≡ p ∷ drop (at + 1) ps = drop_more ps at p h ∙ ap (λ q. q ∷ drop (at + 1) ps) (sym e) in
    ap (λ d. put_from gs d (drop (at + 1) ps))
    (is
    ∙ ap (λ l. put_one done p.glued (shape_puts gs (next_glued l || next_glued (drop (at + 1) ps)) p.spaced p.shape)) split)
    ∙ sym (ap (λ l. put_from gs done l) split)
