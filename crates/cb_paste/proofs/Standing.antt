-- What stands while it may still be joined.
use Rattle.std.proofs.Common.{◌≡◌, ℕ, ◌+◌, ◌≤◌, List, [], ◌∷◌, ◌++◌, length, map, refl, ap, arith}
use Rattle.std.proofs.Math.Path.{fun_ext}
use Rattle.std.proofs.lemmas.Bool.{false≢true}
use Rattle.cb_paste.specs.declared.work_token.WorkToken.{WorkToken}
use Rattle.cb_paste.specs.declared.slots.Slot.{Slot}
use Rattle.cb_paste.specs.declared.slots.Slot.TheVariants as slot
use Rattle.cb_paste.specs.Sets.{Extends}
use Rattle.cb_paste.specs.Shades.{seen, AreIn}
use Rattle.cb_paste.specs.Joins.{Real}
use Rattle.cb_paste.specs.inner.Slots.{token_count, seen_slot, as_slot, IsSlotIn, AreSlotsIn}
use Rattle.cb_paste.proofs.Arenas.{hides_kept}

pub token_count-append : (xs ys : List Slot) → token_count (xs ++ ys) ≡ token_count xs + token_count ys
token_count-append [] ys = omega arith
token_count-append (slot.Mark s ∷ xs) ys = token_count-append xs ys
token_count-append (slot.Real t j ∷ xs) ys = omega (arith, token_count-append xs ys)

pub token_count_le : (xs : List Slot) → token_count xs ≤ length xs
token_count_le [] = omega arith
token_count_le (slot.Mark s ∷ xs) = omega (arith, token_count_le xs)
token_count_le (slot.Real t j ∷ xs) = omega (arith, token_count_le xs)

-- a token is seen the same through an arena that has grown
pub seen_kept : {a b : List (List ℕ)} → Extends a b → (t : WorkToken) → t.hides ≤ length a → seen b t ≡ seen a t
seen_kept {a} {b} e t h =
    ap (λ f. record { kind = t.kind; spaced = t.spaced; text = t.text; hides = f }) (fun_ext (λ n. hides_kept e t.hides h n))

pub seen_all_kept : {a b : List (List ℕ)} → Extends a b → (ts : List WorkToken) → AreIn (length a) ts → map (seen b) ts ≡ map (seen a) ts
seen_all_kept e [] o = refl
seen_all_kept e (t ∷ ts) o = rw (seen_kept e t o.0, seen_all_kept e ts o.1)

pub in_more : (m n : ℕ) → m ≤ n → (ts : List WorkToken) → AreIn m ts → AreIn n ts
in_more m n le [] o = tt
in_more m n le (t ∷ ts) o = (omega (arith, o.0), in_more m n le ts o.1)

pub slot_kept : {a b : List (List ℕ)} → Extends a b → (s : Slot) → IsSlotIn (length a) s → seen_slot b s ≡ seen_slot a s
slot_kept e (slot.Mark s) o = refl
slot_kept e (slot.Real t j) o = ap Real (seen_kept e t o.0)

pub slots_kept : {a b : List (List ℕ)} → Extends a b → (ss : List Slot) → AreSlotsIn (length a) ss → map (seen_slot b) ss ≡ map (seen_slot a) ss
slots_kept e [] o = refl
slots_kept e (s ∷ ss) o = rw (slot_kept e s o.0, slots_kept e ss o.1)

pub slot_more : (m n : ℕ) → m ≤ n → (s : Slot) → IsSlotIn m s → IsSlotIn n s
slot_more m n le (slot.Mark s) o = tt
slot_more m n le (slot.Real t j) o = (omega (arith, o.0), o.1)

pub slots_more : (m n : ℕ) → m ≤ n → (ss : List Slot) → AreSlotsIn m ss → AreSlotsIn n ss
slots_more m n le [] o = tt
slots_more m n le (s ∷ ss) o = (slot_more m n le s o.0, slots_more m n le ss o.1)

pub slots_in_append : (n : ℕ) (xs ys : List Slot) → AreSlotsIn n xs → AreSlotsIn n ys → AreSlotsIn n (xs ++ ys)
slots_in_append n [] ys o p = p
slots_in_append n (x ∷ xs) ys o p = (o.0, slots_in_append n xs ys o.1 p)

pub slots_in_front : (n : ℕ) (xs ys : List Slot) → AreSlotsIn n (xs ++ ys) → AreSlotsIn n xs
slots_in_front n [] ys o = tt
slots_in_front n (x ∷ xs) ys o = (o.0, slots_in_front n xs ys o.1)

pub slots_in_back : (n : ℕ) (xs ys : List Slot) → AreSlotsIn n (xs ++ ys) → AreSlotsIn n ys
slots_in_back n [] ys o = o
slots_in_back n (x ∷ xs) ys o = slots_in_back n xs ys o.1

pub as_slots_in : (n : ℕ) (ts : List WorkToken) → AreIn n ts → AreSlotsIn n (map as_slot ts)
as_slots_in n [] o = tt
as_slots_in n (t ∷ ts) o = ((o.0, λ e. absurd (false≢true e)), as_slots_in n ts o.1)

pub seen_as_slots : (sets : List (List ℕ)) (ts : List WorkToken) → map (seen_slot sets) (map as_slot ts) ≡ map Real (map (seen sets) ts)
seen_as_slots sets [] = refl
seen_as_slots sets (t ∷ ts) = rw (seen_as_slots sets ts)
