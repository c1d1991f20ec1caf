-- A call begins.
use Rattle.std.proofs.Common.{◌≡◌, ℕ, zero, suc, ◌+◌, ◌-◌, ◌≤◌, ◌<◌, Bool, true, false, List, [], ◌∷◌, ◌++◌, length, take, drop, get_or, refl, ap, sym, ◌∙◌, subst, arith, drop-cons, None}
use Rattle.std.specs.Prelude.{◌==◌, ◌&&◌, ◌||◌, if◌then◌else◌, reverse, slice_get, IsSomeAnd, not}
use Rattle.std.proofs.lemmas.List.{reverse-append, take-take, drop-take, length-take, length-map}
use Rattle.std.proofs.Math.Path.{fun_ext}
use Rattle.cb_macro.specs.Definitions.{Definition}
use Rattle.cb_macro.specs.Parts.{parts, is_shown, is_raw}
use Rattle.cb_paste.specs.declared.argument.Argument.{Argument}
use Rattle.cb_paste.specs.declared.work_token.WorkToken.{WorkToken}
use Rattle.cb_paste.specs.Sets.{hides, Extends}
use Rattle.cb_paste.specs.Shades.{Shaded, seen, AreIn}
use Rattle.cb_expand.specs.declared.mode.Mode.{Mode}
use Rattle.cb_expand.specs.declared.work.Left.{Left}
use Rattle.cb_expand.specs.declared.work.Work.{Work}
use Rattle.cb_expand.specs.Heads.{Named, Insertion, only}
use Rattle.cb_expand.specs.inner.Gathers.{pieces, last_of, AreDescending}
use Rattle.cb_expand.specs.inner.Lefts.{IsLeft, AreLefts, begin_of}
use Rattle.cb_expand.specs.inner.Machine.{Pending, State, Between, Steps}
use Rattle.cb_expand.specs.inner.Rows.{between}
use Rattle.cb_expand.specs.inner.Works.{seen_all, left_raws, left_shown, last_end, lacking, parts_of, pending_by, pendings, row_of, outer_of, AreLeft, IsWork}
use Rattle.cb_expand.specs.inner.Readings.{head_of, rest_of, reading, inside, written_at, IsEnded, IsCalled}
use Rattle.cb_expand.proofs.Heights.{between_map, map-take}
use Rattle.cb_expand.proofs.Stepping.{step_calls}
use Rattle.cb_expand.proofs.Alike.{same_front, same_take, seen_same, pendings_same, in_append, in_take}
use Rattle.cb_expand.proofs.Putting.{parts_are}

-- what is read from an index of a stack on
pub reverse_drop : {T : Type 0} (ts : List T) (i : ℕ) (t : T) → i < length ts → t ≡ get_or ts i t → reverse (drop i ts) ≡ reverse (drop (i + 1) ts) ++ t ∷ []
reverse_drop ts i t h e =
    let n : suc i ≡ i + 1 = omega arith in
    let d : drop i ts ≡ t ∷ drop (i + 1) ts = drop-cons ts i t h ∙ (ap (λ x. x ∷ drop (suc i) ts) (sym e) ∙ ap (λ n. t ∷ drop n ts) n) in
    ap reverse d ∙ reverse-append (t ∷ []) (drop (i + 1) ts)

pub last_at : (from : ℕ) (es : List ℕ) → 0 < length es → last_of from es ≡ get_or es (length es - 1) 0
last_at from [] h = absurd (omega arith)
last_at from (e ∷ []) h = refl
last_at from (e ∷ x ∷ es) h =
    let k : suc (length (x ∷ es) - 1) ≡ length (e ∷ x ∷ es) - 1 = omega arith in
    last_at e (x ∷ es) (omega arith) ∙ ap (λ n. get_or (e ∷ x ∷ es) n 0) k

-- the ends below one another, from an index on
pub descending_none : (from floor : ℕ) (es : List ℕ) → AreDescending from floor es → AreDescending from 0 es
descending_none from floor [] h = tt
descending_none from floor (e ∷ es) h = (h.0, omega (arith, h.1), descending_none (e - 1) floor es h.2)

pub begin_within : (height : ℕ) (es : List ℕ) (i : ℕ) → AreDescending height 0 es → i ≤ length es → begin_of height es i ≤ height
begin_within height es zero h a = omega arith
begin_within height [] (suc i) h a = absurd (omega arith)
begin_within height (e ∷ es) (suc zero) h a = omega (arith, h.0)
begin_within height (e ∷ es) (suc (suc i)) h a = omega (arith, begin_within (e - 1) es (suc i) h.2 (omega arith), h.0)

pub descending_drop : (height : ℕ) (es : List ℕ) (i : ℕ) → AreDescending height 0 es → i ≤ length es → AreDescending (begin_of height es i) 0 (drop i es)
descending_drop height es zero h a = h
descending_drop height [] (suc i) h a = absurd (omega arith)
descending_drop height (e ∷ es) (suc zero) h a = h.2
descending_drop height (e ∷ es) (suc (suc i)) h a = descending_drop (e - 1) es (suc i) h.2 (omega arith)

pub end_below : (height : ℕ) (es : List ℕ) (i : ℕ) → AreDescending height 0 es → i < length es → get_or es i 0 ≤ begin_of height es i
end_below height es i h a = (subst (λ xs. AreDescending (begin_of height es i) 0 xs) (drop-cons es i 0 a) (descending_drop height es i h (omega arith))).0

-- the arguments from an index on
pub lefts_none : (d : Definition) (ts : List WorkToken) (k from : ℕ) (es : List ℕ) (ls : List Left) → es ≡ [] → ls ≡ [] → AreLefts d ts k from es (reverse ls)
lefts_none d ts k from es ls p q =
    subst (λ xs. AreLefts d ts k from xs (reverse ls)) (sym p) (subst (λ (ys : List Left). AreLefts d ts k from [] (reverse ys)) (sym q) tt)

pub lefts_more : (d : Definition) (ts : List WorkToken) (height : ℕ) (es : List ℕ) (i at from : ℕ) (l : Left) (ls all : List Left) → i < length es → at ≡ suc i → from ≡ begin_of height es i
    → IsLeft d ts i (get_or es i 0) from l → AreLefts d ts at (begin_of height es at) (drop at es) (reverse ls) → all ≡ ls ++ l ∷ []
    → AreLefts d ts i (begin_of height es i) (drop i es) (reverse all)
lefts_more d ts height es i at from l ls all a n f h more p =
    let m : AreLefts d ts (suc i) (begin_of height es (suc i)) (drop (suc i) es) (reverse ls) =
    subst (λ n. AreLefts d ts n (begin_of height es n) (drop n es) (reverse ls)) n more in
    let y : reverse all ≡ l ∷ reverse ls = ap reverse p ∙ reverse-append ls (l ∷ []) in
    subst (λ xs. AreLefts d ts i (begin_of height es i) xs (reverse all)) (sym (drop-cons es i 0 a))
    (subst (λ ys. AreLefts d ts i (begin_of height es i) (get_or es i 0 ∷ drop (suc i) es) ys) (sym y) (subst (λ n. IsLeft d ts i (get_or es i 0) n l) f h, m))

pub lefts_is : (d : Definition) (ts us : List WorkToken) (m n : ℕ) (es fs : List ℕ) (ls : List Left) → ts ≡ us → m ≡ n → es ≡ fs → AreLefts d ts 0 m es ls → AreLefts d us 0 n fs ls
lefts_is d ts us m n es fs ls p q r h =
    subst (λ xs. AreLefts d us 0 n xs ls) r (subst (λ k. AreLefts d us 0 k es ls) q (subst (λ (xs : List WorkToken). AreLefts d xs 0 m es ls) p h))

pub slice_between : {T : Type 0} (low high : ℕ) (ts : List T) → low ≤ high → take (high - low) (drop low ts) ≡ drop low (take high ts)
slice_between low high ts h =
    let n : low + (high - low) ≡ high = omega arith in
    sym (drop-take low (high - low) ts) ∙ ap (λ n. drop low (take n ts)) n

pub in_get : (n : ℕ) (ts : List WorkToken) (i : ℕ) (y : WorkToken) → AreIn n ts → i < length ts → y ≡ get_or ts i y → y.hides ≤ n
in_get n [] i y a h e = absurd (omega arith)
in_get n (t ∷ ts) zero y a h e = omega (arith, ap (λ (x : WorkToken). x.hides) e, a.0)
in_get n (t ∷ ts) (suc i) y a h e = in_get n ts i y a.1 (omega arith) e

-- the arguments as written
raw_by : (sets : List (List ℕ)) (e height : ℕ) (ts : List WorkToken) (b : Bool)
    → seen_all sets (if b then between e height ts else []) ≡ (if b then between e height (seen_all sets ts) else [])
raw_by sets e height ts true = between_map (seen sets) e height ts
raw_by sets e height ts false = refl

pub left_raws_are : (sets : List (List ℕ)) (d : Definition) (ts : List WorkToken) (k height : ℕ) (es : List ℕ) (ls : List Left) → AreLefts d ts k height es ls
    → left_raws sets ls ≡ only (λ i. is_raw i (parts d)) k (pieces (seen_all sets ts) height es)
left_raws_are sets d ts k height [] [] h = refl
left_raws_are sets d ts k height [] (l ∷ ls) h = absurd h
left_raws_are sets d ts k height (e ∷ es) [] h = absurd h
left_raws_are sets d ts k height (e ∷ es) (l ∷ ls) h =
    let a = ap (seen_all sets) h.0.raw ∙ raw_by sets e height ts (is_raw k (parts d)) in
    ap (λ x. x ∷ left_raws sets ls) a
    ∙ ap (λ xs. (if is_raw k (parts d) then between e height (seen_all sets ts) else []) ∷ xs) (left_raws_are sets d ts (suc k) (e - 1) es ls h.1)

-- those that are expanded
pub left_shown_are : (ss : List Shaded) (d : Definition) (ts : List WorkToken) (k from height : ℕ) (es : List ℕ) (ls : List Left) → from - 1 ≡ height → AreLefts d ts k height es ls
    → left_shown ss from ls ≡ only (λ i. is_shown i (parts d)) k (pieces ss height es)
left_shown_are ss d ts k from height [] [] p h = refl
left_shown_are ss d ts k from height [] (l ∷ ls) p h = absurd h
left_shown_are ss d ts k from height (e ∷ es) [] p h = absurd h
left_shown_are ss d ts k from height (e ∷ es) (l ∷ ls) p h =
    let more = left_shown_are ss d ts (suc k) l.end (e - 1) es ls (ap (λ n. n - 1) h.0.ends_at) h.1 in
    ap (λ b. (if b then between l.end (from - 1) ss else []) ∷ left_shown ss l.end ls) h.0.shown
    ∙ (ap (λ n. (if is_shown k (parts d) then between n (from - 1) ss else []) ∷ left_shown ss l.end ls) h.0.ends_at
    ∙ (ap (λ n. (if is_shown k (parts d) then between e n ss else []) ∷ left_shown ss l.end ls) p
    ∙ ap (λ xs. (if is_shown k (parts d) then between e height ss else []) ∷ xs) more))

pub last_end_is : (d : Definition) (ts : List WorkToken) (k from height : ℕ) (es : List ℕ) (ls : List Left) → AreLefts d ts k height es ls → last_end from ls ≡ last_of from es
last_end_is d ts k from height [] [] h = refl
last_end_is d ts k from height [] (l ∷ ls) h = absurd h
last_end_is d ts k from height (e ∷ es) [] h = absurd h
last_end_is d ts k from height (e ∷ es) (l ∷ ls) h = ap (λ n. last_end n ls) h.0.ends_at ∙ last_end_is d ts (suc k) e (e - 1) es ls h.1

-- where they lie
in_drop : (n i : ℕ) (ts : List WorkToken) → AreIn n ts → AreIn n (drop i ts)
in_drop n zero ts a = a
in_drop n (suc i) [] a = tt
in_drop n (suc i) (t ∷ ts) a = in_drop n i ts a.1

in_reverse : (n : ℕ) (ts : List WorkToken) → AreIn n ts → AreIn n (reverse ts)
in_reverse n [] a = tt
in_reverse n (t ∷ ts) a = subst (λ (xs : List WorkToken). AreIn n xs) (sym (reverse-append (t ∷ []) ts)) (in_append n (reverse ts) (t ∷ []) (in_reverse n ts a.1) (a.0, tt))

in_raw : (n e height : ℕ) (ts : List WorkToken) (b : Bool) → AreIn n ts → AreIn n (if b then between e height ts else [])
in_raw n e height ts true a = in_reverse n (drop e (take height ts)) (in_drop n e (take height ts) (in_take n height ts a))
in_raw n e height ts false a = tt

pub left_are : (n : ℕ) (d : Definition) (ts : List WorkToken) (k from height floor : ℕ) (es : List ℕ) (ls : List Left) → AreIn n ts → height < from → AreDescending height floor es
    → floor < last_of from es → AreLefts d ts k height es ls → AreLeft n from floor ls
left_are n d ts k from height floor [] [] i a down l h = l
left_are n d ts k from height floor [] (x ∷ ls) i a down l h = absurd h
left_are n d ts k from height floor (e ∷ es) [] i a down l h = absurd h
left_are n d ts k from height floor (e ∷ es) (x ∷ ls) i a down l h = (
  omega (arith, h.0.ends_at, down.0),
  subst (λ (xs : List WorkToken). AreIn n xs) (sym h.0.raw) (in_raw n e height ts (is_raw k (parts d)) i),
  subst (λ m. AreLeft n m floor ls) (sym h.0.ends_at) (left_are n d ts (suc k) e (e - 1) floor es ls i (omega (arith, down.1)) down.2 l h.1),
)

-- an argument that lacks is empty, wanted or not
none_if : (b : Bool) → ◌≡◌ {A = List Shaded} (if b then [] else []) []
none_if true = refl
none_if false = refl

pub only_lacking : (test : ℕ → Bool) (k : ℕ) (xs : List (List Shaded)) (lacks : Bool) → only test k (xs ++ lacking lacks) ≡ only test k xs ++ lacking lacks
only_lacking test k [] true = ap (λ x. x ∷ []) (none_if (test k))
only_lacking test k [] false = refl
only_lacking test k (x ∷ xs) lacks = ap (λ ys. (if test k then x else []) ∷ ys) (only_lacking test (suc k) xs lacks)

pub seen_get : (sets : List (List ℕ)) (ts : List WorkToken) (i : ℕ) (t : WorkToken) → get_or (seen_all sets ts) i (seen sets t) ≡ seen sets (get_or ts i t)
seen_get sets [] i t = refl
seen_get sets (x ∷ xs) zero t = refl
seen_get sets (x ∷ xs) (suc i) t = seen_get sets xs i t

-- whether there is an argument
abbrev pub some_of : List ℕ → Bool
some_of [] = false
some_of (e ∷ es) = true

-- the state behind the beginning of a call
module _ (ms : Named) (mode : Mode) (old : Work) (t y : WorkToken) (place : ℕ) (d : Definition) (sets : List (List ℕ)) (x : Extends old.arena sets) (set : ℕ)
    (us : List WorkToken) (ends : List ℕ) (lacks : Bool) (ls : List Left)
    (w : IsWork (length ms) old None) (i : IsSomeAnd (slice_get ms place) (λ e. e.1 ≡ d)) (en : IsEnded ms old place ends)
    (ca : IsCalled ms old t place ends lacks (head_of ms mode old t))
    (yi : y ≡ get_or old.row.tokens.items (last_of (inside old) ends - 1) y)
    (s : (n : ℕ) → hides sets set n ≡ ((n == place) || (hides old.arena t.hides n && hides old.arena y.hides n)))
    (l : AreLefts d old.row.tokens.items 0 (inside old) ends ls)
    (u : us ≡ (if some_of ends then old.row.tokens.items else take (inside old) old.row.tokens.items)) where
  row : List Shaded
  row = seen_all sets us

  same_all : seen_all sets old.row.tokens.items ≡ row_of old
  same_all = seen_same old.arena sets x old.row.tokens.items w.tokens

  take_by : (es : List ℕ) → us ≡ (if some_of es then old.row.tokens.items else take (inside old) old.row.tokens.items) → take (inside old) (seen_all sets us) ≡ take (inside old) (row_of old)
  take_by [] q =
      ap (λ ts. take (inside old) (seen_all sets ts)) q
      ∙ (ap (take (inside old)) (map-take (seen sets) (inside old) old.row.tokens.items)
      ∙ (take-take (inside old) (inside old) (seen_all sets old.row.tokens.items) (omega arith) ∙ ap (take (inside old)) same_all))
  take_by (e ∷ es) q = ap (λ ts. take (inside old) (seen_all sets ts)) q ∙ ap (take (inside old)) same_all

  same : take (inside old) row ≡ take (inside old) (row_of old)
  unfolding row
  same = take_by ends u

  length_by : (es : List ℕ) → us ≡ (if some_of es then old.row.tokens.items else take (inside old) old.row.tokens.items) → last_of (length us) es ≡ last_of (inside old) es
  length_by [] q = omega (arith, ap length q, length-take (inside old) old.row.tokens.items)
  length_by (e ∷ es) q = refl

  pub last_is : last_end (length us) ls ≡ last_of (inside old) ends
  last_is = last_end_is d old.row.tokens.items 0 (length us) (inside old) ends ls l ∙ length_by ends u

  pub us_length : (inside old ≤ length us) × (length us ≤ length old.row.tokens.items)
  us_length = by_ends ends u
    where
      by_ends : (es : List ℕ) → us ≡ (if some_of es then old.row.tokens.items else take (inside old) old.row.tokens.items) → (inside old ≤ length us) × (length us ≤ length old.row.tokens.items)
      by_ends [] q = (omega (arith, ap length q, length-take (inside old) old.row.tokens.items), omega (arith, ap length q, length-take (inside old) old.row.tokens.items))
      by_ends (e ∷ es) q = (omega (arith, ap length q), omega (arith, ap length q))

  shown_by : (es : List ℕ) → us ≡ (if some_of es then old.row.tokens.items else take (inside old) old.row.tokens.items) → AreLefts d old.row.tokens.items 0 (inside old) es ls
      → left_shown (seen_all sets us) (length us) ls ≡ only (λ i. is_shown i (parts d)) 0 (pieces (row_of old) (inside old) es)
  shown_by [] q h = shown_none ls h
    where
      shown_none : (ls : List Left) → AreLefts d old.row.tokens.items 0 (inside old) [] ls → left_shown (seen_all sets us) (length us) ls ≡ []
      shown_none [] h = refl
      shown_none (l ∷ ls) h = absurd h
  shown_by (e ∷ es) q h =
      left_shown_are (seen_all sets us) d old.row.tokens.items 0 (length us) (inside old) (e ∷ es) ls (omega (arith, ap length q)) h
      ∙ ap (λ ss. only (λ i. is_shown i (parts d)) 0 (pieces ss (inside old) (e ∷ es))) (ap (seen_all sets) q ∙ same_all)

  pub left_by : (n : ℕ) → AreIn n old.row.tokens.items → AreLeft n (length us) old.floor ls
  left_by n a = by_ends ends u en.descending en.above l
    where
      none_left : (ls : List Left) → AreLefts d old.row.tokens.items 0 (inside old) [] ls → old.floor < length us → AreLeft n (length us) old.floor ls
      none_left [] h b = b
      none_left (l ∷ ls) h b = absurd h

      by_ends : (es : List ℕ) → us ≡ (if some_of es then old.row.tokens.items else take (inside old) old.row.tokens.items) → AreDescending (inside old) old.floor es → old.floor < last_of (inside old) es
          → AreLefts d old.row.tokens.items 0 (inside old) es ls → AreLeft n (length us) old.floor ls
      by_ends [] q down above h = none_left ls h (omega (arith, above, us_length.0))
      by_ends (e ∷ es) q down above h = left_are n d old.row.tokens.items 0 (length us) (inside old) old.floor (e ∷ es) ls a (omega (arith, ap length q, en.some)) down above h

  pub begun : Pending
  begun = pending_by ms sets row place t.spaced set [] ls lacks [] (length us) old.floor (seen_all sets old.done.items)

  call_of : Insertion
  call_of = record {
    parts = parts_of (slice_get ms place);
    spaced = t.spaced;
    hides = λ n. (n == place) || (hides old.arena t.hides n && ca.close.hides n);
    written = only (λ i. is_raw i (parts_of (slice_get ms place))) 0 (written_at old ends lacks);
  }

  shown_of : List (List Shaded)
  shown_of = only (λ i. is_shown i (parts_of (slice_get ms place))) 0 (written_at old ends lacks)

  parts_is : parts_of (slice_get ms place) ≡ parts d
  parts_is = parts_are (slice_get ms place) d (parts d) i refl

  written_is : only (λ i. is_raw i (parts_of (slice_get ms place))) 0 (written_at old ends lacks) ≡ left_raws sets ls ++ lacking lacks
  written_is =
      let a = left_raws_are sets d old.row.tokens.items 0 (inside old) ends ls l ∙ ap (λ ss. only (λ i. is_raw i (parts d)) 0 (pieces ss (inside old) ends)) same_all in
      ap (λ ps. only (λ i. is_raw i ps) 0 (written_at old ends lacks)) parts_is
      ∙ (only_lacking (λ i. is_raw i (parts d)) 0 (pieces (row_of old) (inside old) ends) lacks ∙ ap (λ xs. xs ++ lacking lacks) (sym a))

  shown_is : shown_of ≡ left_shown row (length us) ls ++ lacking lacks
  unfolding row shown_of
  shown_is =
      ap (λ ps. only (λ i. is_shown i ps) 0 (written_at old ends lacks)) parts_is
      ∙ (only_lacking (λ i. is_shown i (parts d)) 0 (pieces (row_of old) (inside old) ends) lacks ∙ ap (λ xs. xs ++ lacking lacks) (sym (shown_by ends u l)))

  rest_is : between old.floor (last_of (inside old) ends - 1) (row_of old) ≡ between old.floor (last_end (length us) ls - 1) row
  rest_is =
      same_front old.floor (last_of (inside old) ends - 1) (inside old) (row_of old) row (omega (arith, en.within)) (sym same)
      ∙ ap (λ n. between old.floor (n - 1) row) (sym last_is)

  close_is : ca.close ≡ seen old.arena y
  close_is = sym (ca.at (seen old.arena y)) ∙ (seen_get old.arena old.row.tokens.items (last_of (inside old) ends - 1) y ∙ ap (seen old.arena) (sym yi))

  hides_is : (λ (n : ℕ). (n == place) || (hides old.arena t.hides n && ca.close.hides n)) ≡ hides sets set
  hides_is = fun_ext (λ n. ap (λ (c : Shaded). (n == place) || (hides old.arena t.hides n && c.hides n)) close_is ∙ sym (s n))

  outer_is : outer_of ms old ≡ pendings ms sets row old.floor (reverse old.frames.items)
  outer_is = sym (pendings_same ms old.arena sets x (length ms) (row_of old) row old.floor (reverse old.frames.items) w.frames
      (same_take old.floor (inside old) (row_of old) row (omega (arith, en.above, en.within)) (sym same)))

  make : (ℕ → Bool) → List (List Shaded) → List Shaded → List (List Shaded) → List Shaded → Pending
  make g written rest left out = record {
    insertion = record { parts = parts_of (slice_get ms place); spaced = t.spaced; hides = g; written = written };
    rest = rest;
    outs = [];
    left = left;
    out = out;
  }

  state_is : Between (record { insertion = call_of; rest = between old.floor (last_of (inside old) ends - 1) (row_of old); outs = []; left = shown_of; out = seen_all old.arena old.done.items }) (outer_of ms old)
      ≡ Between begun (pendings ms sets row old.floor (reverse old.frames.items))
  unfolding begun call_of make
  state_is =
      let g = λ (n : ℕ). (n == place) || (hides old.arena t.hides n && ca.close.hides n) in
      let wr = only (λ i. is_raw i (parts_of (slice_get ms place))) 0 (written_at old ends lacks) in
      let r = between old.floor (last_of (inside old) ends - 1) (row_of old) in
      let o = seen_all old.arena old.done.items in
      let f = seen_same old.arena sets x old.done.items w.done in
      ap (λ g. Between (make g wr r shown_of o) (outer_of ms old)) hides_is
      ∙ (ap (λ xs. Between (make (hides sets set) xs r shown_of o) (outer_of ms old)) written_is
      ∙ (ap (λ xs. Between (make (hides sets set) (left_raws sets ls ++ lacking lacks) xs shown_of o) (outer_of ms old)) rest_is
      ∙ (ap (λ xs. Between (make (hides sets set) (left_raws sets ls ++ lacking lacks) (between old.floor (last_end (length us) ls - 1) row) xs o) (outer_of ms old)) shown_is
      ∙ (ap (λ xs. Between (make (hides sets set) (left_raws sets ls ++ lacking lacks) (between old.floor (last_end (length us) ls - 1) row) (left_shown row (length us) ls ++ lacking lacks) xs) (outer_of ms old)) (sym f)
      ∙ ap (λ ps. Between (make (hides sets set) (left_raws sets ls ++ lacking lacks) (between old.floor (last_end (length us) ls - 1) row) (left_shown row (length us) ls ++ lacking lacks) (seen_all sets old.done.items)) ps) outer_is))))

  pub begun_steps : (args : List Argument) → args ≡ [] → Steps ms mode (reading ms old t)
      (Between (pending_by ms sets (seen_all sets us) place t.spaced set args ls lacks [] (length (seen_all sets us)) old.floor (seen_all sets old.done.items)) (pendings ms sets (seen_all sets us) old.floor (reverse old.frames.items))) 0
  unfolding begun row call_of shown_of
  begun_steps args none =
      let st = subst (λ st. Steps ms mode (reading ms old t) st 0) state_is
      (step_calls ms mode (seen old.arena t) (rest_of old) call_of shown_of (between old.floor (last_of (inside old) ends - 1) (row_of old)) ca.is (outer_of ms old) (seen_all old.arena old.done.items)) in
      let make : List Argument → ℕ → State = λ args n. Between (pending_by ms sets (seen_all sets us) place t.spaced set args ls lacks [] n old.floor (seen_all sets old.done.items)) (pendings ms sets (seen_all sets us) old.floor (reverse old.frames.items)) in
      subst (λ (args : List Argument). Steps ms mode (reading ms old t) (make args (length (seen_all sets us))) 0) (sym none)
      (subst (λ n. Steps ms mode (reading ms old t) (make [] n) 0) (sym (length-map us (seen sets))) st)

  pub us_in : (n : ℕ) → AreIn n old.row.tokens.items → AreIn n us
  us_in n a = subst (λ (ts : List WorkToken). AreIn n ts) (sym u) (in_by (some_of ends))
    where
      in_by : (b : Bool) → AreIn n (if b then old.row.tokens.items else take (inside old) old.row.tokens.items)
      in_by true = a
      in_by false = in_take n (inside old) old.row.tokens.items a

pub some_is : (es : List ℕ) → not (length es == 0) ≡ some_of es
some_is [] = refl
some_is (e ∷ es) = grind arith
