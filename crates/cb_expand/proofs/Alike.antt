-- What the state is does not change where the arena grows, or where tokens come and go above a call.
use Rattle.std.proofs.Common.{◌≡◌, ℕ, zero, suc, ◌-◌, ◌≤◌, ◌<◌, Bool, List, [], ◌∷◌, ◌++◌, length, take, drop, get_or, refl, ap, sym, ◌∙◌, arith, length-append}
use Rattle.std.specs.Prelude.{reverse, if◌then◌else◌}
use Rattle.std.proofs.lemmas.List.{get_or_append_left, take-take, append-nil}
use Rattle.std.specs.Prelude.{◌==◌}
use Rattle.std.specs.List.{list_any}
use Rattle.cb_paste.specs.declared.work_token.WorkToken.{WorkToken}
use Rattle.cb_paste.specs.declared.argument.Argument.{Argument}
use Rattle.cb_paste.specs.Shades.{Shaded, seen, AreIn}
use Rattle.cb_paste.specs.Sets.{hides, set_at, Extends}
use Rattle.cb_paste.specs.Puts.{AreArgumentsIn}
use Rattle.cb_expand.specs.declared.work.Left.{Left}
use Rattle.cb_expand.specs.declared.work.Call.{Call}
use Rattle.cb_expand.specs.declared.work.Frame.{Frame}
use Rattle.cb_expand.specs.Heads.{Named}
use Rattle.cb_expand.specs.inner.Rows.{between}
use Rattle.cb_expand.specs.inner.Works.{seen_all, raws, became, left_raws, left_shown, last_end, pending, pendings, AreLeft, IsCall, AreFrames}

pub same_front : {T : Type 0} (low high from : ℕ) (ss us : List T) → high ≤ from → take from ss ≡ take from us → between low high ss ≡ between low high us
same_front low high from ss us h e =
    ap (λ xs. reverse (drop low xs)) (sym (take-take high from ss h) ∙ (ap (take high) e ∙ take-take high from us h))

pub same_take : {T : Type 0} (high from : ℕ) (ss us : List T) → high ≤ from → take from ss ≡ take from us → take high ss ≡ take high us
same_take high from ss us h e = sym (take-take high from ss h) ∙ (ap (take high) e ∙ take-take high from us h)

-- more sets
module _ (old new : List (List ℕ)) (e : Extends old new) where
  set_same : (i : ℕ) → i ≤ length old → set_at new i ≡ set_at old i
  set_same zero h = refl
  set_same (suc i) h = ap (λ sets. get_or sets i []) e.is ∙ get_or_append_left old e.more [] i h

  pub hides_same : (i : ℕ) → i ≤ length old → hides new i ≡ hides old i
  unfolding hides
  hides_same i h = ap (λ s. λ (place : ℕ). list_any (λ p. place == p) s) (set_same i h)

  pub seen_same : (ts : List WorkToken) → AreIn (length old) ts → seen_all new ts ≡ seen_all old ts
  seen_same [] h = refl
  seen_same (t ∷ ts) h =
      let a : seen new t ≡ seen old t =
      ap (λ (f : ℕ → Bool). let r : Shaded = record { kind = t.kind; spaced = t.spaced; text = t.text; hides = f } in r) (hides_same t.hides h.0) in
      cc (a, seen_same ts h.1)

  pub raws_same : (args : List Argument) → AreArgumentsIn (length old) args → raws new args ≡ raws old args
  raws_same [] h = refl
  raws_same (a ∷ args) h = cc (seen_same a.raw.items h.0, raws_same args h.2)

  pub became_same : (args : List Argument) → AreArgumentsIn (length old) args → became new args ≡ became old args
  became_same [] h = refl
  became_same (a ∷ args) h = cc (seen_same a.expanded.items h.1, became_same args h.2)

  pub left_raws_same : (from floor : ℕ) (ls : List Left) → AreLeft (length old) from floor ls → left_raws new ls ≡ left_raws old ls
  left_raws_same from floor [] h = refl
  left_raws_same from floor (l ∷ ls) h = cc (seen_same l.raw.items h.1, left_raws_same l.end floor ls h.2)

-- other tokens above
pub left_same : (count from floor : ℕ) (ss us : List Shaded) (ls : List Left) → AreLeft count from floor ls → take (from - 1) ss ≡ take (from - 1) us
    → left_shown ss from ls ≡ left_shown us from ls
left_same count from floor ss us [] h e = refl
left_same count from floor ss us (l ∷ ls) h e =
    let a = same_front l.end (from - 1) (from - 1) ss us (omega arith) e in
    let b = left_same count l.end floor ss us ls h.2 (same_take (l.end - 1) (from - 1) ss us (omega (arith, h.0)) e) in
    ap (λ xs. (if l.is_shown then xs else []) ∷ left_shown ss l.end ls) a ∙ ap (λ xs. (if l.is_shown then between l.end (from - 1) us else []) ∷ xs) b

-- the closing parenthesis stands between
pub last_within : (count from floor : ℕ) (ls : List Left) → AreLeft count from floor ls → (floor < last_end from ls) × (last_end from ls ≤ from)
last_within count from floor [] h = (h, omega arith)
last_within count from floor (l ∷ ls) h =
    let r = last_within count l.end floor ls h.2 in (r.0, omega (arith, r.1, h.0))

module _ (ms : Named) (old new : List (List ℕ)) (e : Extends old new) where
  pub pending_same : (macros : ℕ) (ss us : List Shaded) (c : Call) (current : List (List Shaded)) (from floor : ℕ) (out : List Shaded)
      → IsCall macros (length old) from floor c → take (from - 1) ss ≡ take (from - 1) us
      → pending ms new us c current from floor out ≡ pending ms old ss c current from floor out
  pending_same macros ss us c current from floor out h t =
      let a = hides_same old new e c.hides h.hides in
      let b = raws_same old new e c.arguments.items h.arguments in
      let d = became_same old new e c.arguments.items h.arguments in
      let f = left_raws_same old new e from floor (reverse c.left.items) h.left in
      let g = sym (left_same (length old) from floor ss us (reverse c.left.items) h.left t) in
      let i = sym (same_front floor (last_end from (reverse c.left.items) - 1) (from - 1) ss us (omega (arith, (last_within (length old) from floor (reverse c.left.items) h.left).1)) t) in
      cc

  pub pendings_same : (macros : ℕ) (ss us : List Shaded) (from : ℕ) (fs : List Frame) → AreFrames macros (length old) from fs → take from ss ≡ take from us
      → pendings ms new us from fs ≡ pendings ms old ss from fs
  pendings_same macros ss us from [] h t = refl
  pendings_same macros ss us from (f ∷ fs) h t =
      let below = last_within (length old) from f.floor (reverse f.call.left.items) h.0.left in
      let a = seen_same old new e f.raw.items h.1 in
      let b = seen_same old new e f.done.items h.2 in
      let c = pending_same macros ss us f.call (seen_all old f.raw.items ∷ []) from f.floor (seen_all old f.done.items) h.0 (same_take (from - 1) from ss us (omega arith) t) in
      let d = pendings_same macros ss us f.floor fs h.3 (same_take f.floor from ss us (omega (arith, below.0, below.1)) t) in
      let x = ap (λ r. pending ms new us f.call (r ∷ []) from f.floor (seen_all new f.done.items)) a in
      let y = ap (λ r. pending ms new us f.call (seen_all old f.raw.items ∷ []) from f.floor r) b in
      ap (λ r. r ∷ pendings ms new us f.floor fs) (x ∙ (y ∙ c)) ∙ ap (λ r. pending ms old ss f.call (seen_all old f.raw.items ∷ []) from f.floor (seen_all old f.done.items) ∷ r) d

-- nothing more
pub extends_none : (sets : List (List ℕ)) → Extends sets sets
extends_none sets = record { more = []; is = sym (append-nil sets) }

-- what stands in an arena stands in a larger one
module _ (m n : ℕ) (h : m ≤ n) where
  pub in_more : (ts : List WorkToken) → AreIn m ts → AreIn n ts
  in_more [] a = tt
  in_more (t ∷ ts) a = (omega (arith, a.0), in_more ts a.1)

  pub arguments_more : (args : List Argument) → AreArgumentsIn m args → AreArgumentsIn n args
  arguments_more [] a = tt
  arguments_more (x ∷ args) a = (in_more x.raw.items a.0, in_more x.expanded.items a.1, arguments_more args a.2)

  pub left_more : (from floor : ℕ) (ls : List Left) → AreLeft m from floor ls → AreLeft n from floor ls
  left_more from floor [] a = a
  left_more from floor (l ∷ ls) a = (a.0, in_more l.raw.items a.1, left_more l.end floor ls a.2)

  pub call_more : (macros from floor : ℕ) (c : Call) → IsCall macros m from floor c → IsCall macros n from floor c
  call_more macros from floor c a = record {
    place = a.place;
    hides = omega (arith, a.hides);
    arguments = arguments_more c.arguments.items a.arguments;
    left = left_more from floor (reverse c.left.items) a.left;
  }

  pub frames_more : (macros from : ℕ) (fs : List Frame) → AreFrames macros m from fs → AreFrames macros n from fs
  frames_more macros from [] a = a
  frames_more macros from (f ∷ fs) a =
      (call_more macros from f.floor f.call a.0, in_more f.raw.items a.1, in_more f.done.items a.2, frames_more macros f.floor fs a.3)

pub extends_length : (old new : List (List ℕ)) → Extends old new → length old ≤ length new
extends_length old new e = omega (arith, ap length e.is, length-append old e.more)

-- the tokens of two lists
pub in_append : (n : ℕ) (ts us : List WorkToken) → AreIn n ts → AreIn n us → AreIn n (ts ++ us)
in_append n [] us a b = b
in_append n (t ∷ ts) us a b = (a.0, in_append n ts us a.1 b)

pub in_front : (n : ℕ) (ts us : List WorkToken) → AreIn n (ts ++ us) → AreIn n ts
in_front n [] us a = tt
in_front n (t ∷ ts) us a = (a.0, in_front n ts us a.1)

pub in_back : (n : ℕ) (ts us : List WorkToken) → AreIn n (ts ++ us) → AreIn n us
in_back n [] us a = a
in_back n (t ∷ ts) us a = in_back n ts us a.1

pub in_take : (n i : ℕ) (ts : List WorkToken) → AreIn n ts → AreIn n (take i ts)
in_take n zero ts a = tt
in_take n (suc i) [] a = tt
in_take n (suc i) (t ∷ ts) a = (a.0, in_take n i ts a.1)
