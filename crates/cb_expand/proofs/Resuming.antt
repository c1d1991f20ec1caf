-- The steps of the machine over what lies in memory.
use Rattle.std.proofs.Common.{◌≡◌, ℕ, suc, ◌+◌, ◌-◌, ◌≤◌, ◌<◌, Bool, true, false, List, [], ◌∷◌, ◌++◌, length, take, drop, refl, ap, sym, ◌∙◌, subst, arith, length-append, length-take, Some, None}
use Rattle.std.specs.Prelude.{reverse, if◌then◌else◌, slice_get}
use Rattle.std.proofs.lemmas.List.{append-nil, append_assoc, take-take, map-append, take_all, take-append-le, drop-append-le, drop_all, reverse-append, reverse-reverse, length-reverse, length-map}
use Rattle.cb_paste.specs.declared.work_token.WorkToken.{WorkToken}
use Rattle.cb_paste.specs.declared.argument.Argument.{Argument}
use Rattle.cb_paste.specs.Shades.{Shaded, seen, AreIn}
use Rattle.cb_paste.specs.Sets.{hides}
use Rattle.cb_paste.specs.Puts.{AreArgumentsIn}
use Rattle.cb_expand.specs.declared.mode.Mode.{Mode}
use Rattle.cb_expand.specs.declared.work.Left.{Left}
use Rattle.cb_expand.specs.declared.work.Call.{Call}
use Rattle.cb_expand.specs.declared.work.Frame.{Frame}
use Rattle.cb_expand.specs.declared.work.Work.{Work}
use Rattle.std.proofs.Common.{Result, Err}
use Rattle.cb_expand.specs.declared.fault.ExpandFault.{ExpandFault}
use Rattle.cb_expand.specs.declared.fault.ExpandFault.TheVariants.{TooLong}
use Rattle.cb_expand.specs.Heads.{Named, put}
use Rattle.cb_expand.specs.inner.Machine.{Pending, At, Between, with_out, with_left, Steps}
use Rattle.cb_expand.specs.inner.Rows.{between}
use Rattle.cb_expand.specs.inner.Works.{seen_all, raws, became, left_raws, left_shown, lacking, pending_by, pending, pendings, row_of, outer_of, state_of, insertion_of, put_of, parts_of, AreLeft, IsCall, AreFrames, IsWork, Goes, Exceeds, weight, Added, IsReplaceable, resumed}
use Rattle.cb_expand.proofs.Stepping.{step_none, step_more, step_next, step_argument, step_put, costs}
use Rattle.cb_expand.proofs.Heights.{map-take}
use Rattle.cb_expand.proofs.Alike.{seen_same, pending_same, pendings_same, extends_none, in_more, frames_more, extends_length, same_take, last_within}

pub between_none : {T : Type 0} (low high : ℕ) (ts : List T) → high ≤ low → between low high ts ≡ []
between_none low high ts h = ap reverse (drop_all low (take high ts) (omega (arith, length-take high ts)))

-- what stands below what was added
pub between_added : {T : Type 0} (low : ℕ) (ss xs : List T) → low ≤ length ss
    → between low (length (ss ++ reverse xs)) (ss ++ reverse xs) ≡ xs ++ between low (length ss) ss
between_added low ss xs h =
    let a : take (length (ss ++ reverse xs)) (ss ++ reverse xs) ≡ ss ++ reverse xs = take_all (length (ss ++ reverse xs)) (ss ++ reverse xs) (omega arith) in
    let b : take (length ss) ss ≡ ss = take_all (length ss) ss (omega arith) in
    ap (λ ys. reverse (drop low ys)) a
    ∙ (ap reverse (drop-append-le low ss (reverse xs) h)
    ∙ (reverse-append (drop low ss) (reverse xs)
    ∙ (ap (λ ys. ys ++ reverse (drop low ss)) (reverse-reverse xs) ∙ ap (λ ys. xs ++ reverse (drop low ys)) (sym b))))

pub length_row : (w : Work) → length (row_of w) ≡ length w.row.tokens.items
length_row w = length-map w.row.tokens.items (seen w.arena)

pub length_pendings : (ms : Named) (sets : List (List ℕ)) (ss : List Shaded) (from : ℕ) (fs : List Frame) → length (pendings ms sets ss from fs) ≡ length fs
length_pendings ms sets ss from [] = refl
length_pendings ms sets ss from (f ∷ fs) = ap suc (length_pendings ms sets ss f.floor fs)

pub length_outer : (ms : Named) (w : Work) → length (outer_of ms w) ≡ length w.frames.items
length_outer ms w = length_pendings ms w.arena (row_of w) w.floor (reverse w.frames.items) ∙ length-reverse w.frames.items

-- the state behind what was added
module _ (ms : Named) (old new : Work) (added : List Shaded) (a : Added old new added) where
  pub added_state : (macros : ℕ) → old.floor ≤ length (row_of old) → AreIn (length old.arena) old.done.items → AreFrames macros (length old.arena) old.floor (reverse old.frames.items)
      → state_of ms new None ≡ At (outer_of ms old) (added ++ between old.floor (length (row_of old)) (row_of old)) (seen_all old.arena old.done.items)
  unfolding state_of
  added_state macros h d f =
      let front : take old.floor (row_of old) ≡ take old.floor (row_of new) = sym (ap (take old.floor) a.row ∙ take-append-le old.floor (row_of old) (reverse added) h) in
      let p : outer_of ms new ≡ outer_of ms old =
      ap (λ n. pendings ms new.arena (row_of new) n (reverse new.frames.items)) a.floor
      ∙ (ap (λ v. pendings ms new.arena (row_of new) old.floor (reverse v.items)) a.frames
      ∙ pendings_same ms old.arena new.arena a.arena macros (row_of old) (row_of new) old.floor (reverse old.frames.items) f front) in
      let r : between new.floor (length (row_of new)) (row_of new) ≡ added ++ between old.floor (length (row_of old)) (row_of old) =
      ap (λ n. between n (length (row_of new)) (row_of new)) a.floor
      ∙ (ap (λ ss. between old.floor (length ss) ss) a.row ∙ between_added old.floor (row_of old) added h) in
      let o : seen_all new.arena new.done.items ≡ seen_all old.arena old.done.items =
      ap (λ v. seen_all new.arena v.items) a.done ∙ seen_same old.arena new.arena a.arena old.done.items d in
      ap (λ ps. At ps (between new.floor (length (row_of new)) (row_of new)) (seen_all new.arena new.done.items)) p
      ∙ (ap (λ xs. At (outer_of ms old) xs (seen_all new.arena new.done.items)) r
      ∙ ap (λ xs. At (outer_of ms old) (added ++ between old.floor (length (row_of old)) (row_of old)) xs) o)

  pub added_length : length new.row.tokens.items ≡ length old.row.tokens.items + length added
  added_length = omega (arith, length_row new, length_row old, ap length a.row, length-append (row_of old) (reverse added), length-reverse added)

  pub added_kept : (macros : ℕ) → old.floor ≤ length (row_of old) → AreIn (length old.arena) old.done.items → AreFrames macros (length old.arena) old.floor (reverse old.frames.items)
      → IsWork macros new None
  added_kept macros h d f =
      let n = extends_length old.arena new.arena a.arena in
      record {
        row = a.kept;
        tokens = a.tokens;
        done = subst (λ v. AreIn (length new.arena) v.items) (sym a.done) (in_more (length old.arena) (length new.arena) n old.done.items d);
        floor = omega (arith, a.floor, added_length, length_row old);
        frames = subst (λ v. AreFrames macros (length new.arena) new.floor (reverse v.items)) (sym a.frames)
            (subst (λ i. AreFrames macros (length new.arena) i (reverse old.frames.items)) (sym a.floor) (frames_more (length old.arena) (length new.arena) n macros old.floor (reverse old.frames.items) f));
        call = a.limit;
      }

  pub added_weight : weight new + 2 ≤ weight old
  added_weight = omega (arith, added_length, a.used, a.limit, ap (λ v. length v.items) a.frames)

-- an argument that lacks is empty
lacks_step : (ms : Named) (mode : Mode) (lacks : Bool) (p : Pending) (ps : List Pending)
    → Steps ms mode (Between (with_left p (lacking lacks)) ps) (Between (with_left (record p { outs = p.outs ++ lacking lacks }) []) ps) 0
lacks_step ms mode true p ps =
    step_more ms mode _ _ _ 0 0 (step_next ms mode p ps [] []) (step_argument ms mode (with_left p []) ps [])
lacks_step ms mode false p ps =
    subst (λ os. Steps ms mode (Between (with_left p []) ps) (Between (with_left (record p { outs = os }) []) ps) 0) (sym (append-nil p.outs)) (step_none ms mode _)

pub arguments_append : (count : ℕ) (args more : List Argument) → AreArgumentsIn count args → AreArgumentsIn count more → AreArgumentsIn count (args ++ more)
arguments_append count [] more a b = b
arguments_append count (x ∷ args) more a b = (a.0, a.1, arguments_append count args more a.2 b)

-- a call whose arguments are all ready is replaced
module _ (ms : Named) (mode : Mode) (w : Work) (c : Call) (all : List Argument)
    (left : c.left.items ≡ []) (e : raws w.arena all ≡ raws w.arena c.arguments.items ++ lacking c.lacks_rest)
    (f : became w.arena all ≡ became w.arena c.arguments.items ++ lacking c.lacks_rest) where
  bare : Pending
  bare = pending_by ms w.arena (row_of w) c.place c.spaced c.hides c.arguments.items [] c.lacks_rest [] (length (row_of w) + 1) w.floor (seen_all w.arena w.done.items)

  ready : Pending
  ready = record (with_left bare []) { outs = became w.arena c.arguments.items ++ lacking c.lacks_rest }

  bare_is : resumed ms w c ≡ bare
  unfolding bare
  bare_is = ap (λ ls. pending_by ms w.arena (row_of w) c.place c.spaced c.hides c.arguments.items (reverse ls) c.lacks_rest [] (length (row_of w) + 1) w.floor (seen_all w.arena w.done.items)) left

  to_ready : Steps ms mode (Between (resumed ms w c) (outer_of ms w)) (Between ready (outer_of ms w)) 0
  unfolding bare ready
  to_ready = subst (λ p. Steps ms mode (Between p (outer_of ms w)) (Between ready (outer_of ms w)) 0) (sym bare_is) (lacks_step ms mode c.lacks_rest bare (outer_of ms w))

  added : List Shaded
  added = put_of ms w.arena c.place c.spaced c.hides all

  put_is_added : put ready.insertion ready.outs ≡ added
  unfolding bare ready added
  put_is_added =
      ap (λ xs. put (record { parts = parts_of (slice_get ms c.place); spaced = c.spaced; hides = hides w.arena c.hides; written = xs }) (became w.arena c.arguments.items ++ lacking c.lacks_rest)) (sym e)
      ∙ ap (λ xs. put (insertion_of ms w.arena c.place c.spaced c.hides all) xs) (sym f)

  rest_is : ready.rest ≡ between w.floor (length (row_of w)) (row_of w)
  unfolding bare ready
  rest_is = let n : length (row_of w) + 1 - 1 ≡ length (row_of w) = omega arith in ap (λ n. between w.floor n (row_of w)) n

  pub to_added : Steps ms mode (Between (resumed ms w c) (outer_of ms w))
      (At (outer_of ms w) (put_of ms w.arena c.place c.spaced c.hides all ++ between w.floor (length (row_of w)) (row_of w)) (seen_all w.arena w.done.items))
      (1 + length (put_of ms w.arena c.place c.spaced c.hides all))
  unfolding bare ready added
  to_added =
      let s = step_more ms mode _ _ _ 0 (1 + length (put ready.insertion ready.outs)) to_ready (step_put ms mode ready (outer_of ms w)) in
      let n : 0 + (1 + length (put ready.insertion ready.outs)) ≡ 1 + length added = omega (arith, ap length put_is_added) in
      let x : put ready.insertion ready.outs ++ ready.rest ≡ added ++ between w.floor (length (row_of w)) (row_of w) =
      ap (λ xs. xs ++ ready.rest) put_is_added ∙ ap (λ xs. added ++ xs) rest_is in
      subst (λ k. Steps ms mode (Between (resumed ms w c) (outer_of ms w)) (At (outer_of ms w) (added ++ between w.floor (length (row_of w)) (row_of w)) (seen_all w.arena w.done.items)) k) n
      (subst (λ xs. Steps ms mode (Between (resumed ms w c) (outer_of ms w)) (At (outer_of ms w) xs (seen_all w.arena w.done.items)) (0 + (1 + length (put ready.insertion ready.outs)))) x s)

  -- it costs too much where so much is put in
  pub too_long : 65536 < w.used + length w.frames.items + (1 + length (put_of ms w.arena c.place c.spaced c.hides all))
      → Exceeds ms mode (Between (resumed ms w c) (outer_of ms w)) w.used
  too_long h final n x =
      let r = to_added.forth final n x in
      omega (arith, r.2, costs ms mode r.1, length_outer ms w)

  pub replaced_goes : (new : Work) → Added w new (put_of ms w.arena c.place c.spaced c.hides all) → (macros : ℕ) → IsReplaceable macros w c
      → Goes ms mode (Between (resumed ms w c) (outer_of ms w)) w.used (state_of ms new None) new.used
  replaced_goes new a macros h =
      let n : w.floor ≤ length (row_of w) = omega (arith, length_row w, h.floor) in
      record {
        cost = 1 + length (put_of ms w.arena c.place c.spaced c.hides all);
        steps = subst (λ s. Steps ms mode (Between (resumed ms w c) (outer_of ms w)) s (1 + length (put_of ms w.arena c.place c.spaced c.hides all)))
            (sym (added_state ms w new (put_of ms w.arena c.place c.spaced c.hides all) a macros n h.done h.frames)) to_added;
        sum = a.used;
      }

-- one more argument is ready
pub pending_ready : (ms : Named) (sets : List (List ℕ)) (ss : List Shaded) (place : ℕ) (spaced : Bool) (extra : ℕ) (args : List Argument) (a : Argument) (left : List Left) (lacks : Bool) (from floor : ℕ) (out : List Shaded)
    → pending_by ms sets ss place spaced extra (args ++ a ∷ []) left lacks [] from floor out
    ≡ with_out (pending_by ms sets ss place spaced extra args left lacks (seen_all sets a.raw.items ∷ []) from floor out) (seen_all sets a.expanded.items)
pending_ready ms sets ss place spaced extra args a left lacks from floor out =
    let others = left_raws sets left ++ lacking lacks in
    let x : raws sets (args ++ a ∷ []) ++ others ≡ raws sets args ++ (seen_all sets a.raw.items ∷ others) =
    ap (λ xs. xs ++ others) (map-append (λ (a : Argument). seen_all sets a.raw.items) args (a ∷ [])) ∙ append_assoc (raws sets args) (seen_all sets a.raw.items ∷ []) others in
    let y : became sets (args ++ a ∷ []) ≡ became sets args ++ seen_all sets a.expanded.items ∷ [] = map-append (λ (a : Argument). seen_all sets a.expanded.items) args (a ∷ []) in
    let make : List (List Shaded) → List (List Shaded) → Pending =
    λ written outs. record (pending_by ms sets ss place spaced extra args left lacks [] from floor out) { insertion = record { parts = parts_of (slice_get ms place); spaced = spaced; hides = hides sets extra; written = written }; outs = outs } in
    ap (λ xs. make xs (became sets (args ++ a ∷ []))) x ∙ ap (λ ys. make (raws sets args ++ (seen_all sets a.raw.items ∷ others)) ys) y

-- a list has ended
module _ (ms : Named) (mode : Mode) (sets : List (List ℕ)) (ss : List Shaded) (floor n : ℕ) (fs : List Frame) (f : Frame) (more : List Frame) (args : List Argument) (a : Argument) (out out' : List Shaded)
    (at_end : n ≤ floor) (same : floor ≡ n) (e : fs ≡ more ++ f ∷ []) (r : args ≡ f.call.arguments.items ++ a ∷ []) (raw_is : a.raw.items ≡ f.raw.items) (o : seen_all sets a.expanded.items ≡ out) (p : out' ≡ seen_all sets f.done.items) where
  pub ended_steps : Steps ms mode (At (pendings ms sets ss floor (reverse fs)) (between floor n ss) out)
      (Between (pending_by ms sets ss f.call.place f.call.spaced f.call.hides args (reverse f.call.left.items) f.call.lacks_rest [] n f.floor out') (pendings ms sets ss f.floor (reverse more))) 0
  ended_steps =
      let frames : reverse fs ≡ f ∷ reverse more = ap reverse e ∙ reverse-append more (f ∷ []) in
      let before : At (pendings ms sets ss floor (reverse fs)) (between floor n ss) out ≡ At (pendings ms sets ss floor (f ∷ reverse more)) [] out =
      ap (λ xs. At (pendings ms sets ss floor xs) (between floor n ss) out) frames ∙ ap (λ xs. At (pendings ms sets ss floor (f ∷ reverse more)) xs out) (between_none floor n ss at_end) in
      let inner : Pending = pending ms sets ss f.call (seen_all sets f.raw.items ∷ []) floor f.floor (seen_all sets f.done.items) in
      let made : List Argument → ℕ → List Shaded → Pending = λ args n out. pending_by ms sets ss f.call.place f.call.spaced f.call.hides args (reverse f.call.left.items) f.call.lacks_rest [] n f.floor out in
      let behind : made args n out' ≡ with_out inner out =
      ap (λ xs. made xs n out') r ∙ (ap (λ k. made (f.call.arguments.items ++ a ∷ []) k out') (sym same) ∙ (ap (λ xs. made (f.call.arguments.items ++ a ∷ []) floor xs) p
      ∙ (pending_ready ms sets ss f.call.place f.call.spaced f.call.hides f.call.arguments.items a (reverse f.call.left.items) f.call.lacks_rest floor f.floor (seen_all sets f.done.items)
      ∙ (ap (λ x. with_out (pending ms sets ss f.call (seen_all sets x ∷ []) floor f.floor (seen_all sets f.done.items)) (seen_all sets a.expanded.items)) raw_is
      ∙ ap (λ x. with_out inner x) o)))) in
      subst (λ s. Steps ms mode s (Between (made args n out') (pendings ms sets ss f.floor (reverse more))) 0) (sym before)
      (subst (λ q. Steps ms mode (At (inner ∷ pendings ms sets ss f.floor (reverse more)) [] out) (Between q (pendings ms sets ss f.floor (reverse more))) 0) (sym behind)
      (step_argument ms mode inner (pendings ms sets ss f.floor (reverse more)) out))

pub frames_pop : (macros count from : ℕ) (fs more : List Frame) (f : Frame) → fs ≡ more ++ f ∷ [] → AreFrames macros count from (reverse fs)
    → IsCall macros count from f.floor f.call × AreIn count f.raw.items × AreIn count f.done.items × AreFrames macros count f.floor (reverse more)
frames_pop macros count from fs more f e h =
    subst (λ xs. AreFrames macros count from xs) (ap reverse e ∙ reverse-append more (f ∷ [])) h

-- the separator on top is taken away
module _ (ms : Named) (w : Work) (c : Call) (macros : ℕ) (h : IsWork macros w (Some c)) (ss : List Shaded) (lefts : List Left)
    (e : ss ≡ take (length (row_of w) - 1) (row_of w)) (l : c.left.items ≡ lefts) where
  pub popped : state_of ms w (Some c)
      ≡ Between (pending_by ms w.arena ss c.place c.spaced c.hides c.arguments.items (reverse lefts) c.lacks_rest [] (length (row_of w)) w.floor (seen_all w.arena w.done.items))
      (pendings ms w.arena ss w.floor (reverse w.frames.items))
  unfolding state_of
  popped =
      let n = length (row_of w) in
      let k = length_row w in
      let call : IsCall macros (length w.arena) n w.floor c = subst (λ n. IsCall macros (length w.arena) n w.floor c) (sym k) h.call.0 in
      let below = last_within (length w.arena) n w.floor (reverse c.left.items) call.left in
      let t : take (n - 1) ss ≡ take (n - 1) (row_of w) = ap (take (n - 1)) e ∙ take-take (n - 1) (n - 1) (row_of w) (omega arith) in
      let a = pending_same ms w.arena w.arena (extends_none w.arena) macros ss (row_of w) c [] n w.floor (seen_all w.arena w.done.items) call t in
      let b = pendings_same ms w.arena w.arena (extends_none w.arena) macros ss (row_of w) w.floor (reverse w.frames.items) h.frames (same_take w.floor (n - 1) ss (row_of w) (omega (arith, below.0, below.1)) t) in
      let d = ap (λ ls. pending_by ms w.arena ss c.place c.spaced c.hides c.arguments.items (reverse ls) c.lacks_rest [] n w.floor (seen_all w.arena w.done.items)) l in
      ap (λ p. Between p (outer_of ms w)) (a ∙ d)
      ∙ ap (λ ps. Between (pending_by ms w.arena ss c.place c.spaced c.hides c.arguments.items (reverse lefts) c.lacks_rest [] n w.floor (seen_all w.arena w.done.items)) ps) b

-- the next argument is taken
module _ (ms : Named) (mode : Mode) (sets : List (List ℕ)) (ss : List Shaded) (place : ℕ) (spaced : Bool) (extra : ℕ) (args : List Argument) (l : Left) (ls : List Left) (lacks : Bool) (from floor : ℕ) (out : List Shaded) (ps : List Pending) where
  offered : Pending
  offered = pending_by ms sets ss place spaced extra args (l ∷ ls) lacks [] from floor out

  pub entered_steps : l.is_shown ≡ true
      → Steps ms mode (Between (pending_by ms sets ss place spaced extra args (l ∷ ls) lacks [] from floor out) ps)
      (At (pending_by ms sets ss place spaced extra args ls lacks (seen_all sets l.raw.items ∷ []) l.end floor out ∷ ps) (between l.end (from - 1) ss) []) 0
  unfolding offered
  entered_steps e =
      let more = left_shown ss l.end ls ++ lacking lacks in
      let b : (if l.is_shown then between l.end (from - 1) ss else []) ≡ between l.end (from - 1) ss = ap (λ b. if b then between l.end (from - 1) ss else []) e in
      subst (λ a. Steps ms mode (Between offered ps) (At (with_left offered more ∷ ps) a []) 0) b
      (step_next ms mode offered ps (if l.is_shown then between l.end (from - 1) ss else []) more)

  pub skipped_steps : (a : Argument) → l.is_shown ≡ false → a.raw.items ≡ l.raw.items → a.expanded.items ≡ []
      → Steps ms mode (Between (pending_by ms sets ss place spaced extra args (l ∷ ls) lacks [] from floor out) ps)
      (Between (pending_by ms sets ss place spaced extra (args ++ a ∷ []) ls lacks [] l.end floor out) ps) 0
  unfolding offered
  skipped_steps a e r x =
      let more = left_shown ss l.end ls ++ lacking lacks in
      let b : (if l.is_shown then between l.end (from - 1) ss else []) ≡ [] = ap (λ b. if b then between l.end (from - 1) ss else []) e in
      let s : Steps ms mode (Between offered ps) (At (with_left offered more ∷ ps) [] []) 0 =
      subst (λ a. Steps ms mode (Between offered ps) (At (with_left offered more ∷ ps) a []) 0) b
      (step_next ms mode offered ps (if l.is_shown then between l.end (from - 1) ss else []) more) in
      let t = step_more ms mode _ _ _ 0 0 s (step_argument ms mode (with_left offered more) ps []) in
      let made : List WorkToken → Pending = λ raw. pending_by ms sets ss place spaced extra args ls lacks (seen_all sets raw ∷ []) l.end floor out in
      let q : pending_by ms sets ss place spaced extra (args ++ a ∷ []) ls lacks [] l.end floor out ≡ with_out (with_left offered more) [] =
      pending_ready ms sets ss place spaced extra args a ls lacks l.end floor out
      ∙ (ap (λ xs. with_out (made xs) (seen_all sets a.expanded.items)) r ∙ ap (λ xs. with_out (made l.raw.items) (seen_all sets xs)) x) in
      subst (λ p. Steps ms mode (Between offered ps) (Between p ps) 0) (sym q) t

pub row_taken : (sets : List (List ℕ)) (ts us : List WorkToken) (n : ℕ) → us ≡ take n ts → n ≡ length ts - 1
    → seen_all sets us ≡ take (length (seen_all sets ts) - 1) (seen_all sets ts)
row_taken sets ts us n e h =
    let k : n ≡ length (seen_all sets ts) - 1 = omega (arith, length-map ts (seen sets)) in
    ap (seen_all sets) e ∙ (map-take (seen sets) n ts ∙ ap (λ i. take i (seen_all sets ts)) k)

-- the heights of what is left
pub left_below : (count from floor : ℕ) (l : Left) (lefts ls : List Left) → lefts ≡ ls ++ l ∷ [] → AreLeft count from floor (reverse lefts)
    → (l.end < from) × AreIn count l.raw.items × AreLeft count l.end floor (reverse ls)
left_below count from floor l lefts ls e h = subst (λ xs. AreLeft count from floor xs) (ap reverse e ∙ reverse-append ls (l ∷ [])) h

module _ (ms : Named) (mode : Mode) (w : Work) (c : Call) (macros : ℕ) (h : IsWork macros w (Some c)) (ss : List Shaded) (l : Left) (ls : List Left)
    (e : ss ≡ take (length (row_of w) - 1) (row_of w)) (lefts : c.left.items ≡ ls ++ l ∷ []) where
  taken : state_of ms w (Some c)
      ≡ Between (pending_by ms w.arena ss c.place c.spaced c.hides c.arguments.items (l ∷ reverse ls) c.lacks_rest [] (length (row_of w)) w.floor (seen_all w.arena w.done.items))
      (pendings ms w.arena ss w.floor (reverse w.frames.items))
  taken =
      popped ms w c macros h ss (ls ++ l ∷ []) e lefts
      ∙ ap (λ xs. Between (pending_by ms w.arena ss c.place c.spaced c.hides c.arguments.items xs c.lacks_rest [] (length (row_of w)) w.floor (seen_all w.arena w.done.items))
      (pendings ms w.arena ss w.floor (reverse w.frames.items))) (reverse-append ls (l ∷ []))

  pub enter_all : (f : Frame) (fs : List Frame) (out : List Shaded) → l.is_shown ≡ true → fs ≡ w.frames.items ++ f ∷ [] → f.floor ≡ w.floor → out ≡ []
      → pending ms w.arena ss f.call (seen_all w.arena f.raw.items ∷ []) l.end f.floor (seen_all w.arena f.done.items)
      ≡ pending_by ms w.arena ss c.place c.spaced c.hides c.arguments.items (reverse ls) c.lacks_rest (seen_all w.arena l.raw.items ∷ []) l.end w.floor (seen_all w.arena w.done.items)
      → Steps ms mode (state_of ms w (Some c)) (At (pendings ms w.arena ss l.end (reverse fs)) (between l.end (length ss) ss) out) 0
  enter_all f fs out shown pushed same none p =
      let made = pending_by ms w.arena ss c.place c.spaced c.hides c.arguments.items (reverse ls) c.lacks_rest (seen_all w.arena l.raw.items ∷ []) l.end w.floor (seen_all w.arena w.done.items) in
      let s = entered_steps ms mode w.arena ss c.place c.spaced c.hides c.arguments.items l (reverse ls) c.lacks_rest (length (row_of w)) w.floor (seen_all w.arena w.done.items) (pendings ms w.arena ss w.floor (reverse w.frames.items)) shown in
      let n : length (row_of w) - 1 ≡ length ss = omega (arith, ap length e, length-take (length (row_of w) - 1) (row_of w)) in
      let q : made ∷ pendings ms w.arena ss w.floor (reverse w.frames.items) ≡ pendings ms w.arena ss l.end (reverse fs) =
      ap (λ x. x ∷ pendings ms w.arena ss w.floor (reverse w.frames.items)) (sym p)
      ∙ (ap (λ i. pending ms w.arena ss f.call (seen_all w.arena f.raw.items ∷ []) l.end f.floor (seen_all w.arena f.done.items) ∷ pendings ms w.arena ss i (reverse w.frames.items)) (sym same)
      ∙ ap (λ xs. pendings ms w.arena ss l.end xs) (sym (ap reverse pushed ∙ reverse-append w.frames.items (f ∷ [])))) in
      let t : At (made ∷ pendings ms w.arena ss w.floor (reverse w.frames.items)) (between l.end (length (row_of w) - 1) ss) [] ≡ At (pendings ms w.arena ss l.end (reverse fs)) (between l.end (length ss) ss) out =
      ap (λ ps. At ps (between l.end (length (row_of w) - 1) ss) []) q
      ∙ (ap (λ i. At (pendings ms w.arena ss l.end (reverse fs)) (between l.end i ss) []) n ∙ ap (λ x. At (pendings ms w.arena ss l.end (reverse fs)) (between l.end (length ss) ss) x) (sym none)) in
      subst (λ x. Steps ms mode x (At (pendings ms w.arena ss l.end (reverse fs)) (between l.end (length ss) ss) out) 0) (sym taken)
      (subst (λ x. Steps ms mode (Between (pending_by ms w.arena ss c.place c.spaced c.hides c.arguments.items (l ∷ reverse ls) c.lacks_rest [] (length (row_of w)) w.floor (seen_all w.arena w.done.items))
      (pendings ms w.arena ss w.floor (reverse w.frames.items))) x 0) t s)

  pub skip_all : (d : Call) (a : Argument) (us : List Shaded) → l.is_shown ≡ false → a.raw.items ≡ l.raw.items → a.expanded.items ≡ [] → us ≡ take l.end ss → l.end ≤ length ss
      → IsCall macros (length w.arena) l.end w.floor d
      → pending ms w.arena ss d [] l.end w.floor (seen_all w.arena w.done.items)
      ≡ pending_by ms w.arena ss c.place c.spaced c.hides (c.arguments.items ++ a ∷ []) (reverse ls) c.lacks_rest [] l.end w.floor (seen_all w.arena w.done.items)
      → Steps ms mode (state_of ms w (Some c))
      (Between (pending ms w.arena us d [] (length us) w.floor (seen_all w.arena w.done.items)) (pendings ms w.arena us w.floor (reverse w.frames.items))) 0
  skip_all d a us shown r x u k hd p =
      let s = skipped_steps ms mode w.arena ss c.place c.spaced c.hides c.arguments.items l (reverse ls) c.lacks_rest (length (row_of w)) w.floor (seen_all w.arena w.done.items) (pendings ms w.arena ss w.floor (reverse w.frames.items)) a shown r x in
      let below = last_within (length w.arena) l.end w.floor (reverse d.left.items) hd.left in
      let t : take l.end us ≡ take l.end ss = ap (take l.end) u ∙ take-take l.end l.end ss (omega arith) in
      let n : l.end ≡ length us = omega (arith, ap length u, length-take l.end ss) in
      let q : pending_by ms w.arena ss c.place c.spaced c.hides (c.arguments.items ++ a ∷ []) (reverse ls) c.lacks_rest [] l.end w.floor (seen_all w.arena w.done.items)
      ≡ pending ms w.arena us d [] (length us) w.floor (seen_all w.arena w.done.items) =
      sym p ∙ (pending_same ms w.arena w.arena (extends_none w.arena) macros us ss d [] l.end w.floor (seen_all w.arena w.done.items) hd (same_take (l.end - 1) l.end us ss (omega arith) t)
      ∙ ap (λ i. pending ms w.arena us d [] i w.floor (seen_all w.arena w.done.items)) n) in
      let v = pendings_same ms w.arena w.arena (extends_none w.arena) macros us ss w.floor (reverse w.frames.items) h.frames (same_take w.floor l.end us ss (omega (arith, below.0, below.1)) t) in
      let y = ap (λ x. Between x (pendings ms w.arena ss w.floor (reverse w.frames.items))) q ∙ ap (λ x. Between (pending ms w.arena us d [] (length us) w.floor (seen_all w.arena w.done.items)) x) v in
      subst (λ x. Steps ms mode x (Between (pending ms w.arena us d [] (length us) w.floor (seen_all w.arena w.done.items)) (pendings ms w.arena us w.floor (reverse w.frames.items))) 0) (sym taken)
      (subst (λ x. Steps ms mode (Between (pending_by ms w.arena ss c.place c.spaced c.hides c.arguments.items (l ∷ reverse ls) c.lacks_rest [] (length (row_of w)) w.floor (seen_all w.arena w.done.items))
      (pendings ms w.arena ss w.floor (reverse w.frames.items))) x 0) y s)

pub pushed_length : (xs ys : List Frame) (f : Frame) → ys ≡ xs ++ f ∷ [] → length ys ≡ length xs + 1
pushed_length xs ys f e = ap length e ∙ length-append xs (f ∷ [])

fault_is : {Y : Type 0} (f : ExpandFault) → ◌≡◌ {A = Result Y ExpandFault} (Err f) (Err TooLong) → f ≡ TooLong
fault_is f e = cc

-- a fault that is handed on
pub same_fault : {X Y : Type 0} (r : Result X ExpandFault) (s : Result Y ExpandFault) (e f : ExpandFault) → r ≡ Err e → s ≡ Err f → f ≡ e → s ≡ Err TooLong → r ≡ Err TooLong
same_fault r s e f p q t u =
    let v : f ≡ TooLong = fault_is f (sym q ∙ u) in
    p ∙ ap (λ x. Err x) (sym t ∙ v)
