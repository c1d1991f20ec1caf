-- Steps of reading over what lies in memory.
use Rattle.std.proofs.Common.{Option, ◌≡◌, ℕ, ◌+◌, ◌≤◌, ◌<◌, List, [], ◌∷◌, ◌++◌, length, take, drop, ap, sym, ◌∙◌, subst, arith, None}
use Rattle.std.specs.Prelude.{reverse}
use Rattle.std.proofs.lemmas.List.{map-append, take-take, length-take}
use Rattle.cb_paste.specs.declared.work_token.WorkToken.{WorkToken}
use Rattle.cb_paste.specs.Shades.{Shaded, seen, AreIn}
use Rattle.cb_expand.specs.declared.mode.Mode.{Mode}
use Rattle.cb_expand.specs.declared.work.Frame.{Frame}
use Rattle.std.specs.Prelude.{◌==◌, ◌||◌, slice_get, IsSomeAnd}
use Rattle.cb_macro.specs.Definitions.{all_parameters}
use Rattle.cb_expand.specs.Arguments.{gather}
use Rattle.cb_expand.specs.declared.row.Row.{Row}
use Rattle.cb_expand.specs.declared.work.Call.{Call}
use Rattle.std.proofs.Math.Path.{fun_ext}
use Rattle.cb_paste.specs.Sets.{hides, Extends}
use Rattle.cb_expand.specs.declared.work.Work.{Work}
use Rattle.cb_expand.specs.Heads.{Named, Insertion, Stands, Calls, called, head, put}
use Rattle.cb_expand.specs.inner.Readings.{head_of, rest_of, reading, named_call, inside, Taken, IsOpened}
use Rattle.cb_expand.specs.inner.Machine.{Pending, At, Steps}
use Rattle.cb_expand.specs.inner.Rows.{between, signs, AreEnds}
use Rattle.cb_expand.specs.inner.Works.{seen_all, pendings, AreFrames, parts_of, put_of, row_of, outer_of, state_of, IsWork, Goes, Exceeds}
use Rattle.cb_expand.proofs.Stepping.{step_stands, step_calls, step_more, step_put, costs, costs_between}
use Rattle.cb_expand.proofs.Resuming.{length_outer}
use Rattle.cb_expand.proofs.Alike.{seen_same, pendings_same, extends_none}

-- a token stands, and what is left reaches to a height
pub stood : (ms : Named) (mode : Mode) (sets : List (List ℕ)) (macros floor height : ℕ) (ss us : List Shaded) (fs : List Frame) (t : Shaded) (u : WorkToken) (done all : List WorkToken)
    → floor ≤ height → height ≤ length ss → us ≡ take height ss → all ≡ done ++ u ∷ [] → AreFrames macros (length sets) floor (reverse fs)
    → head ms mode t (between floor (length ss) ss) ≡ Stands (seen sets u) (between floor height ss)
    → Steps ms mode (At (pendings ms sets ss floor (reverse fs)) (t ∷ between floor (length ss) ss) (seen_all sets done))
    (At (pendings ms sets us floor (reverse fs)) (between floor (length us) us) (seen_all sets all)) 0
stood ms mode sets macros floor height ss us fs t u done all a b e d h k =
    let s = step_stands ms mode t (seen sets u) (between floor (length ss) ss) (between floor height ss) k (pendings ms sets ss floor (reverse fs)) (seen_all sets done) in
    let n : height ≡ length us = omega (arith, ap length e, length-take height ss) in
    let x : between floor height ss ≡ between floor (length us) us =
    ap (λ xs. reverse (drop floor xs)) (sym (take-take height height ss (omega arith)) ∙ ap (take height) (sym e)) ∙ ap (λ n. between floor n us) n in
    let f : take floor ss ≡ take floor us = sym (take-take floor height ss a) ∙ ap (take floor) (sym e) in
    let p : pendings ms sets ss floor (reverse fs) ≡ pendings ms sets us floor (reverse fs) =
    sym (pendings_same ms sets sets (extends_none sets) macros ss us floor (reverse fs) h f) in
    let o : seen_all sets done ++ seen sets u ∷ [] ≡ seen_all sets all = sym (ap (seen_all sets) d ∙ map-append (seen sets) done (u ∷ [])) in
    subst (λ st. Steps ms mode (At (pendings ms sets ss floor (reverse fs)) (t ∷ between floor (length ss) ss) (seen_all sets done)) st 0)
    (ap (λ ps. At ps (between floor height ss) (seen_all sets done ++ seen sets u ∷ [])) p
    ∙ (ap (λ xs. At (pendings ms sets us floor (reverse fs)) xs (seen_all sets done ++ seen sets u ∷ [])) x
    ∙ ap (λ xs. At (pendings ms sets us floor (reverse fs)) (between floor (length us) us) xs) o)) s

-- the name of an object-like macro is replaced
module _ (ms : Named) (mode : Mode) (old : Work) (t : WorkToken) (place set : ℕ) (sets : List (List ℕ)) (x : Extends old.arena sets) (h : IsWork (length ms) old None)
    (s : (n : ℕ) → hides sets set n ≡ ((n == place) || hides old.arena t.hides n)) (k : head_of ms mode old t ≡ named_call ms old t place) where
  mid : Work
  mid = record old { arena = sets }

  put_in : List Shaded
  put_in = put_of ms sets place t.spaced set []

  same_row : row_of mid ≡ row_of old
  unfolding mid
  same_row = seen_same old.arena sets x old.row.tokens.items h.tokens

  same_outer : outer_of ms mid ≡ outer_of ms old
  unfolding mid
  same_outer = pendings_same ms old.arena sets x (length ms) (row_of old) (seen_all sets old.row.tokens.items) old.floor (reverse old.frames.items) h.frames (ap (take old.floor) (sym same_row))

  same_put : put (record { parts = parts_of (slice_get ms place); spaced = t.spaced; hides = λ n. (n == place) || hides old.arena t.hides n; written = [] }) [] ≡ put_in
  unfolding put_in
  same_put =
      let f : (λ (n : ℕ). (n == place) || hides old.arena t.hides n) ≡ hides sets set = fun_ext (λ n. sym (s n)) in
      ap (λ g. put (record { parts = parts_of (slice_get ms place); spaced = t.spaced; hides = g; written = [] }) []) f

  pub named_steps : Steps ms mode (reading ms old t)
      (At (outer_of ms (record old { arena = sets })) (put_of ms sets place t.spaced set [] ++ between old.floor (length (row_of (record old { arena = sets }))) (row_of (record old { arena = sets }))) (seen_all sets old.done.items))
      (1 + length (put_of ms sets place t.spaced set []))
  unfolding mid put_in
  named_steps =
      let i : Insertion = record { parts = parts_of (slice_get ms place); spaced = t.spaced; hides = λ n. (n == place) || hides old.arena t.hides n; written = [] } in
      let out = seen_all old.arena old.done.items in
      let p : Pending = record { insertion = i; rest = rest_of old; outs = []; left = []; out = out } in
      let a = step_calls ms mode (seen old.arena t) (rest_of old) i [] (rest_of old) k (outer_of ms old) out in
      let b = step_more ms mode _ _ _ 0 (1 + length (put i [])) a (step_put ms mode p (outer_of ms old)) in
      let n : 0 + (1 + length (put i [])) ≡ 1 + length (put_of ms sets place t.spaced set []) = omega (arith, ap length same_put) in
      let o : seen_all sets old.done.items ≡ out = seen_same old.arena sets x old.done.items h.done in
      let q : At (outer_of ms old) (put i [] ++ rest_of old) out
      ≡ At (outer_of ms mid) (put_of ms sets place t.spaced set [] ++ between old.floor (length (row_of mid)) (row_of mid)) (seen_all sets old.done.items) =
      ap (λ ps. At ps (put i [] ++ rest_of old) out) (sym same_outer)
      ∙ (ap (λ xs. At (outer_of ms mid) (xs ++ rest_of old) out) same_put
      ∙ (ap (λ ss. At (outer_of ms mid) (put_in ++ between old.floor (length ss) ss) out) (sym same_row)
      ∙ ap (λ xs. At (outer_of ms mid) (put_in ++ between old.floor (length (row_of mid)) (row_of mid)) xs) (sym o))) in
      subst (λ n. Steps ms mode (reading ms old t) (At (outer_of ms mid) (put_in ++ between old.floor (length (row_of mid)) (row_of mid)) (seen_all sets old.done.items)) n) n
      (subst (λ st. Steps ms mode (reading ms old t) st (0 + (1 + length (put i [])))) q b)

  pub named_long : 65536 < old.used + length old.frames.items + (1 + length (put_of ms sets place t.spaced set [])) → Exceeds ms mode (reading ms old t) old.used
  named_long l final n e =
      let r = named_steps.forth final n e in
      omega (arith, r.2, costs ms mode r.1, length_outer ms (record old { arena = sets }))

-- a call costs one at least
pub called_long : (ms : Named) (mode : Mode) (old : Work) (t : WorkToken) (i : Insertion) (shown : List (List Shaded)) (rest : List Shaded) → head_of ms mode old t ≡ Calls i shown rest
    → 65536 ≤ old.used + length old.frames.items → Exceeds ms mode (reading ms old t) old.used
called_long ms mode old t i shown rest k l final n e =
    let a = step_calls ms mode (seen old.arena t) (rest_of old) i shown rest k (outer_of ms old) (seen_all old.arena old.done.items) in
    let r = a.forth final n e in
    omega (arith, r.2, costs_between ms mode r.1, length_outer ms old)

-- which ends are kept for a row does not count
module _ (ms : Named) (mode : Mode) (w : Work) (row : Row) (t : WorkToken) (e : row.tokens ≡ w.row.tokens) where
  pub same_work : (macros : ℕ) → AreEnds (signs row.tokens.items) row.ends.items → IsWork macros w None → IsWork macros (record w { row = row }) None
  same_work macros k h = record {
    row = k;
    tokens = subst (λ v. AreIn (length w.arena) v.items) (sym e) h.tokens;
    done = h.done;
    floor = omega (arith, h.floor, ap (λ v. length v.items) e);
    frames = h.frames;
    call = h.call;
  }

  pub same_opened : (place : ℕ) → IsOpened ms w t place (head_of ms mode w t) → IsOpened ms (record w { row = row }) t place (head_of ms mode (record w { row = row }) t)
  same_opened place o = record {
    placed = o.placed;
    some = omega (arith, o.some, ap (λ v. length v.items) e);
    is = subst (λ v. IsSomeAnd (slice_get ms place) (λ x. head_of ms mode (record w { row = record row { tokens = v } }) t
        ≡ called place x.1 (seen w.arena t) (rest_of (record w { row = record row { tokens = v } })) (gather x.1.is_variadic (length (all_parameters x.1)) (between w.floor (inside (record w { row = record row { tokens = v } })) (row_of (record w { row = record row { tokens = v } }))))))
        (sym e) o.is;
  }

  pub same_taken : (new : Work) (behind : Option Call) → Taken ms mode (record w { row = row }) t new behind → Taken ms mode w t new behind
  same_taken new behind a = record {
    goes = subst (λ v. Goes ms mode (reading ms (record w { row = record row { tokens = v } }) t) w.used (state_of ms new behind) new.used) e a.goes;
    kept = a.kept;
    smaller = omega (arith, a.smaller, ap (λ v. length v.items) e);
  }

  pub same_exceeds : Exceeds ms mode (reading ms (record w { row = row }) t) w.used → Exceeds ms mode (reading ms w t) w.used
  same_exceeds x = subst (λ v. Exceeds ms mode (reading ms (record w { row = record row { tokens = v } }) t) w.used) e x
