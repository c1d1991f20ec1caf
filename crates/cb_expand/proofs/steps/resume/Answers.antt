use Rattle.std.proofs.Common.{◌≡◌, ◌+◌, ◌-◌, List, ◌∷◌, [], length, take, ap, sym, ◌∙◌, subst, arith, rules, None, Some, refl}
use Rattle.std.specs.Prelude.{reverse}
use Rattle.std.proofs.lemmas.List.{length-take, length-map, reverse-append}
use Rattle.cb_paste.specs.declared.argument.Argument.{Argument}
use Rattle.cb_paste.specs.declared.work_token.WorkToken.{WorkToken}
use Rattle.cb_paste.specs.Puts.{AreArgumentsIn}
use Rattle.cb_paste.specs.Shades.{Shaded, seen, AreIn}
use Rattle.std.proofs.lemmas.Result.{err_from_is_err_and}
use Rattle.cb_expand.specs.Heads.{Named}
use Rattle.cb_expand.specs.inner.Machine.{Between}
use Rattle.cb_expand.specs.declared.work.Call.{Call}
use Rattle.cb_expand.specs.declared.work.Work.{Work}
use Rattle.cb_expand.specs.declared.work.Left.{Left}
use Rattle.cb_expand.specs.declared.work.Frame.{Frame}
use Rattle.cb_expand.specs.inner.Works.{seen_all, row_of, state_of, pending_by, pendings, IsCall, AreLeft, AreFrames, IsWork, Goes, Exceeds}
use Rattle.cb_expand.proofs.Heights.{map-take}
use Rattle.cb_expand.proofs.Alike.{last_within, in_take}
use Rattle.cb_expand.proofs.Resuming.{popped, row_taken, left_below, enter_all, skip_all, length_row, arguments_append, pushed_length, same_fault}
use Rattle.cb_expand.proofs.steps.resume.Goals as goal

pub replace-requires-clause-work : goal.replace-requires-clause-work
replace-requires-clause-work c =
    let w = c.args.work.now in
    let h = c.requires in
    let n = length w.row.tokens.items in
    let none : c.args.call.left.items ≡ c.pop.new.self.items = search rules in
    let ts = c.truncate.new.self.tokens.items in
    let k : length ts ≡ n - 1 = ap length c.truncate.ensures.tokens ∙ (length-take c.saturating_sub-height.result w.row.tokens.items ∙ omega (arith, c.saturating_sub-height.ensures, c.len.ensures, w.row.tokens.ok.0)) in
    let below = last_within (length w.arena) n w.floor (reverse c.args.call.left.items) h.call.0.left in
    let m : n ≡ length ts + 1 = omega (arith, k, below.0, below.1) in
    record {
      row = c.truncate.ensures.kept;
      tokens = subst (λ (xs : List WorkToken). AreIn (length w.arena) xs) (sym c.truncate.ensures.tokens) (in_take (length w.arena) c.saturating_sub-height.result w.row.tokens.items h.tokens);
      done = h.done;
      floor = omega (arith, k, below.0, below.1);
      frames = h.frames;
      call = record {
        place = h.call.0.place;
        hides = h.call.0.hides;
        arguments = h.call.0.arguments;
        left = subst (λ i. AreLeft (length w.arena) i w.floor (reverse c.pop.new.self.items)) m
            (subst (λ (xs : List Left). AreLeft (length w.arena) n w.floor (reverse xs)) none h.call.0.left);
      };
      limit = h.call.1;
    }

module _ (ms : Named) (w : Work) (call : Call) (h : IsWork (length ms) w (Some call)) (ss : List Shaded) (lefts : List Left)
    (e : ss ≡ take (length (row_of w) - 1) (row_of w)) (l : call.left.items ≡ lefts) where
  replaced_state : state_of ms w (Some call)
      ≡ Between (pending_by ms w.arena ss call.place call.spaced call.hides call.arguments.items (reverse lefts) call.lacks_rest [] (length ss + 1) w.floor (seen_all w.arena w.done.items))
      (pendings ms w.arena ss w.floor (reverse w.frames.items))
  replaced_state =
      let below = last_within (length w.arena) (length w.row.tokens.items) w.floor (reverse call.left.items) h.call.0.left in
      let m : length (row_of w) ≡ length ss + 1 = omega (arith, ap length e, length-take (length (row_of w) - 1) (row_of w), length_row w, below.0, below.1) in
      popped ms w call (length ms) h ss lefts e l
      ∙ ap (λ i. Between (pending_by ms w.arena ss call.place call.spaced call.hides call.arguments.items (reverse lefts) call.lacks_rest [] i w.floor (seen_all w.arena w.done.items))
      (pendings ms w.arena ss w.floor (reverse w.frames.items))) m

pub returns-in_err-replace-clause-long : goal.returns-in_err-replace-clause-long
returns-in_err-replace-clause-long c = λ mode q.
    let w = c.args.work.now in
    let p = err_from_is_err_and c.from_residual.result c.from_residual.ensures.1 in
    let ts = c.truncate.new.self.tokens.items in
    let none : c.args.call.left.items ≡ c.pop.new.self.items = search rules in
    let k : c.saturating_sub-height.result ≡ length w.row.tokens.items - 1 = omega (arith, c.saturating_sub-height.ensures, c.len.ensures, w.row.tokens.ok.0) in
    let e = row_taken w.arena w.row.tokens.items ts c.saturating_sub-height.result c.truncate.ensures.tokens k in
    let s = replaced_state c.args.macros.now w c.args.call c.requires (seen_all w.arena ts) c.pop.new.self.items e none in
    subst (λ s. Exceeds c.args.macros.now mode s w.used) (sym s)
    (c.replace.ensures.long mode (same_fault _ _ _ _ c.in_err-replace.was p.1 p.2 q))

pub returns-in_default-clause-steps : goal.returns-in_default-clause-steps
returns-in_default-clause-steps c = λ mode.
    let w = c.args.work.now in
    let ts = c.truncate.new.self.tokens.items in
    let none : c.args.call.left.items ≡ c.pop.new.self.items = search rules in
    let k : c.saturating_sub-height.result ≡ length w.row.tokens.items - 1 = omega (arith, c.saturating_sub-height.ensures, c.len.ensures, w.row.tokens.ok.0) in
    let e = row_taken w.arena w.row.tokens.items ts c.saturating_sub-height.result c.truncate.ensures.tokens k in
    let s = replaced_state c.args.macros.now w c.args.call c.requires (seen_all w.arena ts) c.pop.new.self.items e none in
    let below = last_within (length w.arena) (length w.row.tokens.items) w.floor (reverse c.args.call.left.items) c.requires.call.0.left in
    record {
      goes = subst (λ s. Goes c.args.macros.now mode s w.used (state_of c.args.macros.now c.replace.new.work None) c.replace.new.work.used) (sym s) (c.in_ok-replace.ensures.steps mode);
      kept = c.in_ok-replace.ensures.kept;
      smaller = omega (arith, c.in_ok-replace.ensures.smaller, ap length c.truncate.ensures.tokens, length-take c.saturating_sub-height.result w.row.tokens.items, k, below.0, below.1);
    }

pub returns-then-is_shown-clause-steps : goal.returns-then-is_shown-clause-steps
unfolding state_of
returns-then-is_shown-clause-steps c = λ mode.
    let w = c.args.work.now in
    let h = c.requires in
    let l = c.in-Some.left in
    let ts = c.truncate.new.self.tokens.items in
    let fs = c.push.new.self.items in
    let k : c.saturating_sub-height.result ≡ length w.row.tokens.items - 1 = omega (arith, c.saturating_sub-height.ensures, c.len.ensures, w.row.tokens.ok.0) in
    let e = row_taken w.arena w.row.tokens.items ts c.saturating_sub-height.result c.truncate.ensures.tokens k in
    let b = left_below (length w.arena) (length w.row.tokens.items) w.floor l c.args.call.left.items c.pop.new.self.items c.in-Some.ensures.items h.call.0.left in
    let n : length ts ≡ length w.row.tokens.items - 1 = omega (arith, ap length c.truncate.ensures.tokens, length-take c.saturating_sub-height.result w.row.tokens.items, k) in
    let f = pushed_length w.frames.items fs _ c.in_ok-push.ensures.items in
    record {
      goes = record {
        cost = 0;
        steps = enter_all c.args.macros.now mode w c.args.call (length c.args.macros.now) h (seen_all w.arena ts) l c.pop.new.self.items e c.in-Some.ensures.items _ fs _
            c.if-is_shown.true c.in_ok-push.ensures.items refl (ap (λ v. seen_all w.arena v.items) c.replace-done.ensures.after ∙ ap (seen_all w.arena) c.in_ok-room.ensures.items)
            (ap (λ v. pending_by c.args.macros.now w.arena (seen_all w.arena ts) c.args.call.place c.args.call.spaced c.args.call.hides c.args.call.arguments.items (reverse c.pop.new.self.items) c.args.call.lacks_rest (seen_all w.arena l.raw.items ∷ []) l.end w.floor (seen_all w.arena v.items)) c.replace-done.ensures.value);
        sum = omega arith;
      };
      kept = record {
        row = c.truncate.ensures.kept;
        tokens = subst (λ (xs : List WorkToken). AreIn (length w.arena) xs) (sym c.truncate.ensures.tokens) (in_take (length w.arena) c.saturating_sub-height.result w.row.tokens.items h.tokens);
        done = subst (λ (xs : List WorkToken). AreIn (length w.arena) xs) (sym (ap (λ v. v.items) c.replace-done.ensures.after ∙ c.in_ok-room.ensures.items)) tt;
        floor = omega (arith, n, b.0);
        frames = subst (λ (xs : List Frame). AreFrames (length c.args.macros.now) (length w.arena) l.end xs) (sym (ap reverse c.in_ok-push.ensures.items ∙ reverse-append w.frames.items (_ ∷ [])))
            (record { place = h.call.0.place; hides = h.call.0.hides; arguments = h.call.0.arguments; left = b.2 }, b.1, subst (λ v. AreIn (length w.arena) v.items) (sym c.replace-done.ensures.value) h.done, h.frames);
        call = omega (arith, h.call.1, f);
      };
      smaller = omega (arith, n, f, b.0);
    }

pub returns-clause-steps : goal.returns-clause-steps
unfolding state_of
returns-clause-steps c = λ mode.
    let w = c.args.work.now in
    let h = c.requires in
    let l = c.in-Some.left in
    let ts = c.truncate.new.self.tokens.items in
    let us = c.truncate-2.new.self.tokens.items in
    let k : c.saturating_sub-height.result ≡ length w.row.tokens.items - 1 = omega (arith, c.saturating_sub-height.ensures, c.len.ensures, w.row.tokens.ok.0) in
    let e = row_taken w.arena w.row.tokens.items ts c.saturating_sub-height.result c.truncate.ensures.tokens k in
    let b = left_below (length w.arena) (length w.row.tokens.items) w.floor l c.args.call.left.items c.pop.new.self.items c.in-Some.ensures.items h.call.0.left in
    let n : length ts ≡ length w.row.tokens.items - 1 = omega (arith, ap length c.truncate.ensures.tokens, length-take c.saturating_sub-height.result w.row.tokens.items, k) in
    let m : length us ≡ l.end = omega (arith, ap length c.truncate-2.ensures.tokens, length-take l.end ts, n, b.0) in
    let below = last_within (length w.arena) l.end w.floor (reverse c.pop.new.self.items) b.2 in
    let called : IsCall (length c.args.macros.now) (length w.arena) l.end w.floor (record c.args.call { arguments = c.push-2.new.self; left = c.pop.new.self }) = record {
      place = h.call.0.place;
      hides = h.call.0.hides;
      arguments = subst (λ (xs : List Argument). AreArgumentsIn (length w.arena) xs) (sym c.in_ok-push-2.ensures.items)
          (arguments_append (length w.arena) _ _ h.call.0.arguments (b.1, subst (λ (xs : List WorkToken). AreIn (length w.arena) xs) (sym c.new.ensures.items) tt, tt));
      left = b.2;
    } in
    record {
      goes = record {
        cost = 0;
        steps = skip_all c.args.macros.now mode w c.args.call (length c.args.macros.now) h (seen_all w.arena ts) l c.pop.new.self.items e c.in-Some.ensures.items
            (record c.args.call { arguments = c.push-2.new.self; left = c.pop.new.self }) _ (seen_all w.arena us)
            c.if-is_shown.false refl c.new.ensures.items (ap (seen_all w.arena) c.truncate-2.ensures.tokens ∙ map-take (seen w.arena) l.end ts)
            (omega (arith, length-map ts (seen w.arena), n, b.0)) called
            (ap (λ xs. pending_by c.args.macros.now w.arena (seen_all w.arena ts) c.args.call.place c.args.call.spaced c.args.call.hides xs (reverse c.pop.new.self.items) c.args.call.lacks_rest [] l.end w.floor (seen_all w.arena w.done.items)) c.in_ok-push-2.ensures.items);
        sum = omega arith;
      };
      kept = record {
        row = c.truncate-2.ensures.kept;
        tokens = subst (λ (xs : List WorkToken). AreIn (length w.arena) xs) (sym c.truncate-2.ensures.tokens)
            (in_take (length w.arena) l.end ts (subst (λ (xs : List WorkToken). AreIn (length w.arena) xs) (sym c.truncate.ensures.tokens) (in_take (length w.arena) c.saturating_sub-height.result w.row.tokens.items h.tokens)));
        done = h.done;
        floor = omega (arith, m, below.0, below.1);
        frames = h.frames;
        call = (record { place = called.place; hides = called.hides; arguments = called.arguments; left = subst (λ i. AreLeft (length w.arena) i w.floor (reverse c.pop.new.self.items)) (sym m) b.2 }, h.call.1);
      };
      smaller = omega (arith, n, m, b.0);
    }
