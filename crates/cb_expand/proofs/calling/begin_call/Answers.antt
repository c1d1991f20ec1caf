use Rattle.std.proofs.Common.{◌≡◌, ◌-◌, List, length, get_or, take, ap, sym, ◌∙◌, subst, arith}
use Rattle.std.specs.Prelude.{if◌then◌else◌, not, reverse}
use Rattle.cb_paste.specs.declared.argument.Argument.{Argument}
use Rattle.cb_paste.specs.Puts.{AreArgumentsIn}
use Rattle.cb_expand.specs.inner.Gathers.{last_of, AreDescending}
use Rattle.cb_expand.specs.inner.Readings.{inside}
use Rattle.cb_expand.specs.inner.Works.{state_of}
use Rattle.cb_expand.proofs.Alike.{in_more, frames_more, extends_length}
use Rattle.cb_expand.proofs.Begun.{descending_none, lefts_is, in_get, some_of, some_is, us_length, left_by, begun_steps, us_in}
use Rattle.cb_expand.proofs.Readings.{called_long}
use Rattle.cb_expand.proofs.calling.begin_call.Goals as goal

pub returns-then-work-len-ge-COST_LIMIT-clause-long : goal.returns-then-work-len-ge-COST_LIMIT-clause-long
returns-then-work-len-ge-COST_LIMIT-clause-long c = λ mode k q.
    called_long c.args.macros.now mode c.args.work.now c.args.token.now _ _ _ k.is (omega (arith, c.if-work-len-ge-COST_LIMIT.true, c.len.ensures, c.args.work.now.frames.ok.0))

pub hides_of-requires-clause-close : goal.hides_of-requires-clause-close
hides_of-requires-clause-close c =
    let w = c.args.work.now in
    let en = c.requires.ended in
    let h : c.len-height.result - 1 ≡ inside w = omega (arith, c.len-height.ensures, w.row.tokens.ok.0) in
    let k : c.close_of.result ≡ last_of (inside w) c.args.gathered.ends.items =
    c.close_of.ensures ∙ (ap (λ n. last_of n c.as_slice-ends.result.now) h ∙ ap (last_of (inside w)) c.as_slice-ends.ensures.value) in
    in_get (length w.arena) w.row.tokens.items (c.close_of.result - 1) c.index.result.now c.requires.work.tokens (omega (arith, k, en.within, en.some)) c.index.ensures

pub lefts-requires-clause-descending : goal.lefts-requires-clause-descending
lefts-requires-clause-descending c =
    let w = c.args.work.now in
    let h : c.len-height.result - 1 ≡ inside w = omega (arith, c.len-height.ensures, w.row.tokens.ok.0) in
    subst (λ xs. AreDescending (c.len-height.result - 1) 0 xs) (sym c.as_slice-ends.ensures.value)
    (subst (λ n. AreDescending n 0 c.args.gathered.ends.items) (sym h) (descending_none (inside w) w.floor c.args.gathered.ends.items c.requires.ended.descending))

pub returns-clause-taken : goal.returns-clause-taken
unfolding state_of
returns-clause-taken c = λ mode ca.
    let ms = c.args.macros.now in
    let w = c.args.work.now in
    let en = c.requires.ended in
    let es = c.args.gathered.ends.items in
    let y = c.index.result.now in
    let sets = c.hides_of.new.arena in
    let x = c.in_ok-hides.ensures.kept in
    let us = c.uncover.new.row.tokens.items in
    let ts = w.row.tokens.items in
    let more = extends_length w.arena sets x in
    let h : c.len-height.result - 1 ≡ inside w = omega (arith, c.len-height.ensures, w.row.tokens.ok.0) in
    let v = c.as_slice-ends.ensures.value in
    let k : c.close_of.result ≡ last_of (inside w) es = c.close_of.ensures ∙ (ap (λ n. last_of n c.as_slice-ends.result.now) h ∙ ap (last_of (inside w)) v) in
    let yi : y ≡ get_or ts (last_of (inside w) es - 1) y = c.index.ensures ∙ ap (λ n. get_or ts (n - 1) y) k in
    let l = lefts_is c.at-body.result.now _ ts _ (inside w) _ es _ c.as_slice.ensures.value h v c.in_ok-left.ensures in
    let u : us ≡ (if some_of es then ts else take (inside w) ts) =
    c.uncover.ensures.tokens ∙ ap (λ b. if b then ts else take (inside w) ts) (ap not c.is_empty.ensures ∙ (some_is c.as_slice-ends.result.now ∙ ap some_of v)) in
    let n = us_length ms mode w c.args.token.now y c.args.place c.at-body.result.now sets x c.in_ok-hides.hides us es c.args.gathered.lacks_rest (reverse c.in_ok-left.left.items) c.requires.work c.at-body.ensures en ca yi c.in_ok-hides.ensures.places l u in
    record {
      goes = record {
        cost = 0;
        steps = begun_steps ms mode w c.args.token.now y c.args.place c.at-body.result.now sets x c.in_ok-hides.hides us es c.args.gathered.lacks_rest (reverse c.in_ok-left.left.items) c.requires.work c.at-body.ensures en ca yi c.in_ok-hides.ensures.places l u
            c.in_ok-arguments.arguments.items c.in_ok-arguments.ensures.items;
        sum = omega arith;
      };
      kept = record {
        row = c.uncover.ensures.kept;
        tokens = us_in ms mode w c.args.token.now y c.args.place c.at-body.result.now sets x c.in_ok-hides.hides us es c.args.gathered.lacks_rest (reverse c.in_ok-left.left.items) c.requires.work c.at-body.ensures en ca yi c.in_ok-hides.ensures.places l u
            (length sets) (in_more (length w.arena) (length sets) more ts c.requires.work.tokens);
        done = in_more (length w.arena) (length sets) more w.done.items c.requires.work.done;
        floor = omega (arith, n.0, en.above, en.within);
        frames = frames_more (length w.arena) (length sets) more (length ms) w.floor (reverse w.frames.items) c.requires.work.frames;
        call = (
          record {
            place = en.placed;
            hides = c.in_ok-hides.ensures.within;
            arguments = subst (λ (xs : List Argument). AreArgumentsIn (length sets) xs) (sym c.in_ok-arguments.ensures.items) tt;
            left = left_by ms mode w c.args.token.now y c.args.place c.at-body.result.now sets x c.in_ok-hides.hides us es c.args.gathered.lacks_rest (reverse c.in_ok-left.left.items) c.requires.work c.at-body.ensures en ca yi c.in_ok-hides.ensures.places l u
                (length sets) (in_more (length w.arena) (length sets) more ts c.requires.work.tokens);
          },
          omega (arith, c.if-work-len-ge-COST_LIMIT.false, c.len.ensures, w.frames.ok.0),
        );
      };
      smaller = omega (arith, n.1);
    }
