use Rattle.std.proofs.Common.{◌≡◌, ℕ, ◌+◌, ◌≤◌, ◌==◌, [], length, ap, sym, ◌∙◌, subst, arith}
use Rattle.std.specs.Prelude.{◌||◌}
use Rattle.std.proofs.lemmas.Result.{on_ok_weaker}
use Rattle.cb_paste.specs.Sets.{hides}
use Rattle.cb_expand.specs.inner.Works.{put_of, row_of}
use Rattle.cb_expand.specs.inner.Machine.{Steps}
use Rattle.cb_expand.specs.inner.Readings.{reading}
use Rattle.cb_expand.proofs.Alike.{in_more, frames_more, extends_length}
use Rattle.cb_expand.proofs.Resuming.{length_row, added_state, added_kept, added_weight}
use Rattle.cb_expand.proofs.Readings.{named_steps, named_long, called_long}
use Rattle.cb_expand.proofs.reading.replace_name.Goals as goal

pub returns-then-work-len-ge-COST_LIMIT-clause-long : goal.returns-then-work-len-ge-COST_LIMIT-clause-long
returns-then-work-len-ge-COST_LIMIT-clause-long c = λ mode k q.
    called_long c.args.macros.now mode c.args.work.now c.args.token.now _ _ _ k (omega (arith, c.if-work-len-ge-COST_LIMIT.true, c.len.ensures, c.args.work.now.frames.ok.0))

pub put_in-requires-clause-tokens : goal.put_in-requires-clause-tokens
put_in-requires-clause-tokens c =
    let w = c.args.work.now in
    in_more (length w.arena) (length c.with.new.self) (extends_length w.arena c.with.new.self c.with.ensures.kept) w.row.tokens.items c.requires.work.tokens

pub returns-clause-taken : goal.returns-clause-taken
returns-clause-taken c = λ mode k.
    let ms = c.args.macros.now in
    let w = c.args.work.now in
    let sets = c.with.new.self in
    let x = c.with.ensures.kept in
    let h = c.requires.work in
    let set = c.in_ok-hides.hides in
    let s : (n : ℕ) → hides sets set n ≡ ((n == c.args.place) || hides w.arena c.args.token.now.hides n) =
    λ n. c.in_ok-hides.ensures.places n ∙ ap (λ p. (n == p) || hides w.arena c.args.token.now.hides n) c.in_ok-small.ensures in
    let mid = record w { arena = sets } in
    let l = extends_length w.arena sets x in
    let floor : w.floor ≤ length (row_of mid) = omega (arith, length_row mid, h.floor) in
    let d = in_more (length w.arena) (length sets) l w.done.items h.done in
    let f = frames_more (length w.arena) (length sets) l (length ms) w.floor _ h.frames in
    on_ok_weaker c.put_in.result (λ a.
    record {
      goes = record {
        cost = 1 + length (put_of ms sets c.args.place c.args.token.now.spaced set []);
        steps = subst (λ st. Steps ms mode (reading ms w c.args.token.now) st (1 + length (put_of ms sets c.args.place c.args.token.now.spaced set [])))
            (sym (added_state ms mid c.put_in.new.work _ a (length ms) floor d f)) (named_steps ms mode w c.args.token.now c.args.place set sets x h s k);
        sum = a.used;
      };
      kept = added_kept ms mid c.put_in.new.work _ a (length ms) floor d f;
      smaller = omega (arith, added_weight ms mid c.put_in.new.work _ a);
    }) c.put_in.ensures.added

pub returns-clause-long : goal.returns-clause-long
returns-clause-long c = λ mode k q.
    let ms = c.args.macros.now in
    let w = c.args.work.now in
    let sets = c.with.new.self in
    let s : (n : ℕ) → hides sets c.in_ok-hides.hides n ≡ ((n == c.args.place) || hides w.arena c.args.token.now.hides n) =
    λ n. c.in_ok-hides.ensures.places n ∙ ap (λ p. (n == p) || hides w.arena c.args.token.now.hides n) c.in_ok-small.ensures in
    named_long ms mode w c.args.token.now c.args.place c.in_ok-hides.hides sets c.with.ensures.kept c.requires.work s k (c.put_in.ensures.long q)
