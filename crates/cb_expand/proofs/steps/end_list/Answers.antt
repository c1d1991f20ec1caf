use Rattle.std.proofs.Common.{List, ◌∷◌, [], length, ap, sym, ◌∙◌, subst, arith, refl}
use Rattle.std.specs.Prelude.{reverse}
use Rattle.std.proofs.lemmas.List.{length-append}
use Rattle.cb_paste.specs.declared.argument.Argument.{Argument}
use Rattle.cb_paste.specs.Puts.{AreArgumentsIn}
use Rattle.cb_paste.specs.Shades.{AreIn}
use Rattle.cb_expand.specs.inner.Works.{seen_all, row_of, state_of, AreLeft}
use Rattle.cb_expand.proofs.Alike.{last_within}
use Rattle.cb_expand.proofs.Resuming.{ended_steps, frames_pop, length_row, arguments_append}
use Rattle.cb_expand.proofs.steps.end_list.Goals as goal

pub returns : goal.returns
unfolding state_of
returns c = λ ms mode h some.
    let w = c.args.work.now in
    let f = c.in-Some.frame in
    let n = length_row w in
    let p = frames_pop (length ms) (length w.arena) w.floor w.frames.items c.pop.new.self.items f c.in-Some.ensures.items h.frames in
    let k = ap length c.in-Some.ensures.items in
    let l = length-append c.pop.new.self.items (f ∷ []) in
    let below = last_within (length w.arena) w.floor f.floor _ p.0.left in
    record {
      goes = record {
        cost = 0;
        steps = ended_steps ms mode w.arena (row_of w) w.floor (length (row_of w)) w.frames.items f c.pop.new.self.items c.push.new.self.items _ (seen_all w.arena w.done.items) _
            (omega (arith, c.requires, n)) (c.requires ∙ sym n) c.in-Some.ensures.items c.in_ok-push.ensures.items refl
            (ap (λ v. seen_all w.arena v.items) c.replace-expanded.ensures.value) (ap (λ v. seen_all w.arena v.items) c.replace-expanded.ensures.after);
        sum = omega arith;
      };
      kept = record {
        row = h.row;
        tokens = h.tokens;
        done = subst (λ v. AreIn (length w.arena) v.items) (sym c.replace-expanded.ensures.after) p.2;
        floor = omega (arith, h.floor, below.0, below.1);
        frames = p.3;
        call = (
          record {
            place = p.0.place;
            hides = p.0.hides;
            arguments = subst (λ (xs : List Argument). AreArgumentsIn (length w.arena) xs) (sym c.in_ok-push.ensures.items)
                (arguments_append (length w.arena) _ _ p.0.arguments (p.1, subst (λ v. AreIn (length w.arena) v.items) (sym c.replace-expanded.ensures.value) h.done, tt));
            left = subst (λ i. AreLeft (length w.arena) i f.floor (reverse f.call.left.items)) c.requires p.0.left;
          },
          omega (arith, h.call, k, l),
        );
      };
      smaller = omega (arith, k, l);
    }
