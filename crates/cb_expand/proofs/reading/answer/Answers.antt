use Rattle.std.proofs.Common.{◌≡◌, List, length, take, ap, sym, ◌∙◌, subst, arith}
use Rattle.std.proofs.lemmas.List.{length-take}
use Rattle.cb_paste.specs.declared.work_token.WorkToken.{WorkToken}
use Rattle.cb_paste.specs.Shades.{AreIn, Shaded, seen}
use Rattle.cb_tokens.specs.declared.token.TokenKind.TheVariants.{Number}
use Rattle.cb_expand.specs.Heads.{Stands}
use Rattle.cb_expand.specs.inner.Rows.{between}
use Rattle.cb_expand.specs.inner.Works.{seen_all, row_of, state_of}
use Rattle.cb_expand.proofs.Alike.{in_append, in_take}
use Rattle.cb_expand.proofs.Heights.{map-take}
use Rattle.cb_expand.proofs.Resuming.{length_row}
use Rattle.cb_expand.proofs.Readings.{stood}
use Rattle.cb_expand.proofs.reading.answer.Goals as goal

pub returns : goal.returns
unfolding state_of
returns c = λ ms mode h t low high e.
    let w = c.args.work.now in
    let n = length_row w in
    let k = length-take c.args.height w.row.tokens.items in
    let u = ap length c.truncate.ensures.tokens in
    let d = c.in_ok-text.ensures in
    let us : seen_all w.arena c.truncate.new.self.tokens.items ≡ take c.args.height (row_of w) = ap (seen_all w.arena) c.truncate.ensures.tokens ∙ map-take (seen w.arena) c.args.height w.row.tokens.items in
    record {
      goes = record {
        cost = 0;
        steps = stood ms mode w.arena (length ms) w.floor c.args.height (row_of w) (seen_all w.arena c.truncate.new.self.tokens.items) w.frames.items (seen w.arena c.args.token) _ w.done.items c.push.new.self.items
            low (omega (arith, n, high)) us c.in_ok-push.ensures.items h.frames
            (e ∙ ap (λ text. let s : Shaded = record { kind = Number; spaced = c.args.token.spaced; text = text; hides = (seen w.arena c.args.token).hides } in Stands s (between w.floor c.args.height (row_of w))) (sym d));
        sum = omega arith;
      };
      kept = record {
        row = c.truncate.ensures.kept;
        tokens = subst (λ (xs : List WorkToken). AreIn (length w.arena) xs) (sym c.truncate.ensures.tokens) (in_take (length w.arena) c.args.height w.row.tokens.items h.tokens);
        done = subst (λ (xs : List WorkToken). AreIn (length w.arena) xs) (sym c.in_ok-push.ensures.items) (in_append (length w.arena) w.done.items _ h.done (t, tt));
        floor = omega (arith, k, u, low, high);
        frames = h.frames;
        call = h.call;
      };
      smaller = omega (arith, k, u, high);
    }
