use Rattle.std.proofs.Common.{◌≡◌, ◌+◌, Err, map, drop, length, ◌∙◌, ap, subst, arith}
use Rattle.std.proofs.lemmas.List.{take_rest}
use Rattle.std.proofs.lemmas.Result.{err_from_is_err_and}
use Rattle.cb_paste.specs.declared.fault.PasteFault.TheVariants.{TooLong}
use Rattle.cb_paste.specs.Joins.{reals}
use Rattle.cb_paste.specs.Puts.{seen_argument, shape_puts, put_one, put_from}
use Rattle.cb_paste.specs.inner.Slots.{seen_slot}
use Rattle.cb_paste.specs.inner.Uses.{is_used, Kept}
use Rattle.cb_paste.proofs.Arenas.{extends_length, extends_trans}
use Rattle.cb_paste.proofs.Counts.{put_from_count}
use Rattle.cb_paste.proofs.Copies.{arguments_more, put_step}
use Rattle.cb_paste.proofs.Moves.{kept_trans, used_more, part_kept}
use Rattle.cb_paste.proofs.filling.put_all.Goals as goal

pub put_part-requires-clause-given : goal.put_part-requires-clause-given
put_part-requires-clause-given c = arguments_more _ _ (extends_length c.parts.invariant.kept) c.parts.arguments (c.parts.invariant.others.within _ c.requires)

pub returns-in_err-put_part-clause-long : goal.returns-in_err-put_part-clause-long
returns-in_err-put_part-clause-long c =
    let p = err_from_is_err_and c.from_residual-in_err-put_part.result c.from_residual-in_err-put_part.ensures.1 in
    let step = put_step (map (seen_argument c.args.arena.now) c.args.arguments.now) (map (seen_slot c.parts.arena) c.parts.slots) (put_one (map (seen_slot c.parts.arena) c.parts.slots) c.index-parts-at.result.glued (shape_puts (map (seen_argument c.parts.arena) c.parts.arguments) c.is_beside-beside.result c.index-parts-at.result.spaced c.index-parts-at.result.shape)) c.args.parts.now c.parts.at c.index-parts-at.result c.parts-test.true c.index-parts-at.is
    (ap (λ ms. put_one (map (seen_slot c.parts.arena) c.parts.slots) c.index-parts-at.result.glued ms) (part_kept c.parts.invariant.kept c.args.arguments.now c.parts.arguments c.args.parts.now c.parts.at c.index-parts-at.result c.is_beside-beside.result c.parts-test.true c.index-parts-at.is c.is_beside-beside.ensures c.requires c.parts.invariant.others)
    ∙ ap (λ b. put_one (map (seen_slot c.parts.arena) c.parts.slots) c.index-parts-at.result.glued (shape_puts (map (seen_argument c.args.arena.now) c.args.arguments.now) b c.index-parts-at.result.spaced c.index-parts-at.result.shape)) c.is_beside-beside.ensures)
    ∙ c.parts.invariant.put in
    rw (p.1, p.2)
    (λ e. let fault : c.in_err-put_part.field-0.0 ≡ TooLong = cc in
    omega
    (arith, c.in_err-put_part.ensures.long (ap Err fault), ap (λ l. length (reals l)) step, put_from_count (map (seen_argument c.args.arena.now) c.args.arguments.now) (put_one (map (seen_slot c.parts.arena) c.parts.slots) c.index-parts-at.result.glued (shape_puts (map (seen_argument c.parts.arena) c.parts.arguments) c.is_beside-beside.result c.index-parts-at.result.spaced c.index-parts-at.result.shape)) (drop (c.parts.at + 1) c.args.parts.now)))

pub parts-preserved : goal.parts-preserved
parts-preserved c = record {
  put = ap (λ d. put_from (map (seen_argument c.args.arena.now) c.args.arguments.now) d (drop (c.parts.at + 1) c.args.parts.now)) c.in_ok-put_part.ensures.put
      ∙ (put_step (map (seen_argument c.args.arena.now) c.args.arguments.now) (map (seen_slot c.parts.arena) c.parts.slots) (put_one (map (seen_slot c.parts.arena) c.parts.slots) c.index-parts-at.result.glued (shape_puts (map (seen_argument c.parts.arena) c.parts.arguments) c.is_beside-beside.result c.index-parts-at.result.spaced c.index-parts-at.result.shape)) c.args.parts.now c.parts.at c.index-parts-at.result c.parts-test.true c.index-parts-at.is
      (ap (λ ms. put_one (map (seen_slot c.parts.arena) c.parts.slots) c.index-parts-at.result.glued ms) (part_kept c.parts.invariant.kept c.args.arguments.now c.parts.arguments c.args.parts.now c.parts.at c.index-parts-at.result c.is_beside-beside.result c.parts-test.true c.index-parts-at.is c.is_beside-beside.ensures c.requires c.parts.invariant.others)
      ∙ ap (λ b. put_one (map (seen_slot c.parts.arena) c.parts.slots) c.index-parts-at.result.glued (shape_puts (map (seen_argument c.args.arena.now) c.args.arguments.now) b c.index-parts-at.result.spaced c.index-parts-at.result.shape)) c.is_beside-beside.ensures)
      ∙ c.parts.invariant.put);
  within = c.in_ok-put_part.ensures.within;
  fits = c.in_ok-put_part.ensures.fits;
  others = kept_trans _ _ c.args.arguments.now c.parts.arguments _ (used_more c.args.parts.now c.parts.at c.index-parts-at.result c.parts-test.true c.index-parts-at.is) c.parts.invariant.others (subst (λ ps. Kept (is_used ps) c.parts.arguments c.put_part.new.arguments) (take_rest c.args.parts.now (c.parts.at + 1)) c.in_ok-put_part.ensures.others);
  kept = extends_trans c.parts.invariant.kept c.in_ok-put_part.ensures.kept;
}
