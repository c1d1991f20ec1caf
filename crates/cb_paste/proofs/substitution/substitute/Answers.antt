use Rattle.std.proofs.Common.{◌≡◌, ◌++◌, Err, [], map, sym, ◌∙◌, ap, arith}
use Rattle.std.proofs.lemmas.Result.{err_from_is_err_and}
use Rattle.cb_paste.specs.declared.fault.PasteFault.TheVariants.{TooLong}
use Rattle.cb_paste.specs.Sets.{hides}
use Rattle.cb_paste.specs.Shades.{waiting, all_shaded, first_spaced}
use Rattle.cb_paste.specs.Joins.{reals}
use Rattle.cb_paste.specs.Puts.{seen_argument, put_from}
use Rattle.cb_paste.proofs.Stacks.{space_all}
use Rattle.cb_paste.proofs.Placed.{length-puts, puts_is, puts_none}
use Rattle.cb_paste.proofs.substitution.substitute.Goals as goal

pub returns-in_err-count-clause-long : goal.returns-in_err-count-clause-long
returns-in_err-count-clause-long c =
    let p = err_from_is_err_and c.from_residual.result c.from_residual.ensures.1 in
    rw (p.1, p.2)
    (λ e. let fault : c.in_err-count.field-0.0 ≡ TooLong = cc in
    let long = c.in_err-count.ensures.long (ap Err fault) in
    (omega (arith, long.0, length-puts (map (seen_argument c.args.arena.now) c.args.arguments.now) c.args.site.spaced c.args.parts.now), long.1))

pub returns-then-count-eq0-clause-put : goal.returns-then-count-eq0-clause-put
returns-then-count-eq0-clause-put c =
    c.in_ok-count.ensures.put
    ∙ ap (λ l. all_shaded (hides c.args.arena.now c.args.site.hides) l ++ waiting c.args.arena.now c.args.stack.now.items)
    (sym (puts_none (map (seen_argument c.args.arena.now) c.args.arguments.now) c.args.site.spaced c.args.parts.now (omega (arith, c.in_ok-count.ensures.count))))

pub returns-then-count-eq0-clause-count : goal.returns-then-count-eq0-clause-count
returns-then-count-eq0-clause-count c =
    omega (arith, c.in_ok-count.ensures.count, length-puts (map (seen_argument c.args.arena.now) c.args.arguments.now) c.args.site.spaced c.args.parts.now)

pub returns-clause-put : goal.returns-clause-put
returns-clause-put c =
    c.space_first.ensures.put c.put_list.new.arena
    ∙ (ap (λ l. first_spaced c.args.site.spaced l) c.in_ok-count.ensures.put
    ∙ (space_all (hides c.args.arena.now c.args.site.hides) c.args.site.spaced (reals (put_from (map (seen_argument c.args.arena.now) c.args.arguments.now) [] c.args.parts.now)) (waiting c.args.arena.now c.args.stack.now.items)
    (λ z. c.if-count-eq0.false (omega (arith, z, c.in_ok-count.ensures.count)))
    ∙ ap (λ l. all_shaded (hides c.args.arena.now c.args.site.hides) l ++ waiting c.args.arena.now c.args.stack.now.items)
    (sym (puts_is (map (seen_argument c.args.arena.now) c.args.arguments.now) c.args.site.spaced c.args.parts.now))))

pub returns-clause-count : goal.returns-clause-count
returns-clause-count c =
    omega (arith, c.in_ok-count.ensures.count, length-puts (map (seen_argument c.args.arena.now) c.args.arguments.now) c.args.site.spaced c.args.parts.now)

pub returns-clause-within : goal.returns-clause-within
returns-clause-within c = c.space_first.ensures.within _ c.in_ok-count.ensures.within
