use Rattle.std.proofs.Common.{◌≡◌, ◌++◌, Err, length, map, refl, sym, ◌∙◌, ap, arith}
use Rattle.std.proofs.lemmas.Result.{err_from_is_err_and}
use Rattle.cb_paste.specs.declared.fault.PasteFault.TheVariants.{TooLong}
use Rattle.cb_paste.specs.Sets.{hides}
use Rattle.cb_paste.specs.Shades.{waiting, all_shaded}
use Rattle.cb_paste.specs.Puts.{seen_argument}
use Rattle.cb_paste.proofs.Unglued.{plain_is}
use Rattle.cb_paste.proofs.plain.put_plain.Goals as goal

pub returns-in_err-count-clause-long : goal.returns-in_err-count-clause-long
returns-in_err-count-clause-long c =
    let p = err_from_is_err_and c.from_residual.result c.from_residual.ensures.1 in
    rw (p.1, p.2)
    (λ e. let fault : c.in_err-count.field-0.0 ≡ TooLong = cc in (
      omega
          (arith, c.in_err-count.ensures.long c.args.arena.now (ap Err fault), ap length (plain_is (map (seen_argument c.args.arena.now) c.args.arguments.now) c.args.parts.now c.requires.plain)),
      refl,
    ))

pub returns-clause-put : goal.returns-clause-put
returns-clause-put c =
    c.in_ok-push_parts.ensures.put
    ∙ ap (λ l. all_shaded (hides c.args.arena.now c.args.site.hides) l ++ waiting c.args.arena.now c.args.stack.now.items)
    (sym (plain_is (map (seen_argument c.args.arena.now) c.args.arguments.now) c.args.parts.now c.requires.plain))

pub returns-clause-count : goal.returns-clause-count
returns-clause-count c =
    c.in_ok-count.ensures.count c.args.arena.now
    ∙ sym (ap length (plain_is (map (seen_argument c.args.arena.now) c.args.arguments.now) c.args.parts.now c.requires.plain))
