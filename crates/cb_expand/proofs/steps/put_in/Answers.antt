use Rattle.std.proofs.Common.{◌≡◌, ◌++◌, sym, ◌∙◌, ap, subst, arith, List, refl}
use Rattle.std.specs.Prelude.{reverse, slice_get}
use Rattle.std.proofs.Common.{Result, Err}
use Rattle.cb_expand.specs.declared.fault.ExpandFault.{ExpandFault}
use Rattle.cb_expand.specs.declared.fault.ExpandFault.TheVariants.{TooLong}
use Rattle.cb_expand.specs.declared.sign.Sign.{Sign}
use Rattle.cb_expand.specs.inner.Rows.{AreEnds}
use Rattle.cb_expand.specs.inner.Works.{seen_all}
use Rattle.cb_expand.proofs.Keeping.{ends_more}
use Rattle.cb_expand.proofs.Putting.{parts_are, put_is, length_put, rows_grow, signs_grow}
use Rattle.cb_expand.proofs.steps.put_in.Goals as goal

long_is : {X : Type 0} (f : ExpandFault) → ◌≡◌ {A = Result X ExpandFault} (Err f) (Err TooLong) → f ≡ TooLong
long_is f e = cc

pub returns-in-Err-clause-long : goal.returns-in-Err-clause-long
returns-in-Err-clause-long c = λ q.
    let a = c.args in
    let e = parts_are (slice_get a.macros.now a.place) c.at.result.now c.parts-parts.result.now c.at.ensures c.parts-parts.ensures in
    let l = length_put a.macros.now a.work.now.arena a.place a.spaced a.hides a.arguments.now c.parts-parts.result.now e in
    let t = c.fault_of.ensures (long_is _ q) in
    let h = c.substitute-added.ensures.long (rw t at c.in-Err.is) in
    omega (arith, l, h.0, c.len.ensures, a.work.now.frames.ok.0)

pub returns-clause-added : goal.returns-clause-added
returns-clause-added c =
    let a = c.args in
    let w = a.work.now in
    let e = parts_are (slice_get a.macros.now a.place) c.at.result.now c.parts-parts.result.now c.at.ensures c.parts-parts.ensures in
    let p = put_is a.macros.now w.arena a.place a.spaced a.hides a.arguments.now c.parts-parts.result.now e in
    let l = length_put a.macros.now w.arena a.place a.spaced a.hides a.arguments.now c.parts-parts.result.now e in
    let r = rows_grow w.arena c.substitute-added.new.arena w.row.tokens.items c.substitute-added.new.stack.items _ c.in-Ok.ensures.put in
    let s = signs_grow w.arena c.substitute-added.new.arena w.row.tokens.items c.substitute-added.new.stack.items _ r in
    record {
      arena = c.in-Ok.ensures.kept;
      row = r ∙ ap (λ xs. seen_all w.arena w.row.tokens.items ++ reverse xs) (sym p);
      kept = subst (λ (ss : List Sign). AreEnds ss w.row.ends.items) (sym s) (ends_more _ _ _ c.requires.row);
      tokens = c.in-Ok.ensures.within;
      floor = refl;
      frames = refl;
      done = refl;
      used = omega (arith, l, c.in-Ok.ensures.count);
      limit = omega (arith, c.in-Ok.ensures.room, c.len.ensures, w.frames.ok.0);
    }
