use Rattle.std.proofs.Common.{◌≡◌, [], sym, arith, below_more}
use Rattle.std.specs.Str.{bytes_eq}
use Rattle.std.proofs.lemmas.List.Sums.{position_or_len_is}
use Rattle.csv.specs.Records.{fields_of}
use Rattle.cb_measure.proofs.header.place.Goals as goal

pub returns-then-eq : goal.returns-then-eq
returns-then-eq c =
    sym (position_or_len_is (λ f. bytes_eq f c.args.name.now) (fields_of c.args.header.now) c.loop-at.at [] (omega arith) c.loop-at.invariant
    (λ h. rw (← c.field.ensures) (sym c.if-eq.ensures)))

pub returns : goal.returns
returns c =
    let e : c.loop-at.at ≡ c.len.result = omega arith in
    sym (position_or_len_is (λ f. bytes_eq f c.args.name.now) (fields_of c.args.header.now) c.len.result [] (omega arith) (rw e at c.loop-at.invariant) (λ h. absurd (omega arith)))

pub loop-at-preserved : goal.loop-at-preserved
loop-at-preserved c = below_more _ _ c.loop-at.invariant (rw (← c.field.ensures) (sym c.if-eq.ensures))
