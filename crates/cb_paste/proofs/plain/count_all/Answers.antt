use Rattle.std.proofs.Common.{map, length, ap, arith}
use Rattle.std.proofs.lemmas.List.{drop_all}
use Rattle.cb_paste.specs.Puts.{seen_argument}
use Rattle.cb_paste.specs.inner.Plain.{plain_all}
use Rattle.cb_paste.proofs.Unglued.{plain_drop}
use Rattle.cb_paste.proofs.plain.count_all.Goals as goal

pub returns-then-more-room-clause-long : goal.returns-then-more-room-clause-long
returns-then-more-room-clause-long c = λ sets e.
    omega
    (arith, c.if-more-room.true, c.parts.invariant.count sets, c.parts.invariant.room, c.count_of-more.ensures sets, plain_drop (map (seen_argument sets) c.args.arguments.now) c.args.parts.now c.parts.at c.index-parts-at.result c.parts-test.true c.index-parts-at.is)

pub parts-preserved : goal.parts-preserved
parts-preserved c = record {
  count = λ sets. omega
      (arith, c.parts.invariant.count sets, c.count_of-more.ensures sets, plain_drop (map (seen_argument sets) c.args.arguments.now) c.args.parts.now c.parts.at c.index-parts-at.result c.parts-test.true c.index-parts-at.is);
  room = omega (arith, c.if-more-room.false, c.parts.invariant.room);
}

pub returns-clause-count : goal.returns-clause-count
returns-clause-count c = λ sets.
    omega
    (arith, c.parts.invariant.count sets, ap (λ l. length (plain_all (map (seen_argument sets) c.args.arguments.now) l)) (drop_all c.parts.at c.args.parts.now (omega (arith, c.parts-test.false))))
