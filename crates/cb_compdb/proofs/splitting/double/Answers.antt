use Rattle.std.proofs.Common.{arith}
use Rattle.cb_compdb.proofs.Leading.{LeadsInside-trans}
use Rattle.cb_compdb.proofs.SplitSteps.{double_read}
use Rattle.cb_compdb.proofs.splitting.double.Goals as goal

pub returns-then-first-eq34-clause-leads : goal.returns-then-first-eq34-clause-leads
returns-then-first-eq34-clause-leads c =
    double_read c.args.bytes.now c.inside.left.now c.in-Some.first.now c.in-Some.behind.now c.args.splitter.now c.inside.splitter c.inside.invariant.leads c.in-Some.ensures.cases.0 c.if-first-eq34.true

pub inside-preserved : goal.inside-preserved
inside-preserved c = record {
  leads = LeadsInside-trans c.args.bytes.now c.args.splitter.now c.inside.left.now c.inside.splitter c.in-Some-2.rest.now c.inner.new.splitter c.inside.invariant.leads (rw c.in-Some-2.is at c.in_ok-rest.ensures.leads);
  within = (let h = rw c.in-Some-2.is at c.in_ok-rest.ensures.shorter in omega arith);
}
