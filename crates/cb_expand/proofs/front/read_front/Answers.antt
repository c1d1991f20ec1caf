use Rattle.std.proofs.Common.{sym, subst, arith}
use Rattle.std.proofs.lemmas.List.{take_rest}
use Rattle.cb_expand.specs.inner.Fronts.{AreRead}
use Rattle.cb_expand.proofs.Fronts.{none_read, read_on}
use Rattle.cb_expand.proofs.front.read_front.Goals as goal

pub tokens-init : goal.tokens-init
tokens-init c = (subst (λ out. AreRead c.args.macros.now c.args.mode c.args.tokens.now 0 out 0) (sym c.requires) (none_read c.args.macros.now c.args.mode c.args.tokens.now), omega arith)

pub tokens-preserved : goal.tokens-preserved
tokens-preserved c =
    let ts = c.args.tokens.now in
    let r = c.in_ok-read.ensures.read in
    (read_on c.args.macros.now c.args.mode ts _ c.tokens.at c.in_ok-read.read.count c.tokens.out c.read_first.new.out r.0 c.tokens.paid c.in_ok-read.read.paid (take_rest ts c.tokens.at) r.1 c.tokens.invariant.0 r.2, omega (arith, c.in_ok-read.ensures.within, c.tokens.invariant.1))

pub returns-then-read-eq0-clause-read : goal.returns-then-read-eq0-clause-read
returns-then-read-eq0-clause-read c =
    let ts = c.args.tokens.now in
    let r = c.in_ok-read.ensures.read in
    read_on c.args.macros.now c.args.mode ts _ c.tokens.at c.in_ok-read.read.count c.tokens.out c.read_first.new.out r.0 c.tokens.paid c.in_ok-read.read.paid (take_rest ts c.tokens.at) r.1 c.tokens.invariant.0 r.2
