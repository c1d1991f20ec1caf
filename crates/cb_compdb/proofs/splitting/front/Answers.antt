use Rattle.std.proofs.Common.{sym}
use Rattle.std.proofs.lemmas.Bool.{ne_eqb}
use Rattle.cb_compdb.proofs.SplitSteps.{gap_read, plain_byte}
use Rattle.cb_compdb.proofs.splitting.front.Goals as goal

pub returns-then-is_gap-clause-leads : goal.returns-then-is_gap-clause-leads
returns-then-is_gap-clause-leads c =
    gap_read c.args.first c.args.bytes.now c.args.behind.now c.args.splitter.now c.end.new.self c.requires (sym c.if-is_gap.ensures) c.in_ok-end.ensures.ends

pub plain-requires-clause-plain : goal.plain-requires-clause-plain
plain-requires-clause-plain c =
    plain_byte c.args.first (sym c.if-is_gap.ensures) (ne_eqb _ _ c.if-first-eq92.false) (ne_eqb _ _ c.if-first-eq39.false) (ne_eqb _ _ c.if-first-eq34.false)
