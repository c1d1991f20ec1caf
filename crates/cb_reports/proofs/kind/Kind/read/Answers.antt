use Rattle.std.proofs.Common.{◌≡◌, codes, length, rules, arith}
use Rattle.std.proofs.lemmas.Slice.Eq.{text_from_reads, HasBytesAt}
use Rattle.cb_reports.proofs.kind.Kind.read.Goals as goal

pub returns-in-portability-clause-known : goal.returns-in-portability-clause-known
returns-in-portability-clause-known c =
    let len : length c.args.name.now ≡ length (codes "portability") = omega arith in
    let bytes : HasBytesAt c.args.name.now 0 (codes "portability") = search rules depth 30 in
    text_from_reads c.args.name.now (codes "portability") len bytes
