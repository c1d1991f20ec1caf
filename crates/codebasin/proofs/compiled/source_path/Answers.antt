use Rattle.std.proofs.Common.{sym, ◌∙◌}
use Rattle.codebasin.proofs.SourcePath.{source_fault, source_path_is}
use Rattle.codebasin.proofs.compiled.source_path.Goals as goal

pub unreachable-requires : goal.unreachable-requires
unreachable-requires c =
    let bad = rw c.in-Err-Bad.field-0-is at c.in-Err-Bad.ensures.bad in
    let e = sym source_fault ∙ bad in cc

pub returns-in-Ok : goal.returns-in-Ok
returns-in-Ok c = let e = sym c.in-Ok.ensures.path ∙ source_path_is in cc
