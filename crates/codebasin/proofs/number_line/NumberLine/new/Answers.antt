use Rattle.std.proofs.Common.{arith}
use Rattle.std.proofs.lemmas.Fmt.{length-decimal-le}
use Rattle.codebasin.proofs.number_line.NumberLine.new.Goals as goal

pub write_digits-start-requires : goal.write_digits-start-requires
write_digits-start-requires c = (length-decimal-le 10 c.from.result (omega arith) (omega (arith, c.from.ensures)) (omega (arith, c.from.ensures)), omega arith)
