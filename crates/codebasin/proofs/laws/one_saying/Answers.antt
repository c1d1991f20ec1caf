use Rattle.codebasin.proofs.OneSaying.{Laws, one_saying}
use Rattle.codebasin.proofs.laws.one_saying.Goals as goal

pub returns : goal.returns
returns c =
    let L : Laws = record { one_pass = c.one_pass.ensures; one_reading = c.one_reading.ensures } in one_saying L
