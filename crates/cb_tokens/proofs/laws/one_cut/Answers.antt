use Rattle.cb_tokens.proofs.OneCut.{same_first, same_cut, same_lines, no_cut, same_open}
use Rattle.cb_tokens.proofs.laws.one_cut.Goals as goal

pub returns : goal.returns
returns c = record { first = same_first; cut = same_cut; lines = same_lines; no_cut = no_cut; line = same_open }
