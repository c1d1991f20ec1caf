use Rattle.std.proofs.Common.{◌≡◌, [], take, drop}
use Rattle.cb_words.specs.Parts.{first_fault}
use Rattle.cb_words.proofs.first_fault.first_fault.Given as goal

-- the parts so far have no fault
abbrev pub invariant-parts : goal.invariant-parts
invariant-parts l = first_fault (take l.i l.parts) (drop l.i l.parts) ≡ first_fault [] l.parts
