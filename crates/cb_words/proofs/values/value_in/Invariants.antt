use Rattle.std.proofs.Common.{◌≡◌, drop}
use Rattle.cb_words.specs.Values.{value_in}
use Rattle.cb_words.proofs.values.value_in.Given as goal

-- the parts so far give the option no value
abbrev pub invariant-parts : goal.invariant-parts
invariant-parts l = value_in l.option (drop l.part-index l.parts) ≡ value_in l.option l.parts
