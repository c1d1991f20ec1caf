use Rattle.std.proofs.Common.{◌≡◌, map}
use Rattle.cb_include.specs.declared.op.Op.TheVariants.{Define}
use Rattle.codebasin.proofs.compiled.definitions.Given as goal

-- the words so far are defined
abbrev pub invariant-words : goal.invariant-words
invariant-words l = l.ops ≡ map Define l.yielded
