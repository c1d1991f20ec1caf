use Rattle.std.proofs.Common.{◌++◌, [], List, map, drop}
use Rattle.cb_pass.specs.States.{Waiting, Given}
use Rattle.cb_pass.specs.Files.{Files}
use Rattle.cb_pass.specs.inner.Trails.{state_of}
use Rattle.cb_pass.specs.inner.Moves.{Goes}
use Rattle.cb_pass.proofs.walking.take_words.Given as goal

abbrev pub invariant-words : goal.invariant-words
invariant-words l =
    (files : Files) (waiting : List Waiting) → Goes files l.command
    (state_of l.initial.trail [] (map Given l.op-items ++ waiting)) (state_of l.trail [] (map Given (drop l.op-index l.op-items) ++ waiting))
