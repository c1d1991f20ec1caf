-- One more name, or none where the tokens end.
use Rattle.std.proofs.Common.{arith, length-drop}
use Rattle.std.proofs.lemmas.List.{take_rest}
use Rattle.cb_macro.proofs.FirstItems.{more_read, none_read}
use Rattle.cb_macro.proofs.parameters.read_parameters.Goals as goal

pub names-preserved : goal.names-preserved
names-preserved c = record {
  within =
      let two = rw (take_rest c.args.tokens.now c.names.at) at c.in-More.ensures.0 in
      omega (arith, two, length-drop c.names.at c.args.tokens.now);
  read =
      rw (c.in_ok-push-in-More.ensures.items, c.in_ok-from_slice-in-More.ensures)
      (more_read c.args.tokens.now c.names.at c.names.names.items _ _ _ (take_rest c.args.tokens.now c.names.at) c.in-More.ensures.1 c.names.invariant.read);
}

pub returns-clause-bad : goal.returns-clause-bad
returns-clause-bad c = none_read _ _ _ _ c.names-test.false c.names.invariant.read
