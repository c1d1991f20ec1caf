use Rattle.std.proofs.Common.{◌≡◌, ◌++◌, drop}
use Rattle.std.specs.Option.{option_map}
use Rattle.cb_pass.specs.Headers.{up_to_greater}
use Rattle.cb_pass.proofs.header.up_to_greater.Given as goal

abbrev pub invariant-tokens : goal.invariant-tokens
invariant-tokens l = option_map (λ more. l.text.items ++ more) (up_to_greater (drop l.token-index l.tokens)) ≡ up_to_greater l.tokens
