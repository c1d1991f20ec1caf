use Rattle.std.proofs.Common.{◌≡◌, ◌∷◌, ℕ, List, map, take, true}
use Rattle.cb_paste.specs.Shades.{seen}
use Rattle.cb_paste.specs.Strings.{spelled_all}
use Rattle.cb_paste.proofs.quoting.quoted.Given as goal

abbrev pub invariant-tokens : goal.invariant-tokens
invariant-tokens l = (sets : List (List ℕ)) → l.text.items ≡ 34 ∷ spelled_all true (map (seen sets) (take l.at l.tokens))
