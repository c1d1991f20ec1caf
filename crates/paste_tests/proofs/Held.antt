-- Tokens and arguments that are added at the end.
use Rattle.std.proofs.Common.{ℕ, ◌≤◌, List, [], ◌∷◌, ◌++◌}
use Rattle.cb_paste.specs.declared.work_token.WorkToken.{WorkToken}
use Rattle.cb_paste.specs.declared.argument.Argument.{Argument}
use Rattle.cb_paste.specs.Shades.{AreIn}
use Rattle.cb_paste.specs.Puts.{AreArgumentsIn}

pub token_push : (count : ℕ) (ts : List WorkToken) (t : WorkToken) → AreIn count ts → t.hides ≤ count → AreIn count (ts ++ t ∷ [])
token_push count [] t o h = (h, tt)
token_push count (u ∷ us) t o h = (o.0, token_push count us t o.1 h)

pub argument_push : (count : ℕ) (args : List Argument) (a : Argument) → AreArgumentsIn count args → AreIn count a.raw.items → AreIn count a.expanded.items → AreArgumentsIn count (args ++ a ∷ [])
argument_push count [] a o h g = (h, g, tt)
argument_push count (x ∷ xs) a o h g = (o.0, o.1, argument_push count xs a o.2 h g)
