-- What the tokens of an argument put in.
use Rattle.std.specs.Prelude.{Bool, true, false, List, map}
use Rattle.cb_paste.specs.Shades.{Shaded, first_spaced}
use Rattle.cb_paste.specs.Joins.{Put, Real}
use Rattle.cb_paste.specs.Puts.{Given, as_operand}

-- what the tokens of an argument put in, beside ## or not (6.10.3.1 paragraph 1)
abbrev pub tokens_puts : Bool → Bool → List Shaded → List Put
tokens_puts true spaced ts = as_operand spaced ts
tokens_puts false spaced ts = map Real (first_spaced spaced ts)

-- the tokens of an argument that are put in beside ## or not (6.10.3.1 paragraph 1)
abbrev pub tokens_of : Bool → Given → List Shaded
tokens_of true g = g.raw
tokens_of false g = g.expanded
