-- Reading a condition from the left, over trees: a stack of places that wait for what follows.
use Rattle.std.proofs.Common.{ℕ, Bool, false, cond, List, [], ◌∷◌, Option, Some, None, eqb, leb}
use Rattle.cb_cond.specs.declared.symbol.Operator.{Operator}
use Rattle.cb_cond.specs.declared.symbol.Operator.TheVariants.{Add, Subtract}
use Rattle.cb_cond.specs.declared.symbol.Prefix.{Prefix}
use Rattle.cb_cond.specs.declared.symbol.Prefix.TheVariants.{Not, Complement, Plus, Minus}
use Rattle.cb_cond.specs.declared.symbol.Symbol.{Symbol}
use Rattle.cb_cond.specs.declared.symbol.Symbol.TheVariants.{Number, Between, Exclamation, Tilde, OpenParenthesis, CloseParenthesis, Question, Colon, WideInteger, Stray}
use Rattle.cb_cond.specs.Grammar.{Expression, Leaf, Parens, Unary, Binary, Choose, level}

-- what waits: the left operand of an operator, a parenthesis behind prefix operators (the last first), a choice
pub data Place : Type 0 where
  Left : Operator → Expression → Place
  Inside : List Prefix → Place
  Asked : Expression → Place
  Answered : Expression → Expression → Place

-- what has been read: an operand is to come behind prefix operators, or one has come
pub data Reading : Type 0 where
  Awaits : List Place → List Prefix → Reading
  Has : List Place → Expression → Reading
  Failed : Reading

-- the tree of an operand behind prefix operators
unfoldable pub unaries : List Prefix → Expression → Expression
unaries [] t = t
unaries (p ∷ ps) t = unaries ps (Unary p t)

-- what follows binds at most as tightly as k, and so ends the place
unfoldable pub ends : ℕ → Place → Bool
ends k (Left o a) = leb k (level o)
ends k (Inside ps) = false
ends k (Asked a) = false
ends k (Answered a b) = eqb k 0

-- the tree of a place with its last operand
unfoldable pub joined : Place → Expression → Expression
joined (Left o a) b = Binary o a b
joined (Inside ps) b = b
joined (Asked a) b = b
joined (Answered a b) c = Choose a b c

-- what is left of the places and the tree once what follows has ended places
pub record Closed : Type 0 where
  pub places : List Place
  pub tree : Expression

unfoldable pub collapse : ℕ → List Place → Expression → Closed
collapse k [] a = record { places = []; tree = a }
collapse k (f ∷ fs) a = cond (ends k f) (collapse k fs (joined f a)) (record { places = f ∷ fs; tree = a })

unfoldable pub awaiting : List Place → List Prefix → Symbol → Reading
awaiting fs ps (Number n unsigned) = Has fs (unaries ps (Leaf n unsigned))
awaiting fs ps (Between Add) = Awaits fs (Plus ∷ ps)
awaiting fs ps (Between Subtract) = Awaits fs (Minus ∷ ps)
awaiting fs ps Exclamation = Awaits fs (Not ∷ ps)
awaiting fs ps Tilde = Awaits fs (Complement ∷ ps)
awaiting fs ps OpenParenthesis = Awaits (Inside ps ∷ fs) []
awaiting fs ps _ = Failed

unfoldable pub answered : List Place → Expression → Reading
answered [] b = Failed
answered (Left o a ∷ fs) b = Failed
answered (Inside ps ∷ fs) b = Failed
answered (Asked a ∷ fs) b = Awaits (Answered a b ∷ fs) []
answered (Answered a c ∷ fs) b = Failed

unfoldable pub closed : List Place → Expression → Reading
closed [] a = Failed
closed (Left o b ∷ fs) a = Failed
closed (Inside ps ∷ fs) a = Has fs (unaries ps (Parens a))
closed (Asked b ∷ fs) a = Failed
closed (Answered b c ∷ fs) a = Failed

unfoldable pub holding : List Place → Expression → Symbol → Reading
holding fs a (Number n unsigned) = Failed
holding fs a (Between o) = Awaits (Left o (collapse (level o) fs a).tree ∷ (collapse (level o) fs a).places) []
holding fs a Exclamation = Failed
holding fs a Tilde = Failed
holding fs a OpenParenthesis = Failed
holding fs a CloseParenthesis = closed (collapse 0 fs a).places (collapse 0 fs a).tree
holding fs a Question = Awaits (Asked (collapse 1 fs a).tree ∷ (collapse 1 fs a).places) []
holding fs a Colon = answered (collapse 0 fs a).places (collapse 0 fs a).tree
holding fs a WideInteger = Failed
holding fs a Stray = Failed

unfoldable pub step : Reading → Symbol → Reading
step (Awaits fs ps) s = awaiting fs ps s
step (Has fs a) s = holding fs a s
step Failed s = Failed

unfoldable pub run : List Symbol → Reading → Reading
run [] r = r
run (s ∷ ss) r = run ss (step r s)

unfoldable pub whole : List Place → Expression → Option Expression
whole [] a = Some a
whole (f ∷ fs) a = None

unfoldable pub ended : Reading → Option Expression
ended (Awaits fs ps) = None
ended (Has fs a) = whole (collapse 0 fs a).places (collapse 0 fs a).tree
ended Failed = None

-- the tree that is read in the end
unfoldable pub outcome : List Symbol → Reading → Option Expression
outcome ss r = ended (run ss r)
