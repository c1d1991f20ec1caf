-- The grammar of conditions: which lists of symbols are conditional expressions, and with which tree (6.10.1, 6.6, 6.5).
use Rattle.std.specs.Prelude.{◌≡◌, ℕ, ◌+◌, ◌≤◌, Bool, List, [], ◌∷◌, ◌++◌}
use Rattle.cb_cond.specs.declared.symbol.Operator.{Operator}
use Rattle.cb_cond.specs.declared.symbol.Operator.TheVariants.{Or, And, BitOr, BitXor, BitAnd, Equal, Unequal, Less, Greater, AtMost, AtLeast, ShiftLeft, ShiftRight, Add, Subtract, Multiply, Divide, Remainder}
use Rattle.cb_cond.specs.declared.symbol.Prefix.{Prefix}
use Rattle.cb_cond.specs.declared.symbol.Prefix.TheVariants.{Not, Complement, Plus, Minus}
use Rattle.cb_cond.specs.declared.symbol.Symbol.{Symbol}
use Rattle.cb_cond.specs.declared.symbol.Symbol.TheVariants.{Number, Between, Exclamation, Tilde, OpenParenthesis, CloseParenthesis, Question, Colon}

-- a syntax tree, with its parentheses (6.5)
pub data Expression : Type 0 where
  Leaf : (n : ℕ) (unsigned : Bool) → Expression
  Parens : Expression → Expression
  Unary : Prefix → Expression → Expression
  Binary : Operator → Expression → Expression → Expression
  Choose : Expression → Expression → Expression → Expression

-- how an operator before its operand is spelled (6.5.3)
unfoldable pub prefix_symbol : Prefix → Symbol
prefix_symbol Not = Exclamation
prefix_symbol Complement = Tilde
prefix_symbol Plus = Between Add
prefix_symbol Minus = Between Subtract

-- the symbols that a tree spells (6.5)
unfoldable pub spelling : Expression → List Symbol
spelling (Leaf n unsigned) = Number n unsigned ∷ []
spelling (Parens a) = OpenParenthesis ∷ (spelling a ++ CloseParenthesis ∷ [])
spelling (Unary p a) = prefix_symbol p ∷ spelling a
spelling (Binary o a b) = spelling a ++ Between o ∷ spelling b
spelling (Choose a b c) = spelling a ++ Question ∷ (spelling b ++ Colon ∷ spelling c)

-- how tightly an operator binds: the level of its production (6.5.5 to 6.5.14)
unfoldable pub level : Operator → ℕ
level Or = 2
level And = 3
level BitOr = 4
level BitXor = 5
level BitAnd = 6
level Equal = 7
level Unequal = 7
level Less = 8
level Greater = 8
level AtMost = 8
level AtLeast = 8
level ShiftLeft = 9
level ShiftRight = 9
level Add = 10
level Subtract = 10
level Multiply = 11
level Divide = 11
level Remainder = 11

-- the tree is of the production of this level or of a tighter one: 0 a conditional expression, 1 what stands before its
-- question mark, 2 a logical OR, .. 11 a product, 12 a unary expression; chains group to the left (6.5.3 to 6.5.15)
unfoldable pub StandsAt : Expression → ℕ → Type 0
StandsAt (Leaf n unsigned) k = Unit {0}
StandsAt (Parens a) k = StandsAt a 0
StandsAt (Unary p a) k = StandsAt a 12
StandsAt (Binary o a b) k = (k ≤ level o) × StandsAt a (level o) × StandsAt b (level o + 1)
StandsAt (Choose a b c) k = (k ≡ 0) × StandsAt a 1 × StandsAt b 0 × StandsAt c 0

-- the symbols are a conditional expression with this tree (6.10.1, paragraph 4)
pub record IsCondition (symbols : List Symbol) (tree : Expression) : Type 0 where
  pub stands : StandsAt tree 0
  pub spelled : symbols ≡ spelling tree
