-- The types and values of trees (6.10.1, paragraph 4: every integer has the width of intmax_t, here 64 bits).
use Rattle.std.specs.Prelude.{◌==◌, ℕ, ◌+◌, ◌-◌, ◌*◌, ◌/◌, ◌%◌, ◌^◌, ◌||◌, Bool, false, not, nat_lt, if◌then◌else◌, ℤ, int_lt, int_div, int_rem, bit_and, bit_or, bit_xor}
use Rattle.std.specs.Int.{cast_signed, cast_unsigned, int_shr}
use mir.Syntax.{w64}
use Rattle.cb_cond.specs.declared.symbol.Operator.{Operator}
use Rattle.cb_cond.specs.declared.symbol.Operator.TheVariants.{Or, And, BitOr, BitXor, BitAnd, Equal, Unequal, Less, Greater, AtMost, AtLeast, ShiftLeft, ShiftRight, Add, Subtract, Multiply, Divide, Remainder}
use Rattle.cb_cond.specs.declared.symbol.Prefix.{Prefix}
use Rattle.cb_cond.specs.declared.symbol.Prefix.TheVariants.{Not, Complement, Plus, Minus}
use Rattle.cb_cond.specs.declared.meaning.Value.{Value}
use Rattle.cb_cond.specs.declared.meaning.Value.TheVariants.{Bits, ZeroDivisor, Shift}
use Rattle.cb_cond.specs.declared.meaning.Meaning.{Meaning}
use Rattle.cb_cond.specs.Grammar.{Expression, Leaf, Parens, Unary, Binary, Choose}

-- the type of an operator's result, by those of its operands: a shift has that of its left operand, a comparison and a
-- logical operator are signed, and any other is unsigned where an operand is (6.3.1.8, 6.5.5 to 6.5.14)
unfoldable pub result_is_unsigned : Operator → Bool → Bool → Bool
result_is_unsigned Or a b = false
result_is_unsigned And a b = false
result_is_unsigned Equal a b = false
result_is_unsigned Unequal a b = false
result_is_unsigned Less a b = false
result_is_unsigned Greater a b = false
result_is_unsigned AtMost a b = false
result_is_unsigned AtLeast a b = false
result_is_unsigned ShiftLeft a b = a
result_is_unsigned ShiftRight a b = a
result_is_unsigned _ a b = a || b

-- the type of a result of an operator before its operand (6.5.3.3)
unfoldable pub prefix_is_unsigned : Prefix → Bool → Bool
prefix_is_unsigned Not a = false
prefix_is_unsigned _ a = a

-- 1 where it holds, else 0 (6.5.8, paragraph 6)
unfoldable pub truth : Bool → Value
truth holds = if holds then Bits 1 else Bits 0

-- the number that 64 bits are as a signed integer in two's complement (6.2.6.2)
abbrev pub signed : ℕ → ℤ
signed bits = cast_signed w64 bits

-- the bits of a number in two's complement (6.2.6.2)
abbrev pub bits_of : ℤ → ℕ
bits_of z = cast_unsigned w64 z

-- a comparison of numbers of one type (6.5.8)
unfoldable pub is_less : Bool → ℕ → ℕ → Bool
is_less unsigned a b = if unsigned then nat_lt a b else int_lt (signed a) (signed b)

-- a quotient, truncated toward zero (6.5.5, paragraph 6)
unfoldable pub quotient : Bool → ℕ → ℕ → Value
quotient unsigned a b =
    if b == 0 then ZeroDivisor else Bits (if unsigned then a / b else bits_of (int_div (signed a) (signed b)))

-- the remainder that belongs to it (6.5.5, paragraph 6)
unfoldable pub remainder : Bool → ℕ → ℕ → Value
remainder unsigned a b =
    if b == 0 then ZeroDivisor else Bits (if unsigned then a % b else bits_of (int_rem (signed a) (signed b)))

-- a shift to the left by a number of the type of the right operand (6.5.7, paragraph 4); a negative one has bits of 2^63
-- and above
unfoldable pub shift_left : ℕ → ℕ → Value
shift_left a b = if nat_lt b 64 then Bits (a * 2 ^ b) else Shift

-- a shift to the right, which keeps the sign (6.5.7, paragraph 5)
unfoldable pub shift_right : Bool → ℕ → ℕ → Value
shift_right unsigned a b =
    if nat_lt b 64 then Bits (if unsigned then a / 2 ^ b else bits_of (int_shr (signed a) b)) else Shift

-- 64 bits of a value: unsigned results are reduced, signed results wrap (6.2.5, paragraph 9; for signed ones own)
unfoldable pub wrapped : Value → Value
wrapped (Bits n) = Bits (n % 2 ^ 64)
wrapped ZeroDivisor = ZeroDivisor
wrapped Shift = Shift

-- the value of an operator that evaluates both operands, of which the bits and the types are given (6.5.5 to 6.5.12)
unfoldable pub operated : Operator → Bool → Bool → ℕ → ℕ → Value
operated Or ua ub a b = truth (not (a == 0) || not (b == 0))
operated And ua ub a b = truth (not ((a == 0) || (b == 0)))
operated BitOr ua ub a b = Bits (bit_or a b)
operated BitXor ua ub a b = Bits (bit_xor a b)
operated BitAnd ua ub a b = Bits (bit_and a b)
operated Equal ua ub a b = truth (a == b)
operated Unequal ua ub a b = truth (not (a == b))
operated Less ua ub a b = truth (is_less (ua || ub) a b)
operated Greater ua ub a b = truth (is_less (ua || ub) b a)
operated AtMost ua ub a b = truth (not (is_less (ua || ub) b a))
operated AtLeast ua ub a b = truth (not (is_less (ua || ub) a b))
operated ShiftLeft ua ub a b = shift_left a b
operated ShiftRight ua ub a b = shift_right ua a b
operated Add ua ub a b = Bits (a + b)
operated Subtract ua ub a b = Bits (a + (2 ^ 64 - b))
operated Multiply ua ub a b = Bits (a * b)
operated Divide ua ub a b = quotient (ua || ub) a b
operated Remainder ua ub a b = remainder (ua || ub) a b

-- what is left to do once the left operand has this value (own: a fault ends the evaluation)
unfoldable pub after_left : Value → (ℕ → Value) → Value
after_left (Bits a) f = f a
after_left ZeroDivisor f = ZeroDivisor
after_left Shift f = Shift

-- the left operand alone decides: 0 decides &&, and all else decides || (6.5.13, paragraph 4; 6.5.14, paragraph 4)
unfoldable pub is_decided : Operator → ℕ → Bool
is_decided And a = a == 0
is_decided Or a = not (a == 0)
is_decided _ a = false

-- the value of a binary operator: the left operand first, and then the right one where it is evaluated (6.5.5 to 6.5.14)
unfoldable pub binary_value : Operator → Bool → Bool → Value → Value → Value
binary_value o ua ub a b =
    after_left a (λ m. if is_decided o m then truth (not (m == 0)) else after_left b (λ n. operated o ua ub m n))

-- the value of an operator before its operand (6.5.3.3)
unfoldable pub prefix_value : Prefix → ℕ → Value
prefix_value Not a = truth (a == 0)
prefix_value Complement a = Bits (2 ^ 64 - 1 - a)
prefix_value Plus a = Bits a
prefix_value Minus a = Bits (2 ^ 64 - a)

-- ? evaluates the operand that its condition chooses (6.5.15, paragraph 4)
unfoldable pub chosen_value : Value → Value → Value → Value
chosen_value a b c = after_left a (λ m. if m == 0 then c else b)

-- the meaning of an operator's result (6.5.5 to 6.5.14)
unfoldable pub binary : Operator → Meaning → Meaning → Meaning
binary o a b = record {
  unsigned = result_is_unsigned o a.unsigned b.unsigned;
  value = wrapped (binary_value o a.unsigned b.unsigned a.value b.value);
}

-- the meaning of the result of an operator before its operand (6.5.3.3)
unfoldable pub unary : Prefix → Meaning → Meaning
unary p a = record { unsigned = prefix_is_unsigned p a.unsigned; value = wrapped (after_left a.value (prefix_value p)) }

-- the meaning of a choice: unsigned where a branch is, also one that is not chosen (6.5.15, paragraph 5)
unfoldable pub choose : Meaning → Meaning → Meaning → Meaning
choose a b c = record { unsigned = b.unsigned || c.unsigned; value = chosen_value a.value b.value c.value }

-- the type and the value of a tree (6.5)
unfoldable pub meaning : Expression → Meaning
meaning (Leaf n unsigned) = record { unsigned = unsigned; value = wrapped (Bits n) }
meaning (Parens a) = meaning a
meaning (Unary p a) = unary p (meaning a)
meaning (Binary o a b) = binary o (meaning a) (meaning b)
meaning (Choose a b c) = choose (meaning a) (meaning b) (meaning c)
