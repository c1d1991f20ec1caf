-- A run of operators before an operand, as one function of 64 bits (own: how the code keeps it).
use Rattle.std.specs.Prelude.{ℕ, ◌==◌, ◌+◌, ◌-◌, ◌%◌, ◌^◌, Bool, false, not, if◌then◌else◌}
use Rattle.cb_cond.specs.declared.symbol.Prefix.{Prefix}
use Rattle.cb_cond.specs.declared.symbol.Prefix.TheVariants.{Not, Complement, Plus, Minus}
use Rattle.cb_cond.specs.declared.meaning.Value.TheVariants.{Bits}
use Rattle.cb_cond.specs.declared.meaning.Meaning.{Meaning}
use Rattle.cb_cond.specs.declared.prefixes.Prefixes.{Prefixes}
use Rattle.cb_cond.specs.declared.prefixes.Prefixes.TheVariants.{Linear, Test}
use Rattle.cb_cond.specs.Values.{after_left}

-- a number, plus the operand or less it
unfoldable pub linear : Bool → ℕ → ℕ → ℕ
linear negative plus operand = (if negative then plus + (2 ^ 64 - operand) else plus + operand) % 2 ^ 64

-- the run with one more operator next to the operand
unfoldable pub extended : Prefixes → Prefix → Prefixes
extended (Linear negative plus) Not = Test 0 (linear negative plus 1) (linear negative plus 0)
extended (Linear negative plus) Complement =
    Linear (not negative) ((if negative then plus + 1 else plus + (2 ^ 64 - 1)) % 2 ^ 64)
extended (Linear negative plus) Plus = Linear negative plus
extended (Linear negative plus) Minus = Linear (not negative) plus
extended (Test operand there elsewhere) Not =
    Test 0 (if operand == 1 then there else elsewhere) (if operand == 0 then there else elsewhere)
extended (Test operand there elsewhere) Complement = Test (2 ^ 64 - 1 - operand) there elsewhere
extended (Test operand there elsewhere) Plus = Test operand there elsewhere
extended (Test operand there elsewhere) Minus = Test ((2 ^ 64 - operand) % 2 ^ 64) there elsewhere

-- what the run makes of an operand
unfoldable pub applied : Prefixes → Meaning → Meaning
applied (Linear negative plus) m =
    record { unsigned = m.unsigned; value = after_left m.value (λ n. Bits (linear negative plus n)) }
applied (Test operand there elsewhere) m =
    record { unsigned = false; value = after_left m.value (λ n. Bits (if n == operand then there else elsewhere)) }
