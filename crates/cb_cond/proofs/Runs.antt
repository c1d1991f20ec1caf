-- A run of operators before an operand does what its operators do.
use Rattle.std.proofs.Common.{◌≡◌, ℕ, ◌+◌, ◌-◌, ◌%◌, ◌^◌, ◌<◌, Bool, true, false, not, cond, refl, ap, sym, arith, eqb}
use Rattle.std.proofs.lemmas.Bool.Decides.{nat_tests}
use Rattle.cb_cond.specs.declared.symbol.Prefix.{Prefix}
use Rattle.cb_cond.specs.declared.symbol.Prefix.TheVariants.{Not, Complement, Plus, Minus}
use Rattle.cb_cond.specs.declared.meaning.Value.{Value}
use Rattle.cb_cond.specs.declared.meaning.Value.TheVariants.{Bits, ZeroDivisor, Shift}
use Rattle.cb_cond.specs.declared.prefixes.Prefixes.{Prefixes}
use Rattle.cb_cond.specs.declared.prefixes.Prefixes.TheVariants.{Linear, Test}
use Rattle.cb_cond.specs.inner.Prefixes.{linear, extended, applied}
use Rattle.cb_cond.specs.Values.{unary, prefix_is_unsigned, prefix_value, after_left, wrapped, truth}

-- the bits of a value
unfoldable pub FitsValue : Value → Type 0
FitsValue (Bits n) = n < 2 ^ 64
FitsValue ZeroDivisor = Unit {0}
FitsValue Shift = Unit {0}

-- the operand of a test
unfoldable pub FitsRun : Prefixes → Type 0
FitsRun (Linear negative plus) = Unit {0}
FitsRun (Test operand there elsewhere) = operand < 2 ^ 64

pub FitsRun-extended : (r : Prefixes) (p : Prefix) → FitsRun r → FitsRun (extended r p)
unfolding FitsRun extended
FitsRun-extended (Linear n c) Not h = omega arith
FitsRun-extended (Linear n c) Complement h = tt
FitsRun-extended (Linear n c) Plus h = tt
FitsRun-extended (Linear n c) Minus h = tt
FitsRun-extended (Test o a b) Not h = omega arith
FitsRun-extended (Test o a b) Complement h = omega arith
FitsRun-extended (Test o a b) Plus h = h
FitsRun-extended (Test o a b) Minus h = omega arith

linear-minus : (n : Bool) (c x : ℕ) → x < 2 ^ 64 → linear (not n) c x ≡ linear n c ((2 ^ 64 - x) % 2 ^ 64)
unfolding linear
linear-minus true c x h = omega arith
linear-minus false c x h = omega arith

linear-complement : (n : Bool) (c x : ℕ) → x < 2 ^ 64 → linear (not n) ((cond n (c + 1) (c + (2 ^ 64 - 1))) % 2 ^ 64) x ≡ linear n c ((2 ^ 64 - 1 - x) % 2 ^ 64)
unfolding linear
linear-complement true c x h = omega arith
linear-complement false c x h = omega arith

eqb-same : (a b c d : ℕ) → (a ≡ b → c ≡ d) → (c ≡ d → a ≡ b) → eqb a b ≡ eqb c d
eqb-same a b c d f g = grind (arith, nat_tests)

eqb-minus : (x o : ℕ) → x < 2 ^ 64 → o < 2 ^ 64 → eqb x ((2 ^ 64 - o) % 2 ^ 64) ≡ eqb ((2 ^ 64 - x) % 2 ^ 64) o
eqb-minus x o h k = eqb-same x ((2 ^ 64 - o) % 2 ^ 64) ((2 ^ 64 - x) % 2 ^ 64) o (λ e. omega arith) (λ e. omega arith)

eqb-complement : (x o : ℕ) → x < 2 ^ 64 → o < 2 ^ 64 → eqb x (2 ^ 64 - 1 - o) ≡ eqb ((2 ^ 64 - 1 - x) % 2 ^ 64) o
eqb-complement x o h k = eqb-same x (2 ^ 64 - 1 - o) ((2 ^ 64 - 1 - x) % 2 ^ 64) o (λ e. omega arith) (λ e. omega arith)

small : (x : ℕ) → x < 2 ^ 64 → x % 2 ^ 64 ≡ x
small x h = omega arith

linear-not : (n : Bool) (c : ℕ) (v : Bool) → Value.Bits (cond v (linear n c 1) (linear n c 0)) ≡ after_left (wrapped (truth v)) (λ m. Bits (linear n c m))
unfolding after_left wrapped truth
linear-not n c true = refl
linear-not n c false = refl

test-not : (o a b : ℕ) (v : Bool) → Value.Bits (cond v (cond (eqb o 1) a b) (cond (eqb o 0) a b)) ≡ after_left (wrapped (truth v)) (λ m. Bits (cond (eqb m o) a b))
unfolding after_left wrapped truth
test-not o a b true = ap (λ w. Bits (cond w a b)) (eqb-same o 1 1 o sym sym)
test-not o a b false = ap (λ w. Bits (cond w a b)) (eqb-same o 0 0 o sym sym)

pub applied-bits : (r : Prefixes) (p : Prefix) (u : Bool) (x : ℕ) → FitsRun r → x < 2 ^ 64
    → applied (extended r p) (record { unsigned = u; value = Bits x }) ≡ applied r (unary p (record { unsigned = u; value = Bits x }))
unfolding FitsRun extended applied unary prefix_is_unsigned prefix_value after_left wrapped
applied-bits (Linear n c) Not u x h k = ap (λ (w : Value). record { unsigned = false; value = w }) (linear-not n c (eqb x 0))
applied-bits (Linear n c) Complement u x h k = ap (λ (w : ℕ). record { unsigned = u; value = Bits w }) (linear-complement n c x k)
applied-bits (Linear n c) Plus u x h k = ap (λ (w : ℕ). record { unsigned = u; value = Bits (linear n c w) }) (sym (small x k))
applied-bits (Linear n c) Minus u x h k = ap (λ (w : ℕ). record { unsigned = u; value = Bits w }) (linear-minus n c x k)
applied-bits (Test o a b) Not u x h k = ap (λ (w : Value). record { unsigned = false; value = w }) (test-not o a b (eqb x 0))
applied-bits (Test o a b) Complement u x h k = ap (λ w. record { unsigned = false; value = Bits (cond w a b) }) (eqb-complement x o k h)
applied-bits (Test o a b) Plus u x h k = ap (λ w. record { unsigned = false; value = Bits (cond (eqb w o) a b) }) (sym (small x k))
applied-bits (Test o a b) Minus u x h k = ap (λ w. record { unsigned = false; value = Bits (cond w a b) }) (eqb-minus x o k h)
