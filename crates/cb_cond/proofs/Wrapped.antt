-- 64 bits of the operators on bits
use Rattle.std.proofs.Common.{◌≡◌, ℕ, ◌<◌, ◌%◌, ◌^◌, bit_or}
use Rattle.std.proofs.Math.Nat.{mod-eq_of_lt}
use Rattle.std.specs.Int.Bits.{bit_xor}
use Rattle.std.proofs.lemmas.Nat.{or_lt, xor_lt}

pub bit_or-wrapped : (a b : ℕ) → a < 2 ^ 64 → b < 2 ^ 64 → bit_or a b % 2 ^ 64 ≡ bit_or a b
bit_or-wrapped a b h k = mod-eq_of_lt (or_lt 64 a b h k)

pub bit_xor-wrapped : (a b : ℕ) → a < 2 ^ 64 → b < 2 ^ 64 → bit_xor a b % 2 ^ 64 ≡ bit_xor a b
bit_xor-wrapped a b h k = mod-eq_of_lt (xor_lt 64 a b h k)

pub ruleset bits_wrapped = (bit_or-wrapped, bit_xor-wrapped)
