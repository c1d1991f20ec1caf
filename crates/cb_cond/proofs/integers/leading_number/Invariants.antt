use Rattle.std.proofs.Common.{◌≡◌, ◌+◌, ◌-◌, ◌≤◌, length, take, drop}
use Rattle.std.specs.List.{prefix_len}
use Rattle.cb_cond.specs.Integers.{is_digit, amount}
use Rattle.cb_cond.proofs.integers.leading_number.Given as goal

-- the first bytes are digits, and this is their number
abbrev pub invariant-digits : goal.invariant-digits
invariant-digits l = record {
  counted : l.len + prefix_len (is_digit l.base) (drop l.len l.text) ≡ prefix_len (is_digit l.base) l.text;
  value : l.sum ≡ amount l.base (take l.len l.text);
  within : l.len ≤ length l.text;
}

abbrev pub decreases-digits : goal.decreases-digits
decreases-digits l = length l.text - l.len
