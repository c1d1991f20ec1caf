-- The figure of a run: a decimal number, kept in millionths (own).
use Rattle.std.specs.Prelude.{ℕ, ◌+◌, ◌-◌, ◌*◌, ◌^◌, ◌==◌, ◌&&◌, not, Bool, nat_lt, nat_le, if◌then◌else◌, List, length, take, drop, Option, Some, None, option_and_then}
use Rattle.std.specs.List.{list_all, prefix_len}
use Rattle.std.specs.Char.{is_ascii_digit}
use Rattle.std.specs.Str.Parse.{digits_value}

-- the number of decimal digits of which there are at least one and at most so many; another text has none (own)
unfoldable pub counted_digits : ℕ → List ℕ → Option ℕ
counted_digits most text =
    if nat_le 1 (length text) && nat_le (length text) most && list_all is_ascii_digit text then Some (digits_value 10 text) else None

-- the millionths that the digits behind a point spell; those behind the sixth are dropped (own)
unfoldable pub sixths : List ℕ → ℕ
sixths fraction = digits_value 10 (take 6 fraction) * 10 ^ (6 - length (take 6 fraction))

-- a figure is kept unless it is positive and 0 in millionths (own)
unfoldable pub kept : ℕ → ℕ → Option ℕ
kept digits millionths = if (millionths == 0) && nat_lt 0 digits then None else Some millionths

-- the figure of so many units and of one to eighteen digits behind a point (own)
unfoldable pub with_fraction : ℕ → List ℕ → Option ℕ
with_fraction units fraction =
    option_and_then (λ all. kept (units + all) (units * 1000000 + sixths fraction)) (counted_digits 18 fraction)

-- the figure of one to nine digits, and of what stands from the point on, where there is one (own)
unfoldable pub figure_of : List ℕ → List ℕ → Option ℕ
figure_of whole rest =
    option_and_then (λ units. if length rest == 0 then Some (units * 1000000) else with_fraction units (drop 1 rest)) (counted_digits 9 whole)

-- not the byte `.` (own)
abbrev pub is_no_point : ℕ → Bool
is_no_point byte = not (byte == 46)

-- the figure of a field in millionths, where it has one; an empty field is a failed run, as 0 is (own)
unfoldable pub figure : List ℕ → Option ℕ
figure text =
    if length text == 0 then Some 0
    else figure_of (take (prefix_len is_no_point text) text) (drop (prefix_len is_no_point text) text)
