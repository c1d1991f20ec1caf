-- Grid values as decimals, rounded to the nearest last place and halves up. One is 10 ^ 12 on the grid.
use Rattle.std.specs.Prelude.{ℕ, ◌+◌, ◌/◌, ◌%◌, List, [], ◌∷◌, ◌++◌, codes, decimal}

-- the last two digits of a number (own)
abbrev pub two_digits : ℕ → List ℕ
two_digits n = (48 + n / 10 % 10) ∷ (48 + n % 10) ∷ []

-- a number of hundredths, with its two places (own)
abbrev pub hundredths : ℕ → List ℕ
hundredths n = decimal (n / 100) ++ codes "." ++ two_digits n

-- a number of ten thousandths, with its four places (own)
abbrev pub ten_thousandths : ℕ → List ℕ
ten_thousandths n = decimal (n / 10000) ++ codes "." ++ two_digits (n / 100) ++ two_digits n

-- a grid value in units of 10 ^ -4, rounded (own)
abbrev pub rounded : ℕ → ℕ
rounded value = (value + 50000000) / 100000000

-- a number of millionths, with its six places (own)
abbrev pub millionths : ℕ → List ℕ
millionths n = decimal (n / 1000000) ++ codes "." ++ two_digits (n / 10000) ++ two_digits (n / 100) ++ two_digits n

-- a grid value with six places (own)
abbrev pub six_places : ℕ → List ℕ
six_places value = millionths ((value + 500000) / 1000000)

-- a grid value with four places (own)
abbrev pub four_places : ℕ → List ℕ
four_places value = ten_thousandths (rounded value)

-- a grid value in percent, with two places (own)
abbrev pub percent : ℕ → List ℕ
percent value = hundredths (rounded value)
