-- Integer constants (6.4.4.1; binary ones and the ' are own, after C++14).
use Rattle.std.specs.Prelude.{◌≡◌, ◌≢◌, ◌⊎◌, ◌++◌, ℕ, ◌==◌, ◌+◌, ◌-◌, ◌*◌, ◌^◌, ◌&&◌, ◌||◌, Bool, true, false, nat_lt, nat_le, if◌then◌else◌, List, [], ◌∷◌, take, drop, slice_index, codes}
use Rattle.std.specs.List.{fold, prefix_len, list_any}
use Rattle.std.specs.Str.{bytes_eq}
use Rattle.cb_cond.specs.declared.symbol.Symbol.{Symbol}
use Rattle.cb_cond.specs.declared.symbol.Symbol.TheVariants.{Number, WideInteger, Stray}

-- the value of a digit, and 16 of a byte that is none (6.4.4.1)
unfoldable pub digit_value : ℕ → ℕ
digit_value byte =
    if nat_le 48 byte && nat_le byte 57 then byte - 48
    else (if nat_le 97 byte && nat_le byte 102 then byte - 87
    else (if nat_le 65 byte && nat_le byte 70 then byte - 55 else 16))

-- a digit of the base (6.4.4.1)
unfoldable pub is_digit : ℕ → ℕ → Bool
is_digit base byte = nat_lt (digit_value byte) base

-- digits of the base, at least one, where each ' stands between two of them; `after` tells that one stands before
-- (6.4.4.1; own)
unfoldable pub are_digits : ℕ → Bool → List ℕ → Bool
are_digits base after [] = after
are_digits base after (b ∷ bs) =
    if b == 39 then after && are_digits base false bs else is_digit base b && are_digits base true bs

-- the number with one digit more; a ' is dropped (6.4.4.1, paragraph 4; own)
unfoldable pub next_amount : ℕ → ℕ → ℕ → ℕ
next_amount base n byte = if byte == 39 then n else n * base + digit_value byte

-- the number of digits of a base (6.4.4.1, paragraph 4)
unfoldable pub amount : ℕ → List ℕ → ℕ
amount base digits = fold (next_amount base) 0 digits

-- the suffixes of signed integers (6.4.4.1)
unfoldable pub signed_suffixes : List (List ℕ)
signed_suffixes = codes "" ∷ codes "l" ∷ codes "L" ∷ codes "ll" ∷ codes "LL" ∷ []

-- the suffixes of unsigned integers (6.4.4.1)
unfoldable pub unsigned_suffixes : List (List ℕ)
unsigned_suffixes =
    codes "u" ∷ codes "U"
    ∷ codes "ul" ∷ codes "uL" ∷ codes "Ul" ∷ codes "UL" ∷ codes "ull" ∷ codes "uLL" ∷ codes "Ull" ∷ codes "ULL"
    ∷ codes "lu" ∷ codes "Lu" ∷ codes "lU" ∷ codes "LU" ∷ codes "llu" ∷ codes "LLu" ∷ codes "llU" ∷ codes "LLU" ∷ []

-- the text is in the list (own)
unfoldable pub is_among : List (List ℕ) → List ℕ → Bool
is_among texts text = list_any (λ t. bytes_eq text t) texts

-- the base by what the integer begins with (6.4.4.1)
unfoldable pub base_of : List ℕ → ℕ
base_of text =
    if slice_index text 0 == 48
    then (if (slice_index text 1 == 120) || (slice_index text 1 == 88) then 16
    else (if (slice_index text 1 == 98) || (slice_index text 1 == 66) then 2 else 8))
    else 10

-- the bytes that only mark the base: 0x, 0X, 0b or 0B (6.4.4.1)
unfoldable pub mark_len : ℕ → ℕ
mark_len base = if (base == 16) || (base == 2) then 2 else 0

-- a number of an integer: unsigned where the suffix says so or where it is 2^63 or more (6.4.4.1, paragraph 5; own)
unfoldable pub number : ℕ → Bool → Symbol
number n unsigned = if nat_lt n (2 ^ 64) then Number n (unsigned || nat_le (2 ^ 63) n) else WideInteger

-- digits and what follows them (6.4.4.1)
unfoldable pub with_suffix : ℕ → List ℕ → List ℕ → Symbol
with_suffix base digits suffix =
    if are_digits base false digits
    then (if is_among signed_suffixes suffix then number (amount base digits) false
    else (if is_among unsigned_suffixes suffix then number (amount base digits) true else Stray))
    else Stray

-- a byte of the digits: a digit of the base, or a ' (6.4.4.1; own)
unfoldable pub is_digit_byte : ℕ → ℕ → Bool
is_digit_byte base byte = is_digit base byte || (byte == 39)

-- what stands behind the mark: as many bytes of digits as there are, and then the suffix (6.4.4.1)
unfoldable pub behind_mark : ℕ → List ℕ → Symbol
behind_mark base text =
    let n = prefix_len (is_digit_byte base) text in with_suffix base (take n text) (drop n text)

-- what a number is to the grammar: an integer, or else in no form of it (6.4.4.1; 6.10.1, paragraph 1)
unfoldable pub integer : List ℕ → Symbol
integer text = behind_mark (base_of text) (drop (mark_len (base_of text)) text)

-- the mark of a base, and how the digits behind it begin (6.4.4.1; binary ones are own)
abbrev pub HasMark : ℕ → List ℕ → List ℕ → Type 0
HasMark base mark digits =
    ((base ≡ 16) × ((mark ≡ codes "0x") ⊎ (mark ≡ codes "0X")))
    ⊎ ((base ≡ 2) × ((mark ≡ codes "0b") ⊎ (mark ≡ codes "0B")))
    ⊎ ((base ≡ 8) × (mark ≡ []) × (slice_index digits 0 ≡ 48))
    ⊎ ((base ≡ 10) × (mark ≡ []) × (slice_index digits 0 ≢ 48))

-- the suffixes of a type (6.4.4.1)
unfoldable pub suffixes : Bool → List (List ℕ)
suffixes true = unsigned_suffixes
suffixes false = signed_suffixes

-- the text is an integer: a mark, digits and a suffix, which tells whether it says unsigned (6.4.4.1)
pub record IsInteger (text : List ℕ) (n : ℕ) (unsigned : Bool) : Type 0 where
  pub base : ℕ
  pub mark : List ℕ
  pub digits : List ℕ
  pub suffix : List ℕ
  pub spelled : text ≡ mark ++ (digits ++ suffix)
  pub marked : HasMark base mark digits
  pub in_base : are_digits base false digits ≡ true
  pub suffixed : is_among (suffixes unsigned) suffix ≡ true
  pub value : n ≡ amount base digits
