-- The names of platforms, problems and applications.
use Rattle.std.specs.Prelude.{ℕ, ◌-◌, ◌==◌, ◌&&◌, ◌||◌, nat_le, not, Bool, List, length, slice_index}
use Rattle.std.specs.List.{list_all}

-- a printable byte of ASCII other than those that part names in reports (own)
unfoldable pub is_name_byte : ℕ → Bool
is_name_byte byte =
    nat_le 32 byte && nat_le byte 126 && not ((byte == 44) || (byte == 123) || (byte == 125) || (byte == 34))

-- 1 to 64 such bytes, with no space at either end (own)
unfoldable pub is_name : List ℕ → Bool
is_name bytes =
    nat_le 1 (length bytes) && nat_le (length bytes) 64
    && not (slice_index bytes 0 == 32) && not (slice_index bytes (length bytes - 1) == 32)
    && list_all is_name_byte bytes
