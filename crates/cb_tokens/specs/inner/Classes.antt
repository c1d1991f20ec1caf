-- Classes of bytes, by what may begin with them.
use Rattle.std.specs.Prelude.{◌≡◌, ℕ, ◌<◌, ◌==◌, Bool, if◌then◌else◌, List, length, slice_index, codes}
use Rattle.std.specs.List.{list_any}
use Rattle.std.specs.Char.{is_ascii_digit}
use Rattle.cb_lines.specs.Marks.{is_line_feed}
use Rattle.cb_tokens.specs.Forms.{is_white, is_name_start, is_prefix_letter, is_quote}
use Rattle.cb_tokens.specs.declared.class.Class.{Class}
use Rattle.cb_tokens.specs.declared.class.Class.TheVariants as classes

-- the byte is one of these (own)
abbrev pub is_among : List ℕ → ℕ → Bool
is_among set byte = list_any (λ b. b == byte) set

-- the class of a byte (own)
unfoldable pub class_of : ℕ → Class
class_of byte =
    if is_prefix_letter byte then classes.Prefix
    else (if is_name_start byte then classes.Name
    else (if is_ascii_digit byte then classes.Digit
    else (if is_white byte then classes.White
    else (if is_line_feed byte then classes.LineFeed
    else (if is_quote byte then classes.Quote
    else (if byte == 46 then classes.Point
    else (if byte == 47 then classes.Slash
    else (if is_among (codes "[](){}~?;,") byte then classes.Single
    else (if is_among (codes "-+&*!%<>^|:=#") byte then classes.Operator
    else classes.Stray)))))))))

-- the bytes begin with a byte of the class (own)
pub record BeginsIn (class : Class) (bytes : List ℕ) : Type 0 where
  pub some : 0 < length bytes
  pub byte : slice_index bytes 0 < 256
  pub is : class_of (slice_index bytes 0) ≡ class
