-- Which places are UTF-8.
use Rattle.std.proofs.Common.{◌≡◌, ℕ, Bool, true, false, List, refl}
use Rattle.std.specs.Str.{is_utf8, IsUtf8}
use Rattle.std.proofs.lemmas.Str.{IsUtf8-from_is_utf8, is_utf8-from_IsUtf8}

-- a text is UTF-8
pub has_text : (bytes : List ℕ) → IsUtf8 bytes → is_utf8 bytes ≡ true
has_text bytes h = is_utf8-from_IsUtf8 bytes h

no_case : (b : Bool) → (b ≡ true → ⊥) → b ≡ false
no_case true h = absurd (h refl)
no_case false h = refl

-- bytes that are none are not
pub has_no_text : (bytes : List ℕ) → ¬ (IsUtf8 bytes) → is_utf8 bytes ≡ false
has_no_text bytes h = no_case (is_utf8 bytes) (λ e. h (IsUtf8-from_is_utf8 bytes e))
