-- The text of numbers, part by part.
use Rattle.std.proofs.Common.{◌≡◌, ℕ, ◌+◌, ◌-◌, ◌<◌, List, [], ◌∷◌, ◌++◌, refl, sym, ap, ◌∙◌, append_assoc, arith, decimal}
use Rattle.std.specs.List.{range_with_len}
use Prim.Native.Nat.{suc}
use Rattle.codebasin.specs.Texts.{line_text, numbers_text}

pub numbers_text_append : (a b : List ℕ) → numbers_text (a ++ b) ≡ numbers_text a ++ numbers_text b
numbers_text_append [] b = refl
numbers_text_append (n ∷ a) b =
    ap (λ t. line_text (decimal n) ++ t) (numbers_text_append a b) ∙ sym (append_assoc (line_text (decimal n)) (numbers_text a) (numbers_text b))

-- the first number of a range, and then the others
numbers_text-range : (a z : ℕ) → a < z → numbers_text (range_with_len a (z - a)) ≡ line_text (decimal a) ++ numbers_text (range_with_len (a + 1) (z - (a + 1)))
numbers_text-range a z h =
    let e : z - a ≡ suc (z - (a + 1)) = omega arith in
    ap (λ n. numbers_text (range_with_len a n)) e

-- a text with the first number of a range, and then the others
pub numbers_text_more : (text : List ℕ) (a z : ℕ) → a < z
    → (text ++ line_text (decimal a)) ++ numbers_text (range_with_len (a + 1) (z - (a + 1))) ≡ text ++ numbers_text (range_with_len a (z - a))
numbers_text_more text a z h =
    append_assoc text (line_text (decimal a)) (numbers_text (range_with_len (a + 1) (z - (a + 1)))) ∙ ap (λ t. text ++ t) (sym (numbers_text-range a z h))
