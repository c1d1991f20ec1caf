-- Equal texts.
use Rattle.std.proofs.Common.{◌≡◌, ℕ, true, List, bytes_eq}
use Rattle.std.proofs.lemmas.Slice.Eq.{bytes_eq-Decides}

-- texts that pass the test are equal
pub is_equal : (xs ys : List ℕ) → bytes_eq xs ys ≡ true → xs ≡ ys
is_equal xs ys e = (bytes_eq-Decides xs ys).0 e
