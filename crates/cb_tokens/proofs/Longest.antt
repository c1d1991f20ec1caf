-- The longest prefix of a form, one byte further on.
use Rattle.std.proofs.Common.{◌≡◌, ℕ, suc, zero, ◌+◌, ◌<◌, ◌≤◌, Bool, false, List, [], ◌∷◌, length, get_or, take, drop, sym, ◌∙◌, subst, arith, get_or-drop}
use Rattle.std.proofs.lemmas.List.{drop_more}
use Rattle.cb_tokens.specs.Cut.{NoneLonger}
use Rattle.cb_tokens.specs.inner.Scan.{IsLongest, HasNone}

module _ (f g : List ℕ → Bool) (b : ℕ) (bs : List ℕ) (goes : (m : ℕ) → f (b ∷ take m bs) ≡ g (take m bs)) where
  pub within_on : (r : ℕ) → NoneLonger g bs r → NoneLonger f (b ∷ bs) (suc r)
  within_on r w zero le h = omega arith
  within_on r w (suc m) le h = let k : m ≤ r = w m (omega arith) (sym (goes m) ∙ h) in omega arith

  pub longest_on : (r : ℕ) → IsLongest g bs r → IsLongest f (b ∷ bs) (suc r)
  longest_on r l = record {
    within = let k = l.within in omega arith;
    holds = goes r ∙ l.holds;
    longest = within_on r l.longest;
  }

  pub none_on : f [] ≡ false → HasNone g bs → HasNone f (b ∷ bs)
  none_on e n zero le = e
  none_on e n (suc m) le = goes m ∙ n m (omega arith)

-- the same over two bytes
module _ (f g : List ℕ → Bool) (b c : ℕ) (cs : List ℕ) (goes : (m : ℕ) → f (b ∷ c ∷ take m cs) ≡ g (take m cs)) where
  pub within_over : (r : ℕ) → NoneLonger g cs r → NoneLonger f (b ∷ c ∷ cs) (suc (suc r))
  within_over r w zero le h = omega arith
  within_over r w (suc zero) le h = omega arith
  within_over r w (suc (suc m)) le h = let k : m ≤ r = w m (omega arith) (sym (goes m) ∙ h) in omega arith

  pub longest_over : (r : ℕ) → IsLongest g cs r → IsLongest f (b ∷ c ∷ cs) (suc (suc r))
  longest_over r l = record {
    within = let k = l.within in omega arith;
    holds = goes r ∙ l.holds;
    longest = within_over r l.longest;
  }

  pub none_over : f [] ≡ false → f (b ∷ []) ≡ false → HasNone g cs → HasNone f (b ∷ c ∷ cs)
  none_over e d n zero le = e
  none_over e d n (suc zero) le = d
  none_over e d n (suc (suc m)) le = goes m ∙ n m (omega arith)

-- an element of a list, with what stands behind it
pub split_at : (xs : List ℕ) (n : ℕ) → n < length xs → drop n xs ≡ get_or xs n 0 ∷ drop (n + 1) xs
split_at xs n h = drop_more xs n 0 h

-- the element at the front of what stands from an index on
pub head_at : (xs : List ℕ) (n i : ℕ) → get_or (drop n xs) i 0 ≡ get_or xs (n + i) 0
head_at xs n i = get_or-drop n xs i 0

-- a number that counts on from an index counts on from the next one
pub counts_on : (P : ℕ → Type 0) (n r : ℕ) → P (n + suc r) → P ((n + 1) + r)
counts_on P n r h = let e : n + suc r ≡ (n + 1) + r = omega arith in subst P e h
