-- The users of a line after a platform more.
use Rattle.std.proofs.Common.{◌≡◌, ℕ, ◌+◌, ◌<◌, Bool, true, false, cond, List, [], ◌∷◌, length, get_or, take, refl, sym, ap, ◌∙◌, suc, zero, inl, inr, arith}
use Rattle.std.proofs.lemmas.Bool.{cases_Bool, le-ltb, ne_eqb}
use Rattle.cb_lines.specs.Lines.{with_line, has_line}
use Rattle.cb_sets.specs.Tallies.{users_from}

first_stays : (p q : ℕ) (g : Bool) (us : List ℕ) → p < q → cond g (with_line q (p ∷ us)) (p ∷ us) ≡ p ∷ cond g (with_line q us) us
first_stays p q true us h = rw (le-ltb q p (omega arith), ne_eqb q p (λ e. omega (arith, e))) refl
first_stays p q false us h = refl

first_user : (p : ℕ) (x : List ℕ) (line : ℕ) → users_from p (x ∷ []) line ≡ cond (has_line x line) (with_line (p + 0) []) []
first_user p x line = (let e : p ≡ p + 0 = omega arith in ap (λ (n : ℕ). cond (has_line x line) (n ∷ []) []) e)

pub users_more : (xs : List (List ℕ)) (p i : ℕ) (d : List ℕ) (line : ℕ) → i < length xs
    → users_from p (take (i + 1) xs) line ≡ cond (has_line (get_or xs i d) line) (with_line (p + i) (users_from p (take i xs) line)) (users_from p (take i xs) line)
users_more [] p i d line h = absurd (omega arith)
users_more (x ∷ xs) p zero d line h = first_user p x line
users_more (x ∷ xs) p (suc i) d line h =
    let e : suc i + 1 ≡ suc (i + 1) = omega arith in
    let n : p + 1 + i ≡ p + suc i = omega arith in
    let g : Bool = has_line (get_or xs i d) line in
    let us : List ℕ = users_from (p + 1) (take i xs) line in
    let rest : users_from (p + 1) (take (i + 1) xs) line ≡ cond g (with_line (p + suc i) us) us =
    users_more xs (p + 1) i d line (omega arith) ∙ ap (λ (q : ℕ). cond g (with_line q us) us) n in
    ap (λ (n : ℕ). users_from p (take n (x ∷ xs)) line) e
    ∙ elim (cases_Bool (has_line x line)) [
      | inl yes' ↦ rw yes' (ap (λ (vs : List ℕ). p ∷ vs) rest ∙ sym (first_stays p (p + suc i) g us (omega arith)))
      | inr no' ↦ rw no' rest
    ]

-- the users after one more of the platforms has been looked at
pub user_added : (xs : List (List ℕ)) (i p line : ℕ) (x : List ℕ) (held : Bool) (old new : List ℕ) → i < length xs → x ≡ get_or xs i x → has_line x line ≡ held
    → users_from 1 (take i xs) line ≡ old → 1 + i ≡ p → new ≡ cond held (with_line p old) old → users_from 1 (take (i + 1) xs) line ≡ new
user_added xs i p line x held old new h is has was n made =
    users_more xs 1 i x line h
    ∙ (ap (λ (y : List ℕ). cond (has_line y line) (with_line (1 + i) (users_from 1 (take i xs) line)) (users_from 1 (take i xs) line)) (sym is)
    ∙ (ap (λ (b : Bool). cond b (with_line (1 + i) (users_from 1 (take i xs) line)) (users_from 1 (take i xs) line)) has
    ∙ (ap (λ (us : List ℕ). cond held (with_line (1 + i) us) us) was
    ∙ (ap (λ (q : ℕ). cond held (with_line q old) old) n ∙ sym made))))
