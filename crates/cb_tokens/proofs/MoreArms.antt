-- What stands first where several forms begin alike.
use Rattle.std.proofs.Common.{◌≡◌, ℕ, suc, zero, ◌+◌, ◌<◌, ◌≤◌, ◌==◌, true, false, not, ◌&&◌, ◌||◌, List, [], ◌∷◌, length, get_or, take, drop, leb, eq-eqb, add-one, sym, refl, ap, ◌∙◌, subst, arith, ⊎_elim}
use Rattle.std.specs.Char.{is_ascii_digit}
use Rattle.std.proofs.lemmas.Bool.{false≢true, both_ways, and_parts, and_from, or_cases, or_left, or_right, eqb-true, leb-true}
use Rattle.cb_tokens.specs.declared.token.TokenKind.TheVariants.{Number, Punct}
use Rattle.cb_tokens.specs.declared.token.PieceKind.TheVariants.{Token}
use Rattle.cb_tokens.specs.declared.first.First.TheVariants as first
use Rattle.cb_tokens.specs.declared.class.Class.TheVariants as classes
use Rattle.cb_tokens.specs.Forms.{is_name_start, is_name_byte, is_number, is_number_rest, is_punctuator, punctuators, fits}
use Rattle.cb_tokens.specs.Cut.{StandsFirst, NoneLonger}
use Rattle.cb_tokens.specs.inner.Classes.{BeginsIn}
use Rattle.cb_tokens.specs.inner.Scan.{IsLongest}
use Rattle.cb_tokens.proofs.Numbers.{name_continues}
use Rattle.cb_tokens.proofs.Punctuators.{of_punctuators}
use Rattle.cb_tokens.proofs.Heads.{IsMost, stands}
use Rattle.cb_tokens.proofs.Arms.{fact, fact_of, is_slash, closed, most1}

-- a number
number_most : (d : ℕ) (ys : List ℕ) (r : ℕ) → IsLongest (is_number_rest d) ys r → NoneLonger is_number (d ∷ ys) (suc r)
unfolding is_number
number_most d ys r l zero le h = omega arith
number_most d ys r l (suc m) le h =
    let k : m ≤ r = l.longest m (omega arith) (and_parts (is_ascii_digit d || ((d == 46) && is_ascii_digit (get_or (take m ys) 0 0))) (is_number_rest d (take m ys)) h).1 in omega arith

longest_number : (d : ℕ) (ys : List ℕ) (r : ℕ) → (is_ascii_digit d || ((d == 46) && is_ascii_digit (get_or (take r ys) 0 0))) ≡ true → IsLongest (is_number_rest d) ys r → IsLongest is_number (d ∷ ys) (suc r)
unfolding is_number
longest_number d ys r lead l = record {
  within = let k = l.within in omega arith;
  holds = and_from (is_ascii_digit d || ((d == 46) && is_ascii_digit (get_or (take r ys) 0 0))) (is_number_rest d (take r ys)) lead l.holds;
  longest = number_most d ys r l;
}

pub number_stands : (xs : List ℕ) (r : ℕ) → BeginsIn classes.Digit xs → IsLongest (is_number_rest (get_or xs 0 0)) (drop 1 xs) r → StandsFirst xs (first.Piece (Token Number) (r + 1))
unfolding fact is_slash fits
number_stands [] r b l = absurd (omega (arith, b.some))
number_stands (d ∷ ys) r b l =
    let n = longest_number d ys r (or_left (is_ascii_digit d) ((d == 46) && is_ascii_digit (get_or (take r ys) 0 0)) (fact_of classes.Digit (d ∷ ys) b)) l in
    subst (λ k. StandsFirst (d ∷ ys) (first.Piece (Token Number) k)) (sym (add-one r))
    (stands classes.Digit (d ∷ ys) (Token Number) (suc r) b (closed classes.Digit (d ∷ ys) b refl) n.within n.holds (n.longest, tt))

-- a point and a digit
digit_name : (d : ℕ) → is_ascii_digit d ≡ true → is_name_byte d ≡ true
unfolding is_name_byte
digit_name d h = or_right (is_name_start d) (is_ascii_digit d) h

digit_goes : (d e : ℕ) (zs : List ℕ) (r : ℕ) → is_ascii_digit e ≡ true → IsLongest (is_number_rest d) (e ∷ zs) r → 1 ≤ r
unfolding is_number_rest
digit_goes d e zs r h l = l.longest 1 (omega arith) (rw (name_continues d e 0 (digit_name e h)) refl)

first_taken : (e : ℕ) (zs : List ℕ) (r : ℕ) → 1 ≤ r → get_or (take r (e ∷ zs)) 0 0 ≡ e
first_taken e zs zero h = absurd (omega arith)
first_taken e zs (suc r) h = refl

point_second : (l : List ℕ) → is_punctuator (46 ∷ l) ≡ true → (leb (length (46 ∷ l)) 1 || (get_or l 0 0 == 46)) ≡ true
unfolding punctuators
point_second l h = of_punctuators (λ p. not (get_or p 0 0 == 46) || leb (length p) 1 || (get_or p 1 0 == 46)) refl (46 ∷ l) h

point_alone : (e : ℕ) (zs : List ℕ) (m : ℕ) → is_ascii_digit e ≡ true → m ≤ length (e ∷ zs) → is_punctuator (46 ∷ take m (e ∷ zs)) ≡ true → m ≤ 0
point_alone e zs zero h le p = omega arith
point_alone e zs (suc m) h le p =
    ⊎_elim (λ s. let one = leb-true (length (46 ∷ e ∷ take m zs)) 1 s in absurd (omega arith))
    (λ s. absurd (false≢true (subst (λ v. is_ascii_digit v ≡ true) (eqb-true e 46 s) h)))
    (or_cases (leb (length (46 ∷ e ∷ take m zs)) 1) (e == 46) (point_second (e ∷ take m zs) p))

pub point_number_stands : (xs : List ℕ) (r : ℕ) → BeginsIn classes.Point xs → is_ascii_digit (get_or xs 1 0) ≡ true → IsLongest (is_number_rest (get_or xs 0 0)) (drop 1 xs) r → StandsFirst xs (first.Piece (Token Number) (r + 1))
unfolding fact is_slash fits
point_number_stands [] r b h l = absurd (omega (arith, b.some))
point_number_stands (d ∷ []) r b h l = absurd (false≢true h)
point_number_stands (d ∷ e ∷ zs) r b h l =
    let point : d ≡ 46 = eqb-true d 46 (fact_of classes.Point (d ∷ e ∷ zs) b) in
    let goes = digit_goes d e zs r h l in
    let lead : (is_ascii_digit d || ((d == 46) && is_ascii_digit (get_or (take r (e ∷ zs)) 0 0))) ≡ true =
    or_right (is_ascii_digit d) ((d == 46) && is_ascii_digit (get_or (take r (e ∷ zs)) 0 0)) (and_from (d == 46) (is_ascii_digit (get_or (take r (e ∷ zs)) 0 0)) (eq-eqb d 46 point) (ap is_ascii_digit (first_taken e zs r goes) ∙ h)) in
    let n = longest_number d (e ∷ zs) r lead l in
    subst (λ k. StandsFirst (d ∷ e ∷ zs) (first.Piece (Token Number) k)) (sym (add-one r))
    (stands classes.Point (d ∷ e ∷ zs) (Token Number) (suc r) b (closed classes.Point (d ∷ e ∷ zs) b refl) n.within n.holds
    (n.longest, (most1 (Token Punct) d (e ∷ zs) r (λ m le p. let none = point_alone e zs m h le (subst (λ v. is_punctuator (v ∷ take m (e ∷ zs)) ≡ true) point p) in omega arith), tt)))

-- a point without a digit
no_digit : (ys : List ℕ) (m : ℕ) → is_ascii_digit (get_or ys 0 0) ≡ false → is_ascii_digit (get_or (take m ys) 0 0) ≡ false
no_digit ys zero h = refl
no_digit [] (suc m) h = refl
no_digit (y ∷ ys) (suc m) h = h

no_number : (ys : List ℕ) (m : ℕ) → is_ascii_digit (get_or ys 0 0) ≡ false → is_number (46 ∷ take m ys) ≡ false
unfolding is_number
no_number ys m h = rw (no_digit ys m h) refl

never : (d : ℕ) (ys : List ℕ) (n : ℕ) → d ≡ 46 → is_ascii_digit (get_or ys 0 0) ≡ false → IsMost (d ∷ ys) n (Token Number)
unfolding fits
never d ys n point h zero le e = omega arith
never d ys n point h (suc m) le e =
    absurd (both_ways (is_number (d ∷ take m ys)) (subst (λ v. is_number (v ∷ take m ys) ≡ false) (sym point) (no_number ys m h)) e)

pub point_stands : (xs : List ℕ) (n : ℕ) → BeginsIn classes.Point xs → is_ascii_digit (get_or xs 1 0) ≡ false → IsLongest is_punctuator xs n → StandsFirst xs (first.Piece (Token Punct) n)
unfolding fact is_slash fits
point_stands [] n b h l = absurd (omega (arith, b.some))
point_stands (d ∷ ys) n b h l =
    let point : d ≡ 46 = eqb-true d 46 (fact_of classes.Point (d ∷ ys) b) in
    stands classes.Point (d ∷ ys) (Token Punct) n b (closed classes.Point (d ∷ ys) b refl) l.within l.holds
    (never d ys n point h, (l.longest, tt))

-- a punctuator of one byte stands first
first_taken_one : (xs : List ℕ) → 0 < length xs → take 1 xs ≡ get_or xs 0 0 ∷ []
first_taken_one [] some = absurd (omega arith)
first_taken_one (x ∷ xs) some = refl

pub operator_first : (xs : List ℕ) → BeginsIn classes.Operator xs → is_punctuator (take 1 xs) ≡ true
unfolding fact
operator_first xs b = ap is_punctuator (first_taken_one xs b.some) ∙ fact_of classes.Operator xs b

pub point_first : (xs : List ℕ) → BeginsIn classes.Point xs → is_punctuator (take 1 xs) ≡ true
unfolding fact is_punctuator punctuators
point_first xs b =
    ap is_punctuator (first_taken_one xs b.some) ∙ ap (λ v. is_punctuator (v ∷ [])) (eqb-true (get_or xs 0 0) 46 (fact_of classes.Point xs b))

pub slash_first : (xs : List ℕ) → BeginsIn classes.Slash xs → is_punctuator (take 1 xs) ≡ true
unfolding fact is_punctuator punctuators
slash_first xs b =
    ap is_punctuator (first_taken_one xs b.some) ∙ ap (λ v. is_punctuator (v ∷ [])) (eqb-true (get_or xs 0 0) 47 (fact_of classes.Slash xs b))
