-- The digits of numbers that differ in the last one alone.
use Rattle.std.proofs.Common.{◌≡◌, ℕ, ◌+◌, ◌/◌, ◌%◌, ◌^◌, ◌<◌, List, [], ◌∷◌, ◌++◌, length, drop, get_or, set, sym, ap, ◌∙◌, arith, inl, inr, append_assoc, length-append, decimal}
use Rattle.std.proofs.Math.Seq.{get_or-append_seam, set-append_seam}
use Rattle.std.proofs.lemmas.Bool.{cases_lt}
use Rattle.std.proofs.lemmas.Fmt.{decimal_digit, decimal_step}
use Rattle.std.proofs.lemmas.List.{get_or-drop}
use Rattle.codebasin.specs.inner.NumberLines.{HasLine}
use Rattle.codebasin.specs.Texts.{line_text}

-- the digits before the last one
record LastDigit (n : ℕ) : Type 0 where
  front : List ℕ
  digits : (more : ℕ) → n % 10 + more < 10 → decimal (n + more) ≡ front ++ (48 + n % 10 + more) ∷ []

same_front : (n more : ℕ) → n % 10 + more < 10 → ((n + more) / 10 ≡ n / 10) × ((n + more) % 10 ≡ n % 10 + more)
same_front n more h = (omega arith, omega arith)

last_digit : (n : ℕ) → n + 10 < 2 ^ 64 → LastDigit n
last_digit n fits =
    elim (cases_lt n 10) [
      | inl small ↦ record {
        front = [];
        digits = λ more h.
            decimal_digit (n + more) (omega arith) ∙ (let f : 48 + (n + more) ≡ 48 + n % 10 + more = omega arith in ap (λ d. d ∷ []) f);
      }
      | inr big ↦ record {
        front = decimal (n / 10);
        digits = λ more h.
            decimal_step (n + more) (omega arith) (omega arith)
            ∙ ap (λ m. decimal m ++ (48 + (n + more) % 10) ∷ []) (same_front n more h).0
            ∙ (let f : 48 + (n + more) % 10 ≡ 48 + n % 10 + more = omega (arith, (same_front n more h).1) in ap (λ d. decimal (n / 10) ++ d ∷ []) f);
      }
    ]

zero_more : (n : ℕ) → n + 0 ≡ n
zero_more n = omega arith

-- the digits of a number, the last apart
here : (n : ℕ) (l : LastDigit n) → decimal n ≡ l.front ++ (48 + n % 10) ∷ []
here n l =
    ap decimal (sym (zero_more n)) ∙ (l.digits 0 (omega arith) ∙ (let f : 48 + n % 10 + 0 ≡ 48 + n % 10 = omega arith in ap (λ d. l.front ++ d ∷ []) f))

-- the last digit, where it stands in the bytes
pub digit_at : (bytes : List ℕ) (start n count : ℕ) → n + 10 < 2 ^ 64 → HasLine bytes start n count → get_or bytes 9 0 ≡ 48 + n % 10
digit_at bytes start n count fits h =
    let l = last_digit n fits in
    let d : ℕ = 48 + n % 10 in
    let len : length (decimal n) ≡ length l.front + 1 = ap length (here n l) ∙ length-append l.front (d ∷ []) in
    let place : 9 ≡ start + length l.front = omega (arith, h.ends, len) in
    let stands : drop start bytes ≡ l.front ++ d ∷ 10 ∷ h.rest =
    h.stands ∙ (ap (λ ds. ds ++ 10 ∷ h.rest) (here n l) ∙ append_assoc l.front (d ∷ []) (10 ∷ h.rest)) in
    ap (λ k. get_or bytes k 0) place ∙ (sym (get_or-drop start bytes (length l.front) 0) ∙ (ap (λ bs. get_or bs (length l.front) 0) stands ∙ get_or-append_seam l.front d (10 ∷ h.rest) 0))

-- a line at the end of a text, where the last digit is written anew
pub other_digit : (text new : List ℕ) (n more place : ℕ) → n + 10 < 2 ^ 64 → n % 10 + more < 10 → new ≡ text ++ line_text (decimal n) → place + 2 ≡ length new
    → set new place (48 + n % 10 + more) ≡ text ++ line_text (decimal (n + more))
other_digit text new n more place fits small is end =
    let l = last_digit n fits in
    let d : ℕ = 48 + n % 10 in
    let front : List ℕ = text ++ l.front in
    let apart : (x : ℕ) → text ++ ((l.front ++ x ∷ []) ++ 10 ∷ []) ≡ front ++ x ∷ 10 ∷ [] = λ x.
    ap (λ t. text ++ t) (append_assoc l.front (x ∷ []) (10 ∷ [])) ∙ sym (append_assoc text l.front (x ∷ 10 ∷ [])) in
    let stands : new ≡ front ++ d ∷ 10 ∷ [] = is ∙ (ap (λ ds. text ++ (ds ++ 10 ∷ [])) (here n l) ∙ apart d) in
    let at : place ≡ length front = omega (arith, end, ap length stands ∙ length-append front (d ∷ 10 ∷ [])) in
    ap (λ k. set new k (d + more)) at
    ∙ (ap (λ bs. set bs (length front) (d + more)) stands
    ∙ (set-append_seam front d (10 ∷ []) (d + more)
    ∙ (sym (apart (d + more)) ∙ ap (λ ds. text ++ (ds ++ 10 ∷ [])) (sym (l.digits more small)))))
