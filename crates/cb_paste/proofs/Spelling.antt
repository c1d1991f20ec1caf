-- Strings of arguments, a token or a byte at a time.
use Rattle.std.proofs.Common.{◌≡◌, ℕ, zero, suc, ◌==◌, ◌&&◌, ◌||◌, ◌+◌, ◌<◌, if◌then◌else◌, Bool, true, false, not, List, [], ◌∷◌, ◌++◌, length, map, take, get_or, refl, sym, ◌∙◌, ap, arith, append_assoc}
use Rattle.std.proofs.lemmas.List.{append-nil, take_more, map_push}
use Rattle.std.proofs.lemmas.Bool.{ne_eqb}
use Rattle.cb_paste.specs.declared.work_token.WorkToken.{WorkToken}
use Rattle.cb_paste.specs.Shades.{Shaded, seen}
use Rattle.cb_paste.specs.Strings.{escaped, spelled, spelled_all}

escaped-append : (xs ys : List ℕ) → escaped (xs ++ ys) ≡ escaped xs ++ escaped ys
unfolding escaped
escaped-append [] ys = refl
escaped-append (x ∷ xs) ys = step ((x == 34) || (x == 92)) x xs ys (escaped-append xs ys)
  where
    step : (b : Bool) (x : ℕ) (xs ys : List ℕ) → escaped (xs ++ ys) ≡ escaped xs ++ escaped ys → (if b then 92 ∷ x ∷ escaped (xs ++ ys) else x ∷ escaped (xs ++ ys)) ≡ (if b then 92 ∷ x ∷ escaped xs else x ∷ escaped xs) ++ escaped ys
    step true x xs ys e = rw e
    step false x xs ys e = rw e

pub escaped_more : (text bytes : List ℕ) (i : ℕ) → i < length bytes → (text ++ escaped (take i bytes)) ++ escaped (get_or bytes i 0 ∷ []) ≡ text ++ escaped (take (i + 1) bytes)
escaped_more text bytes i h =
    append_assoc text (escaped (take i bytes)) (escaped (get_or bytes i 0 ∷ []))
    ∙ ap (λ l. text ++ l) (sym (escaped-append (take i bytes) (get_or bytes i 0 ∷ [])) ∙ ap escaped (sym (take_more bytes i 0 h)))

pub escaped_quote : escaped (34 ∷ []) ≡ 92 ∷ 34 ∷ []
unfolding escaped
escaped_quote = refl

pub escaped_backslash : escaped (92 ∷ []) ≡ 92 ∷ 92 ∷ []
unfolding escaped
escaped_backslash = refl

pub escaped_other : (b : ℕ) → (b ≡ 34 → ⊥) → (b ≡ 92 → ⊥) → escaped (b ∷ []) ≡ b ∷ []
unfolding escaped
escaped_other b p q = rw (ne_eqb b 34 p, ne_eqb b 92 q)

-- whether a token behind others is the first
abbrev begins : Bool → List Shaded → Bool
begins is_first [] = is_first
begins is_first (t ∷ ts) = false

begins_false : (ts : List Shaded) → begins false ts ≡ false
begins_false [] = refl
begins_false (t ∷ ts) = refl

spelled_push : (is_first : Bool) (ts : List Shaded) (u : Shaded) → spelled_all is_first (ts ++ u ∷ []) ≡ spelled_all is_first ts ++ ((if u.spaced && not (begins is_first ts) then 32 ∷ [] else []) ++ spelled u.kind u.text)
spelled_push is_first [] u = ap (λ l. (if u.spaced && not is_first then 32 ∷ [] else []) ++ l) (append-nil (spelled u.kind u.text))
spelled_push is_first (t ∷ ts) u =
    ap (λ l. (if t.spaced && not is_first then 32 ∷ [] else []) ++ (spelled t.kind t.text ++ l))
    (spelled_push false ts u
    ∙ ap (λ b. spelled_all false ts ++ ((if u.spaced && not b then 32 ∷ [] else []) ++ spelled u.kind u.text)) (begins_false ts))
    ∙ simp append_assoc

begins_at : (sets : List (List ℕ)) (ts : List WorkToken) (i : ℕ) → i < length ts → begins true (map (seen sets) (take i ts)) ≡ (i == 0)
begins_at sets ts zero h = refl
begins_at sets [] (suc i) h = absurd (omega arith)
begins_at sets (t ∷ ts) (suc i) h = sym (ne_eqb (suc i) 0 (λ e. omega arith))

-- one more token of an argument behind a string that has its first ones
pub spelled_more : (sets : List (List ℕ)) (text new : List ℕ) (ts : List WorkToken) (i : ℕ) (t : WorkToken) → i < length ts → t ≡ get_or ts i t → text ≡ 34 ∷ spelled_all true (map (seen sets) (take i ts)) → new ≡ text ++ ((if t.spaced && not (i == 0) then 32 ∷ [] else []) ++ spelled t.kind t.text) → new ≡ 34 ∷ spelled_all true (map (seen sets) (take (i + 1) ts))
spelled_more sets text new ts i t h e so pushed =
    pushed
    ∙ (ap (λ l. l ++ ((if t.spaced && not (i == 0) then 32 ∷ [] else []) ++ spelled t.kind t.text)) so
    ∙ ap (λ l. 34 ∷ l)
    (ap (λ b. spelled_all true (map (seen sets) (take i ts)) ++ ((if t.spaced && not b then 32 ∷ [] else []) ++ spelled t.kind t.text)) (sym (begins_at sets ts i h))
    ∙ (sym (spelled_push true (map (seen sets) (take i ts)) (seen sets t))
    ∙ ap (λ l. spelled_all true l)
    (sym (map_push (seen sets) (take i ts) t) ∙ ap (λ l. map (seen sets) l) (ap (λ c. take i ts ++ c ∷ []) e ∙ sym (take_more ts i t h))))))
