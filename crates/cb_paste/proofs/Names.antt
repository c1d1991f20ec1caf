-- Identifiers and numbers go on over bytes of names.
use Rattle.std.proofs.Common.{◌≡◌, ℕ, ◌==◌, ◌&&◌, ◌||◌, Bool, true, false, List, [], ◌∷◌, ◌++◌, Option, Some, cond, refl, sym, ◌∙◌, ap, ◌⊎◌, inl, inr}
use Rattle.std.specs.List.{list_all, find, slice_index}
use Rattle.std.proofs.lemmas.Bool.{and_parts, and_from, or_cases, or_left, false_from_ne_true, false≢true}
use Rattle.std.proofs.lemmas.List.Folds.{list_all-append}
use Rattle.std.specs.Char.{is_ascii_digit}
use Rattle.cb_tokens.specs.declared.token.TokenKind.{TokenKind}
use Rattle.cb_tokens.specs.declared.token.TokenKind.TheVariants.{Identifier, Number}
use Rattle.cb_tokens.specs.declared.token.PieceKind.TheVariants.{Token}
use Rattle.cb_tokens.specs.Forms.{is_name_byte, is_name_start, is_identifier, is_number, is_number_rest, continues_number, fits}
use Rattle.cb_tokens.specs.Kinds.{token_kinds, token_kind}

found_step : (b : Bool) (x k : TokenKind) (r : Option TokenKind) → cond b (Some x) r ≡ Some k → ((b ≡ true) × (x ≡ k)) ⊎ (r ≡ Some k)
found_step true x k r e = inl (refl, cc)
found_step false x k r e = inr e

find_holds : (p : TokenKind → Bool) (ks : List TokenKind) (k : TokenKind) → find p ks ≡ Some k → p k ≡ true
find_holds p [] k e = cc
find_holds p (x ∷ xs) k e =
    elim (found_step (p x) x k (find p xs) e) [ inl h ↦ ap p (sym h.1) ∙ h.0 | inr r ↦ find_holds p xs k r ]

fits_kind : (bytes : List ℕ) (k : TokenKind) → token_kind bytes ≡ Some k → fits (Token k) bytes ≡ true
unfolding token_kind
fits_kind bytes k e = find_holds (λ kind. fits (Token kind) bytes) token_kinds k e

-- an identifier with more bytes of names
identifier_on : (front more : List ℕ) → is_identifier front ≡ true → list_all is_name_byte more ≡ true → is_identifier (front ++ more) ≡ true
unfolding is_identifier
identifier_on [] more h n = cc
identifier_on (b ∷ bs) more h n =
    let parts = and_parts (is_name_start b) (list_all is_name_byte bs) h in
    and_from _ _ parts.0 (list_all-append is_name_byte bs more ∙ and_from _ _ parts.1 n)

pub identifier_goes_on : (front more : List ℕ) → token_kind front ≡ Some Identifier → list_all is_name_byte more ≡ true → token_kind (front ++ more) ≡ Some Identifier
unfolding token_kind fits
identifier_goes_on front more e n = simp (identifier_on front more (fits_kind front Identifier e) n)

and_true : (v : Bool) → (v && true) ≡ v
and_true true = refl
and_true false = refl

-- bytes that are no identifier are none with more of them, if there are some
no_identifier_on : (b : ℕ) (bs more : List ℕ) → is_identifier (b ∷ bs) ≡ false → list_all is_name_byte more ≡ true → is_identifier (b ∷ (bs ++ more)) ≡ false
unfolding is_identifier
no_identifier_on b bs more h n =
    ap (λ v. is_name_start b && v)
    (list_all-append is_name_byte bs more ∙ (ap (λ v. list_all is_name_byte bs && v) n ∙ and_true (list_all is_name_byte bs)))
    ∙ h

zero_no_name : is_name_byte 0 ≡ true → ⊥
unfolding is_name_byte is_name_start
zero_no_name e = false≢true e

-- a byte that goes on a number at its end goes it on before any other
continues_before : (before byte after : ℕ) → continues_number before byte 0 ≡ true → continues_number before byte after ≡ true
unfolding continues_number
continues_before before byte after h =
    elim (or_cases _ ((byte == 39) && is_name_byte before && is_name_byte 0) h) [
      | inl x ↦ or_left _ _ x
      | inr y ↦ absurd (zero_no_name (and_parts ((byte == 39) && is_name_byte before) (is_name_byte 0) y).1)
    ]

name_continues : (before byte after : ℕ) → is_name_byte byte ≡ true → continues_number before byte after ≡ true
unfolding continues_number
name_continues before byte after h = rw h

names_rest : (before : ℕ) (more : List ℕ) → list_all is_name_byte more ≡ true → is_number_rest before more ≡ true
unfolding is_number_rest
names_rest before [] n = refl
names_rest before (b ∷ bs) n =
    let parts = and_parts (is_name_byte b) (list_all is_name_byte bs) n in
    and_from _ _ (name_continues before b (slice_index bs 0) parts.0) (names_rest b bs parts.1)

number_rest_on : (before : ℕ) (bs more : List ℕ) → is_number_rest before bs ≡ true → list_all is_name_byte more ≡ true → is_number_rest before (bs ++ more) ≡ true
unfolding is_number_rest
number_rest_on before [] more h n = names_rest before more n
number_rest_on before (b ∷ []) more h n =
    let parts = and_parts (continues_number before b 0) true h in
    and_from _ _ (continues_before before b (slice_index more 0) parts.0) (names_rest b more n)
number_rest_on before (b ∷ c ∷ cs) more h n =
    let parts = and_parts (continues_number before b c) (is_number_rest b (c ∷ cs)) h in
    and_from _ _ parts.0 (number_rest_on b (c ∷ cs) more parts.1 n)

number_head : (b : ℕ) (bs more : List ℕ) → (is_ascii_digit b || ((b == 46) && is_ascii_digit (slice_index bs 0))) ≡ true → (is_ascii_digit b || ((b == 46) && is_ascii_digit (slice_index (bs ++ more) 0))) ≡ true
number_head b [] more h =
    elim (or_cases (is_ascii_digit b) ((b == 46) && is_ascii_digit 0) h) [
      | inl x ↦ or_left _ _ x
      | inr y ↦ absurd (false≢true (and_parts (b == 46) (is_ascii_digit 0) y).1)
    ]
number_head b (c ∷ cs) more h = h

number_on : (front more : List ℕ) → is_number front ≡ true → list_all is_name_byte more ≡ true → is_number (front ++ more) ≡ true
unfolding is_number
number_on [] more h n = cc
number_on (b ∷ bs) more h n =
    let parts = and_parts (is_ascii_digit b || ((b == 46) && is_ascii_digit (slice_index bs 0))) (is_number_rest b bs) h in
    and_from _ _ (number_head b bs more parts.0) (number_rest_on b bs more parts.1 n)

identifier_kind : (bytes : List ℕ) → is_identifier bytes ≡ true → token_kind bytes ≡ Some Identifier
unfolding token_kind fits
identifier_kind bytes i = simp i

not_identifier : (bytes : List ℕ) → token_kind bytes ≡ Some Number → is_identifier bytes ≡ false
not_identifier bytes e =
    false_from_ne_true (is_identifier bytes) (λ i. let k : Some Identifier ≡ Some Number = sym (identifier_kind bytes i) ∙ e in cc)

number_fits : (bytes : List ℕ) → token_kind bytes ≡ Some Number → is_number bytes ≡ true
unfolding fits
number_fits bytes e = fits_kind bytes Number e

number_kind : (bytes : List ℕ) → is_identifier bytes ≡ false → is_number bytes ≡ true → token_kind bytes ≡ Some Number
unfolding token_kind fits
number_kind bytes i n = simp (i, n)

no_number : is_number [] ≡ true → ⊥
unfolding is_number
no_number h = false≢true h

pub number_goes_on : (front more : List ℕ) → token_kind front ≡ Some Number → list_all is_name_byte more ≡ true → token_kind (front ++ more) ≡ Some Number
number_goes_on [] more e n = absurd (no_number (number_fits [] e))
number_goes_on (b ∷ bs) more e n =
    number_kind (b ∷ (bs ++ more)) (no_identifier_on b bs more (not_identifier (b ∷ bs) e) n) (number_on (b ∷ bs) more (number_fits (b ∷ bs) e) n)
