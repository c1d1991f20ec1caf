-- The last piece of a text.
use Rattle.std.proofs.Common.{◌≡◌, ℕ, ◌==◌, Bool, true, false, List, [], ◌∷◌, ◌++◌, refl, sym, ap, ◌∙◌, Option, Some, None, IfSome, IfNone}
use Rattle.std.specs.Prelude.{is_some, drop, unwrap_or}
use Rattle.std.specs.Borrow.{Bor}
use Rattle.std.specs.List.{last_or, slice_split, onto_first}
use Rattle.cb_paths.specs.Languages.{behind_last}
use Rattle.cb_paths.proofs.Splitting.{lacks, split_none, split_at}

-- the last piece of what is left, if anything is
abbrev pub last_left : ℕ → Option (Bor (List ℕ)) → Option (List ℕ)
last_left byte None = None
last_left byte (Some text) = last_or None (slice_split (λ b. b == byte) text.now)

some_last : (o : Option (List ℕ)) (x : ℕ) (parts : List (List ℕ)) → last_or o (onto_first x parts) ≡ last_or None (onto_first x parts)
some_last o x [] = refl
some_last o x (p ∷ ps) = refl

last_at : (byte : ℕ) (o : Option (List ℕ)) (x : ℕ) (xs : List ℕ) (t : Bool) → (x == byte) ≡ t
    → last_or o (slice_split (λ b. b == byte) (x ∷ xs)) ≡ last_or None (slice_split (λ b. b == byte) (x ∷ xs))
last_at byte o x xs true e = rw e refl
last_at byte o x xs false e = rw e (some_last o x (slice_split (λ b. b == byte) xs))

-- a split text has a last piece
last_any : (byte : ℕ) (o : Option (List ℕ)) (xs : List ℕ) → last_or o (slice_split (λ b. b == byte) xs) ≡ last_or None (slice_split (λ b. b == byte) xs)
last_any byte o [] = refl
last_any byte o (x ∷ xs) = last_at byte o x xs (x == byte) refl

-- a cut of a text with such a byte leaves its last piece
pub last_step : (byte : ℕ) (text part behind : List ℕ) → lacks byte part ≡ true → text ≡ part ++ (byte ∷ behind)
    → last_or None (slice_split (λ b. b == byte) text) ≡ last_or None (slice_split (λ b. b == byte) behind)
last_step byte text part behind h e =
    ap (λ xs. last_or None (slice_split (λ b. b == byte) xs)) e ∙ ap (last_or None) (split_at byte part behind h) ∙ last_any byte (Some part) behind

pub last_first : (byte : ℕ) (text part : List ℕ) (rest : Option (Bor (List ℕ))) → lacks byte part ≡ true
    → IfSome rest (λ r. text ≡ part ++ (byte ∷ r.now)) → IfNone rest (text ≡ part) → last_left byte rest ≡ behind_last byte text
last_first byte text part None h s n = sym (ap (behind_last byte) n ∙ ap (λ ps. last_or None (drop 1 ps)) (split_none byte part h))
last_first byte text part (Some r) h s n = sym (ap (behind_last byte) s ∙ ap (λ ps. last_or None (drop 1 ps)) (split_at byte part r.now h))

-- a text without such a byte is its own last piece
pub last_whole : (byte : ℕ) (text part : List ℕ) → lacks byte part ≡ true → text ≡ part → last_or None (slice_split (λ b. b == byte) text) ≡ Some text
last_whole byte text part h e = ap (λ xs. last_or None (slice_split (λ b. b == byte) xs)) e ∙ ap (last_or None) (split_none byte part h) ∙ ap Some (sym e)

pub last_on : (byte : ℕ) (text part : List ℕ) (rest : Option (Bor (List ℕ))) → is_some rest ≡ true → lacks byte part ≡ true
    → IfSome rest (λ r. text ≡ part ++ (byte ∷ r.now)) → last_left byte rest ≡ last_or None (slice_split (λ b. b == byte) text)
last_on byte text part None some h s = cc
last_on byte text part (Some r) some h s = sym (last_step byte text part r.now h s)

pub last_here : (byte : ℕ) (text part : List ℕ) (rest : Option (Bor (List ℕ))) → is_some rest ≡ false → lacks byte part ≡ true → IfNone rest (text ≡ part)
    → last_or None (slice_split (λ b. b == byte) text) ≡ Some text
last_here byte text part None none' h w = last_whole byte text part h w
last_here byte text part (Some r) none' h w = cc

any_other : (o : Option (List ℕ)) (some other : List ℕ) → o ≡ Some (unwrap_or o some) → o ≡ Some (unwrap_or o other)
any_other None some other h = cc
any_other (Some x) some other h = refl

piece_found : (o : Option (List ℕ)) (some other : List ℕ) → o ≡ Some some → o ≡ Some (unwrap_or o other)
piece_found None some other h = cc
piece_found (Some x) some other h = refl

piece_more : (x : ℕ) (xs : List ℕ) (parts : List (List ℕ)) → last_or None parts ≡ Some (unwrap_or (last_or None (drop 1 parts)) xs)
    → last_or None (onto_first x parts) ≡ Some (unwrap_or (last_or None (drop 1 (onto_first x parts))) (x ∷ xs))
piece_more x xs [] h = cc
piece_more x xs (p ∷ []) h = cc
piece_more x xs (p ∷ q ∷ ps) h = any_other (last_or (Some q) ps) xs (x ∷ xs) h

piece_at : (byte x : ℕ) (xs : List ℕ) (t : Bool) → (x == byte) ≡ t
    → last_or None (slice_split (λ b. b == byte) xs) ≡ Some (unwrap_or (behind_last byte xs) xs)
    → last_or None (slice_split (λ b. b == byte) (x ∷ xs)) ≡ Some (unwrap_or (behind_last byte (x ∷ xs)) (x ∷ xs))
piece_at byte x xs true e h =
    rw e (last_any byte (Some []) xs ∙ piece_found (last_or None (slice_split (λ b. b == byte) xs)) (unwrap_or (behind_last byte xs) xs) (x ∷ xs) h)
piece_at byte x xs false e h = rw e (piece_more x xs (slice_split (λ b. b == byte) xs) h)

-- the last piece of a text is what stands behind the last such byte, or the text
pub last_piece : (byte : ℕ) (text : List ℕ) → last_or None (slice_split (λ b. b == byte) text) ≡ Some (unwrap_or (behind_last byte text) text)
last_piece byte [] = refl
last_piece byte (x ∷ xs) = piece_at byte x xs (x == byte) refl (last_piece byte xs)
