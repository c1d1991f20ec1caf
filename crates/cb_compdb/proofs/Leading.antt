-- How pieces lead from one text and progress to another.
use Rattle.std.proofs.Common.{◌≡◌, ◌∙◌, ◌+◌, ℕ, suc, cond, Bool, true, false, List, [], ◌∷◌, ◌++◌, map, take, Option, Some, None, refl, sym, ap, subst, inl, inr, append_assoc, arith}
use Rattle.std.specs.List.{list_all, flat_map, prefix_len}
use Rattle.std.proofs.lemmas.List.{map-append}
use Rattle.std.proofs.lemmas.List.Folds.{list_all-append}
use Rattle.std.proofs.lemmas.Bool.{and_parts, and_from}
use Rattle.std.proofs.lemmas.Grind.{flat_map-append}
use Rattle.cb_compdb.specs.Pieces.{itself, escaped, Piece, plain, double, Reads, Stands, spelling, inner_spelling, inner_byte, is_inner, is_inner_byte, is_plain, given, joined, IsOpenDouble}
use Rattle.cb_compdb.specs.inner.Steps.{Progress, Leads, LeadsInside, words_behind}

-- one byte more at the front, by its test
list_all-prefix_by : (p : ℕ → Bool) (x : ℕ) (xs : List ℕ) (b : Bool) → p x ≡ b → list_all p (take (prefix_len p xs) xs) ≡ true
    → list_all p (take (cond b (1 + prefix_len p xs) 0) (x ∷ xs)) ≡ true
list_all-prefix_by p x xs true e rest =
    let n : 1 + prefix_len p xs ≡ suc (prefix_len p xs) = omega arith in rw n (and_from (p x) (list_all p (take (prefix_len p xs) xs)) e rest)
list_all-prefix_by p x xs false e rest = refl

-- the bytes at the front that pass a test pass it
pub list_all-prefix : (p : ℕ → Bool) (xs : List ℕ) → list_all p (take (prefix_len p xs) xs) ≡ true
list_all-prefix p [] = refl
list_all-prefix p (x ∷ xs) = list_all-prefix_by p x xs (p x) refl (list_all-prefix p xs)

-- pieces behind pieces
pub Reads-append : (bytes : List ℕ) (pieces : List Piece) (middle : List ℕ) (more : List Piece) (left : List ℕ)
    → Reads bytes pieces middle → Reads middle more left → Reads bytes (pieces ++ more) left
Reads-append bytes [] middle more left r s = let P : List ℕ → Type 0 = λ b. Reads b more left in subst P (sym r) s
Reads-append bytes (piece ∷ pieces) middle more left r s =
    (r.0, r.1, r.2, Reads-append r.0 pieces middle more left r.3 s)

-- no piece
pub Leads-none : (bytes : List ℕ) (here : Progress) → Leads bytes here bytes here
Leads-none bytes here = ([], refl, λ gives. refl)

-- pieces, and then more
pub Leads-trans : (bytes : List ℕ) (old : Progress) (middle : List ℕ) (here : Progress) (left : List ℕ) (new : Progress)
    → Leads bytes old middle here → Leads middle here left new → Leads bytes old left new
Leads-trans bytes old middle here left new h k = (
  h.0 ++ k.0,
  Reads-append bytes h.0 middle k.0 left h.1 k.1,
  λ gives. ap (λ gs. words_behind old (gs ++ gives)) (map-append given h.0 k.0)
      ∙ ap (words_behind old) (append_assoc (map given h.0) (map given k.0) gives)
      ∙ h.2 (map given k.0 ++ gives) ∙ k.2 gives,
)

-- one piece
pub Leads-piece : (piece : Piece) (behind : List ℕ) (old new : Progress) → Stands piece behind
    → ((gives : List (Option (List ℕ))) → words_behind old (given piece ∷ gives) ≡ words_behind new gives)
    → Leads (spelling piece ++ behind) old behind new
Leads-piece piece behind old new stands gives = (piece ∷ [], (behind, stands, refl, refl), gives)

-- bytes that stand for themselves are read one by one
Reads-plain : (run behind : List ℕ) → list_all is_plain run ≡ true → Reads (run ++ behind) (map plain run) behind
Reads-plain [] behind all = refl
Reads-plain (b ∷ run) behind all =
    let both = and_parts (is_plain b) (list_all is_plain run) all in
    (run ++ behind, both.0, refl, Reads-plain run behind both.1)

-- and give what they give together
joined-plain : (word : Option (List ℕ)) (b : ℕ) (run : List ℕ) (gives : List (Option (List ℕ)))
    → joined word (map given (map plain (b ∷ run)) ++ gives) ≡ joined word (Some (b ∷ run) ∷ gives)
joined-plain word b [] gives = refl
joined-plain None b (c ∷ run) gives = joined-plain (Some (b ∷ [])) c run gives
joined-plain (Some word) b (c ∷ run) gives =
    joined-plain (Some (word ++ b ∷ [])) c run gives ∙ ap (λ w. joined (Some w) gives) (append_assoc word (b ∷ []) (c ∷ run))

-- bytes that stand for themselves, at least one
pub Leads-plain : (b : ℕ) (run behind : List ℕ) (old new : Progress) → list_all is_plain (b ∷ run) ≡ true
    → ((gives : List (Option (List ℕ))) → words_behind old (Some (b ∷ run) ∷ gives) ≡ words_behind new gives)
    → Leads ((b ∷ run) ++ behind) old behind new
Leads-plain b run behind old new all gives = (
  map plain (b ∷ run),
  Reads-plain (b ∷ run) behind all,
  λ gs. ap (λ ws. old.done ++ ws) (joined-plain old.word b run gs) ∙ gives gs,
)

-- two pieces give what one gives that has the bytes of both
joined-both : (word : Option (List ℕ)) (some more : List ℕ) (gives : List (Option (List ℕ)))
    → joined word (Some (some ++ more) ∷ gives) ≡ joined word (Some some ∷ Some more ∷ gives)
joined-both None some more gives = refl
joined-both (Some word) some more gives = ap (λ w. joined (Some w) gives) (sym (append_assoc word some more))

-- no byte between double quotes
pub LeadsInside-none : (bytes : List ℕ) (old new : Progress)
    → ((gives : List (Option (List ℕ))) → words_behind old (Some [] ∷ gives) ≡ words_behind new gives) → LeadsInside bytes old bytes new
LeadsInside-none bytes old new gives = ([], refl, refl, gives)

-- bytes between double quotes, and then more
pub LeadsInside-trans : (bytes : List ℕ) (old : Progress) (middle : List ℕ) (here : Progress) (left : List ℕ) (new : Progress)
    → LeadsInside bytes old middle here → LeadsInside middle here left new → LeadsInside bytes old left new
LeadsInside-trans bytes old middle here left new h k = (
  h.0 ++ k.0,
  list_all-append is_inner h.0 k.0 ∙ and_from (list_all is_inner h.0) (list_all is_inner k.0) h.1 k.1,
  h.2 ∙ ap (λ ms. flat_map inner_spelling h.0 ++ ms) k.2 ∙ sym (append_assoc (flat_map inner_spelling h.0) (flat_map inner_spelling k.0) left)
      ∙ ap (λ ms. ms ++ left) (sym (flat_map-append inner_spelling h.0 k.0)),
  λ gives. ap (λ ms. words_behind old (Some ms ∷ gives)) (map-append inner_byte h.0 k.0)
      ∙ ap (λ ws. old.done ++ ws) (joined-both old.word (map inner_byte h.0) (map inner_byte k.0) gives)
      ∙ h.3 (Some (map inner_byte k.0) ∷ gives) ∙ k.3 gives,
)

-- a byte behind a backslash
pub LeadsInside-escaped : (b : ℕ) (behind : List ℕ) (old new : Progress)
    → ((gives : List (Option (List ℕ))) → words_behind old (Some (b ∷ []) ∷ gives) ≡ words_behind new gives)
    → LeadsInside (92 ∷ b ∷ behind) old behind new
LeadsInside-escaped b behind old new gives = (escaped b ∷ [], refl, refl, gives)

-- bytes that stand for themselves between double quotes
list_all-itself : (run : List ℕ) → list_all is_inner_byte run ≡ true → list_all is_inner (map itself run) ≡ true
list_all-itself [] all = refl
list_all-itself (b ∷ run) all =
    let both = and_parts (is_inner_byte b) (list_all is_inner_byte run) all in
    and_from (is_inner_byte b) (list_all is_inner (map itself run)) both.0 (list_all-itself run both.1)

spelled-itself : (run : List ℕ) → flat_map inner_spelling (map itself run) ≡ run
spelled-itself [] = refl
spelled-itself (b ∷ run) = ap (λ bs. b ∷ bs) (spelled-itself run)

given-itself : (run : List ℕ) → map inner_byte (map itself run) ≡ run
given-itself [] = refl
given-itself (b ∷ run) = ap (λ bs. b ∷ bs) (given-itself run)

pub LeadsInside-run : (run behind : List ℕ) (old new : Progress) → list_all is_inner_byte run ≡ true
    → ((gives : List (Option (List ℕ))) → words_behind old (Some run ∷ gives) ≡ words_behind new gives)
    → LeadsInside (run ++ behind) old behind new
LeadsInside-run run behind old new all gives = (
  map itself run,
  list_all-itself run all,
  ap (λ bs. bs ++ behind) (sym (spelled-itself run)),
  λ gs. ap (λ bs. words_behind old (Some bs ∷ gs)) (given-itself run) ∙ gives gs,
)

-- a double quote behind them ends the piece
pub Leads-double : (bytes : List ℕ) (old : Progress) (behind : List ℕ) (new : Progress)
    → LeadsInside bytes old (34 ∷ behind) new → Leads (34 ∷ bytes) old behind new
Leads-double bytes old behind new h = (
  double h.0 ∷ [],
  (behind, h.1, ap (λ bs. 34 ∷ bs) (h.2 ∙ sym (append_assoc (flat_map inner_spelling h.0) (34 ∷ []) behind)), refl),
  h.3,
)

-- where they lead to the end, the quote has no end
pub IsOpenDouble-end : (bytes : List ℕ) (old new : Progress) → LeadsInside bytes old [] new → IsOpenDouble (34 ∷ bytes)
IsOpenDouble-end bytes old new h = (h.0, [], h.1, inl refl, ap (λ bs. 34 ∷ bs) h.2)

-- and where they lead to a backslash at the end
pub IsOpenDouble-backslash : (bytes : List ℕ) (old new : Progress) → LeadsInside bytes old (92 ∷ []) new → IsOpenDouble (34 ∷ bytes)
IsOpenDouble-backslash bytes old new h = (h.0, 92 ∷ [], h.1, inr refl, ap (λ bs. 34 ∷ bs) h.2)
