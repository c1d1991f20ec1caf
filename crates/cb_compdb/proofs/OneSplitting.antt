-- A command has one list of pieces, or a quote without an end: the first piece of a text is told by its bytes.
use Rattle.std.proofs.Common.{◌≡◌, ◌∙◌, ◌==◌, ◌&&◌, ℕ, Bool, true, false, not, List, [], ◌∷◌, ◌++◌, map, Option, Some, None, if◌then◌else◌, refl, sym, ap, subst, append_assoc, inl, inr}
use Rattle.std.specs.Prelude.{◌⊎◌, option_map, unwrap_or}
use Rattle.std.specs.List.{list_all, flat_map}
use Rattle.std.proofs.lemmas.Bool.{and_parts}
use Rattle.cb_compdb.specs.Pieces.{Inner, itself, escaped, Piece, gap, plain, escape, lone, single, double, Reads, Stands, spelling, inner_spelling, is_inner, is_gap, is_plain, given, joined, HasWords, HasOpenQuote, IsOpen, IsOpenSingle, IsOpenDouble}

-- what stands before the first single quote, and behind it
abbrev until : List ℕ → Option (List ℕ × List ℕ)
until [] = None
until (b ∷ bs) = if b == 39 then Some ([], bs) else option_map (λ p. (b ∷ p.0, p.1)) (until bs)

-- the bytes up to the double quote that ends a piece, and what stands behind it; behind a backslash or not
abbrev inside : Bool → List ℕ → Option (List Inner × List ℕ)
inside true [] = None
inside false [] = None
inside true (b ∷ bs) = option_map (λ p. (escaped b ∷ p.0, p.1)) (inside false bs)
inside false (b ∷ bs) =
    if b == 34 then Some ([], bs) else (if b == 92 then inside true bs else option_map (λ p. (itself b ∷ p.0, p.1)) (inside false bs))

-- the piece of a backslash
abbrev escaping : List ℕ → Option (Piece × List ℕ)
escaping [] = Some (lone, [])
escaping (b ∷ bs) = Some (escape b, bs)

-- the first piece of a text, and what stands behind it
abbrev first : List ℕ → Option (Piece × List ℕ)
first [] = None
first (b ∷ bs) =
    if is_gap b then Some (gap b, bs)
    else (if b == 39 then option_map (λ p. (single p.0, p.1)) (until bs)
    else (if b == 34 then option_map (λ p. (double p.0, p.1)) (inside false bs)
    else (if b == 92 then escaping bs else Some (plain b, bs))))

not-true : (b : Bool) → not b ≡ true → b ≡ false
not-true true h = sym h
not-true false h = refl

until-closed : (bs left : List ℕ) → list_all (λ b. not (b == 39)) bs ≡ true → until (bs ++ 39 ∷ left) ≡ Some (bs, left)
until-closed [] left all = refl
until-closed (b ∷ bs) left all =
    let both = and_parts (not (b == 39)) (list_all (λ b. not (b == 39)) bs) all in
    let other : (b == 39) ≡ false = not-true (b == 39) both.0 in
    rw other (ap (option_map (λ (p : List ℕ × List ℕ). (b ∷ p.0, p.1))) (until-closed bs left both.1))

until-open : (bs : List ℕ) → list_all (λ b. not (b == 39)) bs ≡ true → until bs ≡ None
until-open [] all = refl
until-open (b ∷ bs) all =
    let both = and_parts (not (b == 39)) (list_all (λ b. not (b == 39)) bs) all in
    let other : (b == 39) ≡ false = not-true (b == 39) both.0 in
    rw other (ap (option_map (λ (p : List ℕ × List ℕ). (b ∷ p.0, p.1))) (until-open bs both.1))

inside-closed : (is : List Inner) (left : List ℕ) → list_all is_inner is ≡ true → inside false (flat_map inner_spelling is ++ 34 ∷ left) ≡ Some (is, left)
inside-closed [] left all = refl
inside-closed (itself b ∷ is) left all =
    let both = and_parts (is_inner (itself b)) (list_all is_inner is) all in
    let neither = and_parts (not (b == 34)) (not (b == 92)) both.0 in
    let quote : (b == 34) ≡ false = not-true (b == 34) neither.0 in
    let backslash : (b == 92) ≡ false = not-true (b == 92) neither.1 in
    rw (quote, backslash) (ap (option_map (λ (p : List Inner × List ℕ). (itself b ∷ p.0, p.1))) (inside-closed is left both.1))
inside-closed (escaped b ∷ is) left all = ap (option_map (λ (p : List Inner × List ℕ). (escaped b ∷ p.0, p.1))) (inside-closed is left all)

inside-open : (is : List Inner) (end : List ℕ) → list_all is_inner is ≡ true → inside false end ≡ None → inside false (flat_map inner_spelling is ++ end) ≡ None
inside-open [] end all none = none
inside-open (itself b ∷ is) end all none =
    let both = and_parts (is_inner (itself b)) (list_all is_inner is) all in
    let neither = and_parts (not (b == 34)) (not (b == 92)) both.0 in
    let quote : (b == 34) ≡ false = not-true (b == 34) neither.0 in
    let backslash : (b == 92) ≡ false = not-true (b == 92) neither.1 in
    rw (quote, backslash) (ap (option_map (λ (p : List Inner × List ℕ). (itself b ∷ p.0, p.1))) (inside-open is end both.1 none))
inside-open (escaped b ∷ is) end all none = ap (option_map (λ (p : List Inner × List ℕ). (escaped b ∷ p.0, p.1))) (inside-open is end all none)

-- the first piece of a spelled one and what is behind it
first-spelling : (p : Piece) (behind : List ℕ) → Stands p behind → first (spelling p ++ behind) ≡ Some (p, behind)
unfolding is_gap is_plain
first-spelling (gap b) behind is = rw is refl
first-spelling (plain b) behind is =
    let gap' = and_parts (not (is_gap b) && not (b == 92) && not (b == 39)) (not (b == 34)) is in
    let last = and_parts (not (is_gap b) && not (b == 92)) (not (b == 39)) gap'.0 in
    let front = and_parts (not (is_gap b)) (not (b == 92)) last.0 in
    let no_gap : is_gap b ≡ false = not-true (is_gap b) front.0 in
    let backslash : (b == 92) ≡ false = not-true (b == 92) front.1 in
    let single' : (b == 39) ≡ false = not-true (b == 39) last.1 in
    let double' : (b == 34) ≡ false = not-true (b == 34) gap'.1 in
    rw (no_gap, single', double', backslash) refl
first-spelling (escape b) behind is = refl
first-spelling lone behind is = rw is refl
first-spelling (single bs) behind is =
    ap (option_map (λ (p : List ℕ × List ℕ). (single p.0, p.1))) (ap until (append_assoc bs (39 ∷ []) behind) ∙ until-closed bs behind is)
first-spelling (double is) behind all =
    ap (option_map (λ (p : List Inner × List ℕ). (double p.0, p.1)))
    (ap (inside false) (append_assoc (flat_map inner_spelling is) (34 ∷ []) behind) ∙ inside-closed is behind all)

-- the same of a text that is spelled so
first-of : (bytes : List ℕ) (p : Piece) (behind : List ℕ) → Stands p behind → bytes ≡ spelling p ++ behind → first bytes ≡ Some (p, behind)
first-of bytes p behind stands e = ap first e ∙ first-spelling p behind stands

-- so two such spellings have the same piece, and the same text behind it
same_first : (bytes : List ℕ) (p q : Piece) (x y : List ℕ) → first bytes ≡ Some (p, x) → first bytes ≡ Some (q, y) → (p ≡ q) × (y ≡ x)
same_first bytes p q x y e f =
    let pair : Piece × List ℕ = (p, x) in
    let both = ap (λ o. unwrap_or o pair) (sym e ∙ f) in
    (ap (λ (t : Piece × List ℕ). t.0) both, ap (λ (t : Piece × List ℕ). t.1) (sym both))

-- an open quote has no first piece
first-single : (bytes : List ℕ) → IsOpenSingle bytes → first bytes ≡ None
unfolding is_gap
first-single bytes h = ap first h.2 ∙ ap (option_map (λ (p : List ℕ × List ℕ). (single p.0, p.1))) (until-open h.0 h.1)

ends : (end : List ℕ) → (end ≡ []) ⊎ (end ≡ 92 ∷ []) → inside false end ≡ None
ends end (inl e) = ap (inside false) e
ends end (inr e) = ap (inside false) e

first-double : (bytes : List ℕ) → IsOpenDouble bytes → first bytes ≡ None
unfolding is_gap
first-double bytes h =
    ap first h.4 ∙ ap (option_map (λ (p : List Inner × List ℕ). (double p.0, p.1))) (inside-open h.0 h.1 h.2 (ends h.1 h.3))

first-open : (bytes : List ℕ) → IsOpen bytes → first bytes ≡ None
first-open bytes (inl h) = first-single bytes h
first-open bytes (inr h) = first-double bytes h

-- a text that is the end of a command has one list of pieces
one_list : (bytes : List ℕ) (ps qs : List Piece) → Reads bytes ps [] → Reads bytes qs [] → ps ≡ qs
one_list bytes [] [] r s = refl
one_list bytes [] (q ∷ qs) r s = let e = first-of bytes q s.0 s.1 s.2 in let n : first bytes ≡ None = ap first r in cc
one_list bytes (p ∷ ps) [] r s = let e = first-of bytes p r.0 r.1 r.2 in let n : first bytes ≡ None = ap first s in cc
one_list bytes (p ∷ ps) (q ∷ qs) r s =
    let same = same_first bytes p q r.0 s.0 (first-of bytes p r.0 r.1 r.2) (first-of bytes q s.0 s.1 s.2) in
    let P : List ℕ → Type 0 = λ b. Reads b qs [] in
    ap (λ x. x ∷ ps) same.0 ∙ ap (λ xs. q ∷ xs) (one_list r.0 ps qs r.3 (subst P same.1 s.3))

-- and none where a quote is open
none_open : (bytes : List ℕ) (ps qs : List Piece) (left : List ℕ) → Reads bytes ps [] → Reads bytes qs left → IsOpen left → ⊥
none_open bytes [] [] left r s (inl o) = let e : [] ≡ 39 ∷ o.0 = sym r ∙ s ∙ o.2 in cc
none_open bytes [] [] left r s (inr o) = let e : [] ≡ 34 ∷ (flat_map inner_spelling o.0 ++ o.1) = sym r ∙ s ∙ o.4 in cc
none_open bytes [] (q ∷ qs) left r s o = let e = first-of bytes q s.0 s.1 s.2 in let n : first bytes ≡ None = ap first r in cc
none_open bytes (p ∷ ps) [] left r s o = let e = first-of bytes p r.0 r.1 r.2 in let n = ap first s ∙ first-open left o in cc
none_open bytes (p ∷ ps) (q ∷ qs) left r s o =
    let same = same_first bytes p q r.0 s.0 (first-of bytes p r.0 r.1 r.2) (first-of bytes q s.0 s.1 s.2) in
    let P : List ℕ → Type 0 = λ b. Reads b qs left in
    none_open r.0 ps qs left r.3 (subst P same.1 s.3) o

-- a command has one list of words
pub one_words : (command : List ℕ) (some others : List (List ℕ)) → HasWords command some → HasWords command others → some ≡ others
one_words command some others h k =
    h.2 ∙ ap (λ ps. joined None (map given ps)) (one_list command h.0 k.0 h.1 k.1) ∙ sym k.2

-- and no words where a quote has no end
pub no_words : (command : List ℕ) (words : List (List ℕ)) → HasWords command words → HasOpenQuote command → ⊥
no_words command words h o = none_open command h.0 o.0 o.1 h.1 o.2 o.3
