-- Where the tokens that are left begin in the whole list.
use Rattle.std.proofs.Common.{◌≡◌, ℕ, ◌+◌, ◌<◌, ◌≤◌, List, [], ◌∷◌, length, get_or, drop, refl, ap, sym, ◌∙◌, length-drop, arith}
use Rattle.std.proofs.lemmas.List.{drop_more, length-map, get_or-map}
use Rattle.cb_paths.specs.declared.language.Language.{Language}
use Rattle.cb_tokens.specs.declared.token.Token.{Token}
use Rattle.cb_cond.specs.Symbols.{symbol, symbols}

-- behind the first i tokens of a list these are left
pub record IsAt (all : List Token) (i : ℕ) (rest : List Token) : Type 0 where
  pub within : i ≤ length all
  pub behind : drop i all ≡ rest

pub at-start : (all : List Token) → IsAt all 0 all
at-start all = record { within = omega arith; behind = refl }

pub at-less : (all : List Token) (i : ℕ) (rest more : List Token) (token : Token) → IsAt all i rest → rest ≡ token ∷ more → i < length all
at-less all i rest more token h e =
    let l = length-drop i all in
    let k = ap (λ (ts : List Token). length ts) (h.behind ∙ e) in
    omega arith

cons-at : (all : List Token) (i : ℕ) (rest more : List Token) (token : Token) → IsAt all i rest → rest ≡ token ∷ more
    → get_or all i token ∷ drop (i + 1) all ≡ token ∷ more
cons-at all i rest more token h e = sym (drop_more all i token (at-less all i rest more token h e)) ∙ h.behind ∙ e

pub at-next : (all : List Token) (i : ℕ) (rest more : List Token) (token : Token) → IsAt all i rest → rest ≡ token ∷ more → IsAt all (i + 1) more
at-next all i rest more token h e =
    let l = at-less all i rest more token h e in
    let k = cons-at all i rest more token h e in
    record { within = omega arith; behind = cc }

pub at-item : (all : List Token) (i : ℕ) (rest more : List Token) (token : Token) → IsAt all i rest → rest ≡ token ∷ more → token ≡ get_or all i token
at-item all i rest more token h e = let k = cons-at all i rest more token h e in cc

pub at-end : (all : List Token) (i : ℕ) (rest : List Token) → IsAt all i rest → rest ≡ [] → length all ≤ i
at-end all i rest h e =
    let l = length-drop i all in
    let k = ap (λ (ts : List Token). length ts) (h.behind ∙ e) in
    omega arith

pub symbol-less : (language : Language) (all : List Token) (i : ℕ) → i < length all → i < length (symbols language all)
unfolding symbols
symbol-less language all i l = rw length-map l

pub symbol-at : (language : Language) (all : List Token) (i : ℕ) (token : Token) → i < length all → token ≡ get_or all i token
    → get_or (symbols language all) i (symbol language token) ≡ symbol language token
unfolding symbols
symbol-at language all i token l e = get_or-map (symbol language) all i token (symbol language token) l ∙ ap (symbol language) (sym e)

pub symbols-end : (language : Language) (all : List Token) (i : ℕ) → length all ≤ i → length (symbols language all) ≤ i
unfolding symbols
symbols-end language all i l = rw length-map l
