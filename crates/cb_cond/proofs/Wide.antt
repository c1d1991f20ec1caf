-- Integers that are too wide.
use Rattle.std.proofs.Common.{◌≡◌, ℕ, ◌<◌, ◌≤◌, List, length, get_or, ap, sym, ◌∙◌, arith}
use Rattle.std.proofs.lemmas.List.{length-map, get_or-map}
use Rattle.cb_paths.specs.declared.language.Language.{Language}
use Rattle.cb_tokens.specs.declared.token.Token.{Token}
use Rattle.cb_cond.specs.declared.symbol.Symbol.{Symbol}
use Rattle.cb_cond.specs.declared.symbol.Symbol.TheVariants.{WideInteger}
use Rattle.cb_cond.specs.Symbols.{symbol, symbols}
use Rattle.cb_cond.specs.Faults.{IsTooWide}

at : (language : Language) (tokens : List Token) (i : ℕ) (item : Token) (s : Symbol) → i < length tokens → item ≡ get_or tokens i item → s ≡ symbol language item
    → get_or (symbols language tokens) i WideInteger ≡ s
unfolding symbols
at language tokens i item s l e f = get_or-map (symbol language) tokens i item WideInteger l ∙ ap (symbol language) (sym e) ∙ sym f

pub wide-at : (language : Language) (tokens : List Token) (i : ℕ) (item : Token) (s : Symbol) → i < length tokens → item ≡ get_or tokens i item → s ≡ symbol language item
    → get_or (symbols language tokens) i WideInteger ≡ WideInteger → s ≡ WideInteger
wide-at language tokens i item s l e f g = sym (at language tokens i item s l e f) ∙ g

pub wide-found : (language : Language) (tokens : List Token) (i : ℕ) (item : Token) (s : Symbol) → i < length tokens → item ≡ get_or tokens i item → s ≡ symbol language item
    → s ≡ WideInteger → IsTooWide (symbols language tokens)
wide-found language tokens i item s l e f g = (i, unfold symbols in rw length-map l, at language tokens i item s l e f ∙ g)

pub narrow-all : (language : Language) (tokens : List Token) (i : ℕ) → length tokens ≤ i → ((k : ℕ) → k < i → get_or (symbols language tokens) k WideInteger ≡ WideInteger → ⊥)
    → IsTooWide (symbols language tokens) → ⊥
unfolding symbols
narrow-all language tokens i l h w = h w.0 (omega (arith, w.1, length-map tokens (symbol language))) w.2
