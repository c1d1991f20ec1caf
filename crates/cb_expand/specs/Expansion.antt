-- Replacement and rescanning (6.10.3, 6.10.3.4, with Prosser's hide sets).
use Rattle.std.specs.Prelude.{◌≡◌, ℕ, ◌+◌, ◌<◌, ◌≤◌, false, List, [], ◌∷◌, ◌++◌, length, map}
use Rattle.cb_tokens.specs.declared.token.Token.{Token}
use Rattle.cb_expand.specs.declared.limits.TheConstants.{COST_LIMIT}
use Rattle.cb_expand.specs.declared.mode.Mode.{Mode}
use Rattle.cb_paste.specs.Shades.{Shaded}
use Rattle.cb_expand.specs.Heads.{Named, Insertion, Stands, Calls, head, put}

mutual
  -- with these macros, tokens expand to others at a cost: a token that stands costs nothing; a call costs one and the number of
  -- the tokens that it puts in, which are read again with what stands behind them, and what the expansion of its arguments
  -- costs, each once (6.10.3.1 paragraph 1, 6.10.3.4 paragraph 1; the cost is own)
  pub data Expands (ms : Named) (mode : Mode) : List Shaded → List Shaded → ℕ → Type 0 where
    ends : Expands ms mode [] [] 0
    stands : {t u : Shaded} {ts rest out : List Shaded} {n : ℕ}
        → head ms mode t ts ≡ Stands u rest → Expands ms mode rest out n → Expands ms mode (t ∷ ts) (u ∷ out) n
    calls : {t : Shaded} {ts rest out : List Shaded} {i : Insertion} {shown outs : List (List Shaded)} {k n : ℕ}
        → head ms mode t ts ≡ Calls i shown rest → ExpandAll ms mode shown outs k
        → Expands ms mode (put i outs ++ rest) out n → Expands ms mode (t ∷ ts) out (k + (1 + length (put i outs)) + n)

  -- lists of tokens expand to others, each by itself, at a cost together (6.10.3.1 paragraph 1)
  pub data ExpandAll (ms : Named) (mode : Mode) : List (List Shaded) → List (List Shaded) → ℕ → Type 0 where
    none : ExpandAll ms mode [] [] 0
    each : {ts out : List Shaded} {tss outs : List (List Shaded)} {k n : ℕ}
        → Expands ms mode ts out k → ExpandAll ms mode tss outs n → ExpandAll ms mode (ts ∷ tss) (out ∷ outs) (k + n)

-- a token of a source, which hides nothing (Prosser's algorithm)
abbrev pub bare : Token → Shaded
bare t = record { kind = t.kind; spaced = t.spaced; text = t.text; hides = λ n. false }

-- a token without its hide set (own)
abbrev pub plain : Shaded → Token
plain t = record { kind = t.kind; spaced = t.spaced; text = t.text }

-- the tokens expand to these at a cost (6.10.3; the cost is own)
abbrev pub IsExpansion : Named → Mode → List Token → List Token → ℕ → Type 0
IsExpansion ms mode tokens out n =
    (shaded : List Shaded) × Expands ms mode (map bare tokens) shaded n × (map plain shaded ≡ out)

-- the tokens are replaced by these, at a cost within the limit (6.10.3; the limit is own)
abbrev pub IsReplacement : Named → Mode → List Token → List Token → Type 0
IsReplacement ms mode tokens out = (n : ℕ) × IsExpansion ms mode tokens out n × (n ≤ COST_LIMIT)

-- every expansion costs more than the limit (own)
abbrev pub IsTooDear : Named → Mode → List Token → Type 0
IsTooDear ms mode tokens = (out : List Token) (n : ℕ) → IsExpansion ms mode tokens out n → COST_LIMIT < n
