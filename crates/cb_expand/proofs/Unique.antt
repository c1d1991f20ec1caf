-- Tokens expand to one list at most, at one cost.
use Rattle.std.proofs.Common.{◌≡◌, ℕ, ◌+◌, List, [], ◌∷◌, ◌++◌, length, refl, ap, sym, subst, arith}
use Rattle.cb_expand.specs.declared.mode.Mode.{Mode}
use Rattle.cb_paste.specs.Shades.{Shaded}
use Rattle.cb_expand.specs.Heads.{Named, Head, Stands, Calls, head, put}
use Rattle.cb_expand.specs.Expansion.{Expands, ends, stands, calls, ExpandAll, none, each}

-- how tokens expand whose first one is this
abbrev pub By : Named → Mode → Head → List Shaded → ℕ → Type 0
By ms mode (Stands u rest) out n = (o : List Shaded) × (out ≡ u ∷ o) × Expands ms mode rest o n
By ms mode (Calls i shown rest) out n =
    (outs : List (List Shaded)) × (k : ℕ) × (m : ℕ) × ExpandAll ms mode shown outs k × Expands ms mode (put i outs ++ rest) out m × (n ≡ k + (1 + length (put i outs)) + m)

pub by_head : {ms : Named} {mode : Mode} {t : Shaded} {ts out : List Shaded} {n : ℕ} → Expands ms mode (t ∷ ts) out n → By ms mode (head ms mode t ts) out n
by_head {ms} {mode} (stands e x) = rw e (_, refl, x)
by_head {ms} {mode} (calls e a x) = rw e (_, _, _, a, x, refl)

-- the same with the head written
pub by_this_head : {ms : Named} {mode : Mode} {t : Shaded} {ts out : List Shaded} {n : ℕ} (h : Head)
    → head ms mode t ts ≡ h → Expands ms mode (t ∷ ts) out n → By ms mode h out n
by_this_head {ms} {mode} {t} {ts} {out} {n} h e x = subst (λ h. By ms mode h out n) e (by_head x)

pub no_tokens : {ms : Named} {mode : Mode} {out : List Shaded} {n : ℕ} → Expands ms mode [] out n → (out ≡ []) × (n ≡ 0)
no_tokens ends = (refl, refl)

-- how a row of lists expands
abbrev pub ByAll : Named → Mode → List (List Shaded) → List (List Shaded) → ℕ → Type 0
ByAll ms mode [] outs n = (outs ≡ []) × (n ≡ 0)
ByAll ms mode (ts ∷ tss) outs n =
    (o : List Shaded) × (os : List (List Shaded)) × (k : ℕ) × (m : ℕ) × Expands ms mode ts o k × ExpandAll ms mode tss os m × (outs ≡ o ∷ os) × (n ≡ k + m)

pub by_all : {ms : Named} {mode : Mode} {tss outs : List (List Shaded)} {n : ℕ} → ExpandAll ms mode tss outs n → ByAll ms mode tss outs n
by_all none = (refl, refl)
by_all (each x a) = (_, _, _, _, x, a, refl, refl)

mutual
  pub unique : {ms : Named} {mode : Mode} {ts a b : List Shaded} {m n : ℕ} → Expands ms mode ts a m → Expands ms mode ts b n → (a ≡ b) × (m ≡ n)
  unique ends y = let h = no_tokens y in (sym h.0, sym h.1)
  unique (stands e x) y =
      let h = by_this_head _ e y in
      let r = unique x h.2 in (cc, r.1)
  unique {ms} {mode} {b = b} (calls {rest = rest} {i = i} e a x) y =
      let h = by_this_head _ e y in
      let r = unique_all a h.3 in
      let y' = subst (λ os. Expands ms mode (put i os ++ rest) b h.2) (sym r.0) h.4 in
      let s = unique x y' in
      let p = ap (λ os. length (put i os)) r.0 in
      (s.0, omega (arith, r.1, s.1, p, h.5))

  pub unique_all : {ms : Named} {mode : Mode} {tss outs others : List (List Shaded)} {m n : ℕ} → ExpandAll ms mode tss outs m → ExpandAll ms mode tss others n → (outs ≡ others) × (m ≡ n)
  unique_all none b = let h = by_all b in (sym h.0, sym h.1)
  unique_all (each x a) b =
      let h = by_all b in
      let r = unique x h.4 in
      let s = unique_all a h.5 in
      (cc, cc)
