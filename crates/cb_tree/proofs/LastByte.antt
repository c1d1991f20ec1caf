-- The last byte of a source.
use Rattle.std.proofs.Common.{◌≡◌, ℕ, ◌-◌, ◌<◌, not, List, [], ◌∷◌, length, get_or, ap, sym, ◌∙◌, arith, refl}
use Prim.Native.Nat.{suc}
use Rattle.cb_lines.specs.Marks.{is_line_feed}
use Rattle.cb_tree.specs.Sound.{ends_open}

-- the last of a list of two or more is that of its tail
later : (b c : ℕ) (cs : List ℕ) → get_or (c ∷ cs) (length (c ∷ cs) - 1) 0 ≡ get_or (b ∷ c ∷ cs) (length (b ∷ c ∷ cs) - 1) 0
later b c cs =
    let e : length (b ∷ c ∷ cs) - 1 ≡ suc (length (c ∷ cs) - 1) = omega arith in
    ap (λ n. get_or (b ∷ c ∷ cs) n 0) (sym e)

pub ends_open_by_last : (s : List ℕ) → 0 < length s → ends_open s ≡ not (is_line_feed (get_or s (length s - 1) 0))
ends_open_by_last [] h = absurd (omega arith)
ends_open_by_last (b ∷ []) h = refl
ends_open_by_last (b ∷ c ∷ cs) h =
    ends_open_by_last (c ∷ cs) (omega arith) ∙ ap (λ x. not (is_line_feed x)) (later b c cs)
