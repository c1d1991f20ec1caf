-- The different heights of merges, one after another.
use Rattle.std.proofs.Common.{◌≡◌, ℕ, ◌+◌, ◌<◌, ◌≤◌, true, false, List, [], ◌∷◌, ◌++◌, length, get_or, drop, sym, ap, ◌∙◌, arith}
use Rattle.std.specs.List.{flat_map}
use Rattle.std.proofs.lemmas.Bool.{cond-true, cond-false}
use Rattle.std.proofs.lemmas.List.{append-nil, append_assoc, drop_more, drop_all}
use Rattle.cb_diverge.specs.declared.fraction.Fraction.{Fraction}
use Rattle.cb_diverge.specs.Distances.{is_less}
use Rattle.cb_cluster.specs.declared.merge.Merge.{Merge}
use Rattle.cb_reports.specs.Clustering.{heights_above, heights_of}

heights-first : (ms : List Merge) (x : Merge) → 0 < length ms → x ≡ get_or ms 0 x → heights_of ms ≡ x.height ∷ heights_above x.height (drop 1 ms)
heights-first [] x h e = absurd (omega arith)
heights-first (m ∷ ms) x h e = ap (λ (y : Merge). y.height ∷ heights_above y.height ms) (sym e)

-- what is written so far, and what is still to come
pub cuts-first : (g : Fraction → List ℕ) (start text : List ℕ) (ms : List Merge) (x : Merge) → 0 < length ms → x ≡ get_or ms 0 x → text ≡ start ++ g x.height
    → start ++ flat_map g (heights_of ms) ≡ text ++ flat_map g (heights_above x.height (drop 1 ms))
cuts-first g start text ms x h e adds =
    ap (λ hs. start ++ flat_map g hs) (heights-first ms x h e)
    ∙ sym (append_assoc start (g x.height) (flat_map g (heights_above x.height (drop 1 ms))))
    ∙ ap (λ t. t ++ flat_map g (heights_above x.height (drop 1 ms))) (sym adds)

next : (ms : List Merge) (i : ℕ) (x : Merge) → i < length ms → x ≡ get_or ms i x → drop i ms ≡ x ∷ drop (i + 1) ms
next ms i x h e = drop_more ms i x h ∙ ap (λ y. y ∷ drop (i + 1) ms) (sym e)

pub cuts-more : (g : Fraction → List ℕ) (all old text : List ℕ) (last : Fraction) (ms : List Merge) (i : ℕ) (x : Merge) → i < length ms → x ≡ get_or ms i x
    → all ≡ old ++ flat_map g (heights_above last (drop i ms)) → is_less last x.height ≡ true → text ≡ old ++ g x.height
    → all ≡ text ++ flat_map g (heights_above x.height (drop (i + 1) ms))
cuts-more g all old text last ms i x h e so_far less adds =
    so_far ∙ ap (λ r. old ++ flat_map g (heights_above last r)) (next ms i x h e)
    ∙ ap (λ hs. old ++ flat_map g hs)
    (cond-true (is_less last x.height) (x.height ∷ heights_above x.height (drop (i + 1) ms)) (heights_above last (drop (i + 1) ms)) less)
    ∙ sym (append_assoc old (g x.height) (flat_map g (heights_above x.height (drop (i + 1) ms))))
    ∙ ap (λ t. t ++ flat_map g (heights_above x.height (drop (i + 1) ms))) (sym adds)

pub cuts-same : (g : Fraction → List ℕ) (all old : List ℕ) (last : Fraction) (ms : List Merge) (i : ℕ) (x : Merge) → i < length ms → x ≡ get_or ms i x
    → all ≡ old ++ flat_map g (heights_above last (drop i ms)) → is_less last x.height ≡ false
    → all ≡ old ++ flat_map g (heights_above last (drop (i + 1) ms))
cuts-same g all old last ms i x h e so_far less =
    so_far ∙ ap (λ r. old ++ flat_map g (heights_above last r)) (next ms i x h e)
    ∙ ap (λ hs. old ++ flat_map g hs)
    (cond-false (is_less last x.height) (x.height ∷ heights_above x.height (drop (i + 1) ms)) (heights_above last (drop (i + 1) ms)) less)

pub cuts-end : (g : Fraction → List ℕ) (all text : List ℕ) (last : Fraction) (ms : List Merge) (i : ℕ) → length ms ≤ i
    → all ≡ text ++ flat_map g (heights_above last (drop i ms)) → text ≡ all
cuts-end g all text last ms i h so_far =
    sym (so_far ∙ ap (λ r. text ++ flat_map g (heights_above last r)) (drop_all i ms h) ∙ append-nil text)
