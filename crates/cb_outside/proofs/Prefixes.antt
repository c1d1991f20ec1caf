-- Bytes that are read or written from a place on.
use Rattle.std.proofs.Common.{◌≡◌, ℕ, ◌+◌, ◌<◌, min, List, [], ◌++◌, length, take, drop, sym, ap, ◌∙◌, subst, arith, take-append-drop}
use Rattle.std.proofs.lemmas.List.{drop-drop, nil_from_length}
use Rattle.std.proofs.Math.Seq.{take-add}
use Rattle.std.proofs.lemmas.Grind.{common_steps}
use Rattle.std.specs.Io.KnownBytes.{Appends, Consumes}
use Rattle.std.proofs.KnownBytes.{Appends-trans, Consumes-trans}
use Rattle.std.specs.declared.option.Option.{Option}

-- the bytes after a place are those that were read into the front of a buffer and those behind them
pub bytes_after : (bytes buf : List ℕ) (at n : ℕ) → take n buf ≡ take n (drop at bytes) → drop at bytes ≡ take n buf ++ drop (at + n) bytes
bytes_after bytes buf at n same =
    sym (take-append-drop n (drop at bytes)) ∙ ap (λ l. l ++ drop n (drop at bytes)) (sym same) ∙ ap (λ l. take n buf ++ l) (drop-drop n at bytes)

-- a read that gave nothing though it had room found nothing
pub nothing_left : (bytes : List ℕ) (at n most : ℕ) → n ≡ min (length (drop at bytes)) most → 0 < most → n ≡ 0 → drop (at + n) bytes ≡ []
nothing_left bytes at n most count some none = nil_from_length _ (grind (arith, common_steps))

-- what was taken grows by the next bytes of the list
pub Appends-more : (a b c : Option (List ℕ)) (bytes : List ℕ) (at n : ℕ) → Appends a b (take at bytes) → Appends b c (take n (drop at bytes)) → Appends a c (take (at + n) bytes)
Appends-more a b c bytes at n before more =
    subst (Appends a c) (sym (take-add at n bytes)) (Appends-trans a b c _ _ before more)

-- what was read grows by what stands behind it in the buffer
pub Consumes-more : (a b c : Option (List ℕ)) (old new : List ℕ) (at n : ℕ) → take at new ≡ take at old → Consumes a b (take at old) → Consumes b c (take n (drop at new))
    → Consumes a c (take (at + n) new)
Consumes-more a b c old new at n front before more =
    subst (Consumes a c) (sym (take-add at n new)) (Consumes-trans a b c _ _ (subst (Consumes a b) (sym front) before) more)
