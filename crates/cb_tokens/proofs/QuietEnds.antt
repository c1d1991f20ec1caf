-- Ends of white space behind quiet bytes.
use Rattle.std.proofs.Common.{◌≡◌, ℕ, ◌+◌, ◌-◌, ◌<◌, ◌≤◌, true, false, List, length, drop, length-drop, slice_index, ◌⊎◌, inl, inr, ⊎_elim, arith}
use Rattle.std.proofs.lemmas.Bool.{cases_lt, both_ways}
use Rattle.std.proofs.lemmas.List.{get_or-drop}
use Rattle.cb_tokens.specs.inner.Breaks.{IsBreak}
use Rattle.cb_tokens.specs.Plain.{is_quiet, EndsWhite, IsQuietEnd}

-- such an end is not past the first byte that is not quiet
up_to_loud : (bytes : List ℕ) (end seen n : ℕ) → IsQuietEnd bytes n → n < end → (seen < end → is_quiet (slice_index bytes seen) ≡ false) → n ≤ seen
up_to_loud bytes end seen n q lt loud =
    ⊎_elim (λ (h : seen < n). absurd (both_ways (is_quiet (slice_index bytes seen)) (loud (omega arith)) (q.quiet seen h))) (λ (h : n ≤ seen). h) (cases_lt seen n)

pub quiet_goes : (bytes : List ℕ) (end at seen next n : ℕ) → IsQuietEnd bytes n → n < end → (at ≡ 0) ⊎ (n ≤ at) → (seen < end → is_quiet (slice_index bytes seen) ≡ false)
    → at ≤ seen → seen < next → n ≤ next
quiet_goes bytes end at seen next n q lt from loud le past =
    let up = up_to_loud bytes end seen n q lt loud in
    omega arith

pub quiet_stops : (bytes : List ℕ) (end at seen len next n : ℕ) → IsQuietEnd bytes n → n < end → (at ≡ 0) ⊎ (n ≤ at) → (seen < end → is_quiet (slice_index bytes seen) ≡ false)
    → ((m : ℕ) → len < m → m ≤ seen → m < end → EndsWhite bytes m → ⊥) → at ≤ len → len ≤ next → n ≤ next
quiet_stops bytes end at seen len next n q lt from loud last le past =
    let up = up_to_loud bytes end seen n q lt loud in
    ⊎_elim (λ (h : len < n). absurd (last n h up lt q.ends)) (λ (h : n ≤ len). omega arith) (cases_lt len n)

-- an end of white space behind quiet bytes from a place on
pub break_at : (bytes : List ℕ) (from n : ℕ) → n < length bytes → ((k : ℕ) → from ≤ k → k < n → is_quiet (slice_index bytes k) ≡ true) → EndsWhite bytes n
    → from < n → IsBreak (drop from bytes) (n - from)
break_at bytes from n within quiet ends lt =
    let before : from + (n - from - 1) ≡ n - 1 = omega arith in
    let here : from + (n - from) ≡ n = omega arith in
    record {
      some = omega arith;
      within = omega (arith, length-drop from bytes);
      quiet = λ k h. rw (get_or-drop from bytes k 0) (quiet (from + k) (omega arith) (omega arith));
      ends = inr (inl (rw (get_or-drop from bytes (n - from - 1) 0, before) ends.0, rw (get_or-drop from bytes (n - from) 0, here) ends.1));
    }
