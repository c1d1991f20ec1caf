-- Rows with lines more have a line each, and members up to the number of platforms.
use Rattle.std.proofs.Common.{ℕ, ◌+◌, ◌≤◌, List, [], ◌∷◌, length, inl, inr, arith}
use Rattle.std.specs.List.{All}
use Rattle.std.specs.Str.{bytes_eq}
use Rattle.std.proofs.lemmas.Bool.{cases_Bool}
use Rattle.std.proofs.lemmas.List.Elements.{All-nil, All-cons, All-head, All-tail}
use Rattle.cb_lines.specs.Lines.{has_line}
use Rattle.cb_sets.specs.Sets.{precedes}
use Rattle.cb_sets.specs.Tallies.{SetLines, IsRow, users, users_from, with_count, with_counted}

users_within : (n p : ℕ) (used : List (List ℕ)) (line : ℕ) → p + length used ≤ n + 1 → All (λ q. q ≤ n) (users_from p used line)
users_within n p [] line h = All-nil (λ q. q ≤ n)
users_within n p (x ∷ used) line h =
    let rest : All (λ q. q ≤ n) (users_from (p + 1) used line) = users_within n (p + 1) used line (omega arith) in
    elim (cases_Bool (has_line x line)) [
      | inl yes' ↦ rw yes' (All-cons (λ q. q ≤ n) p (users_from (p + 1) used line) (omega arith) rest)
      | inr no' ↦ rw no' rest
    ]

rows_with_count : (n : ℕ) (m : List ℕ) (rows : List SetLines) → All (λ q. q ≤ n) m → All (IsRow n) rows → All (IsRow n) (with_count m 1 rows)
rows_with_count n m [] h k = All-cons (IsRow n) (record { members = m; lines = 1 }) [] (omega arith, h) (All-nil (IsRow n))
rows_with_count n m (r ∷ rs) h k =
    let first : IsRow n r = All-head (IsRow n) r rs k in
    let rest : All (IsRow n) rs = All-tail (IsRow n) r rs k in
    elim (cases_Bool (bytes_eq m r.members)) [
      | inl yes' ↦ rw yes' (All-cons (IsRow n) (record { members = r.members; lines = r.lines + 1 }) rs (omega arith, first.1) rest)
      | inr no' ↦ elim (cases_Bool (precedes m r.members)) [
        | inl before ↦ rw (no', before) (All-cons (IsRow n) (record { members = m; lines = 1 }) (r ∷ rs) (omega arith, h) k)
        | inr later ↦ rw (no', later) (All-cons (IsRow n) r (with_count m 1 rs) first (rows_with_count n m rs h rest))
      ]
    ]

pub rows_with_counted : (n : ℕ) (used : List (List ℕ)) (xs : List ℕ) (rows : List SetLines) → length used ≤ n → All (IsRow n) rows → All (IsRow n) (with_counted used xs rows)
rows_with_counted n used [] rows h k = k
rows_with_counted n used (x ∷ xs) rows h k =
    rows_with_counted n used xs (with_count (users used x) 1 rows) h (rows_with_count n (users used x) rows (users_within n 1 used x (omega arith)) k)
