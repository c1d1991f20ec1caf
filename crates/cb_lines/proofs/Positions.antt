-- One position on, over the marks from it and its line.
use Rattle.std.proofs.Common.{◌≡◌, ℕ, ◌+◌, ◌-◌, ◌^◌, ◌<◌, ◌≤◌, Bool, true, false, cond, if◌then◌else◌, List, [], ◌∷◌, ◌++◌, length, take, min, ap, ◌∙◌, suc, arith}
use Rattle.std.specs.List.{flat_map, range_with_len, count_by}
use Rattle.std.proofs.lemmas.List.Sums.{sum_by_more}
use Rattle.cb_lines.specs.Marks.{byte_at, is_deleted, is_line_feed, line_at, mark_at, marks_from}

pub marks_from-more : (source : List ℕ) (i : ℕ) → i < length source → marks_from source i ≡ mark_at source i ++ marks_from source (i + 1)
marks_from-more source i h =
    let e : length source - i ≡ suc (length source - (i + 1)) = omega arith in
    ap (λ (n : ℕ). flat_map (mark_at source) (range_with_len i n)) e

-- the position is taken away, or stays
pub marks_from-taken : (source : List ℕ) (i : ℕ) → i < length source → is_deleted source i ≡ true → marks_from source i ≡ marks_from source (i + 1)
marks_from-taken source i h taken =
    marks_from-more source i h ∙ ap (λ (b : Bool). (if b then [] else (record { byte = byte_at source i; line = line_at source i } ∷ [])) ++ marks_from source (i + 1)) taken

pub marks_from-stays : (source : List ℕ) (i : ℕ) → i < length source → is_deleted source i ≡ false → marks_from source i ≡ record { byte = byte_at source i; line = line_at source i } ∷ marks_from source (i + 1)
marks_from-stays source i h stays =
    marks_from-more source i h ∙ ap (λ (b : Bool). (if b then [] else (record { byte = byte_at source i; line = line_at source i } ∷ [])) ++ marks_from source (i + 1)) stays

pub marks_from-end : (source : List ℕ) (i : ℕ) → length source ≤ i → marks_from source i ≡ []
marks_from-end source i h =
    let e : length source - i ≡ 0 = omega arith in
    ap (λ (n : ℕ). flat_map (mark_at source) (range_with_len i n)) e

pub line_at-more : (source : List ℕ) (i : ℕ) → i < length source → line_at source (i + 1) ≡ min (2 ^ 32 - 1) (line_at source i + cond (is_line_feed (byte_at source i)) 1 0)
line_at-more source i h =
    let e : count_by is_line_feed (take (i + 1) source) ≡ count_by is_line_feed (take i source) + cond (is_line_feed (byte_at source i)) 1 0 =
    sum_by_more (λ (x : ℕ). cond (is_line_feed x) 1 0) source i 0 h in
    omega (arith, e)
