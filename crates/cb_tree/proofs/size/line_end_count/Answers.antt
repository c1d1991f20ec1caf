use Rattle.std.proofs.Common.{◌≡◌, ◌+◌, ℕ, List, cond, length, count_by, take, drop, sym, ap, ◌∙◌, arith, length-drop}
use Rattle.std.proofs.lemmas.List.{take-append-drop}
use Rattle.std.proofs.lemmas.List.Sums.{sum_by-append, count_by-le-length}
use Rattle.cb_lines.specs.Marks.{is_line_feed}
use Rattle.cb_tree.proofs.size.line_end_count.Goals as goal

-- those at the front, and those behind
parted : (n : ℕ) (bytes : List ℕ) → count_by is_line_feed (take n bytes) + count_by is_line_feed (drop n bytes) ≡ count_by is_line_feed bytes
parted n bytes = sym (sum_by-append (λ (b : ℕ). cond (is_line_feed b) 1 0) (take n bytes) (drop n bytes)) ∙ ap (count_by is_line_feed) (take-append-drop n bytes)

pub parts-preserved : goal.parts-preserved
parts-preserved c =
    let n : ℕ = c.min.result in
    let left : List ℕ = c.parts.left.now in
    let front = c.from-count.ensures ∙ (c.line_ends_in.ensures ∙ ap (count_by is_line_feed) c.split_at.ensures.front) in
    let behind = ap (count_by is_line_feed) c.split_at.ensures.back in
    record {
      counted = omega (arith, parted n left, front, behind, c.parts.invariant.counted);
      within = omega (
        arith,
        front,
        c.split_at.ensures.front_len,
        c.split_at.ensures.back_len,
        ap length c.split_at.ensures.front,
        count_by-le-length is_line_feed (take n left),
        ap length c.split_at.ensures.back,
        length-drop n left,
        c.parts.invariant.within,
      );
    }
