use Rattle.std.proofs.Common.{◌≡◌, ℕ, true, false, not, ◌==◌, length, get_or, sym, refl, arith}
use Rattle.std.proofs.lemmas.Bool.{false_from_ne_true}
use Rattle.std.proofs.lemmas.List.Sums.{prefix_len_is}
use Rattle.cb_lines.specs.Marks.{is_line_feed}
use Rattle.cb_tokens.proofs.runs.line_len.Goals as goal

goes : (b : ℕ) → ((b == 10) ≡ true → ⊥) → not (is_line_feed b) ≡ true
goes b h = rw (false_from_ne_true (b == 10) h) refl

stops : (b : ℕ) → (b == 10) ≡ true → not (is_line_feed b) ≡ false
stops b h = rw h refl

pub returns-in-Some : goal.returns-in-Some
returns-in-Some c =
    let found = c.in-Some.ensures in
    sym (prefix_len_is (λ (b : ℕ). not (is_line_feed b)) c.args.bytes.now c.in-Some.len 0 (omega (arith, found.0.high)) (λ k lt. goes (get_or c.args.bytes.now k 0) (found.0.before k (omega arith) lt)) (λ lt. stops (get_or c.args.bytes.now c.in-Some.len 0) found.1))

pub returns-in-None : goal.returns-in-None
returns-in-None c =
    sym (prefix_len_is (λ (b : ℕ). not (is_line_feed b)) c.args.bytes.now (length c.args.bytes.now) 0 (omega arith) (λ k lt. goes (get_or c.args.bytes.now k 0) (c.in-None.ensures k (omega arith) lt)) (λ lt. absurd (omega arith)))
