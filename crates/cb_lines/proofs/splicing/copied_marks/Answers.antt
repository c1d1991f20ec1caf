use Rattle.std.proofs.Common.{◌≡◌, ℕ, false, ◌+◌, ◌==◌, ◌-◌, ◌<◌, ◌≤◌, List, ◌∷◌, [], ◌++◌, length, take, drop, sym, ap, ◌∙◌, subst, arith}
use Rattle.cb_lines.specs.Marks.{begins_line_end, byte_at, is_line_return, is_splice}
use Rattle.std.proofs.lemmas.Bool.{and_parts}
use Rattle.cb_lines.proofs.Kept.{Kept, kept_run, kept_return, kept_splice, kept_all}
use Rattle.cb_lines.proofs.splicing.copied_marks.Goals as goal

-- the run of bytes up to the next CR or backslash
run : (source : List ℕ) (at end : ℕ) (bytes new ss : List ℕ) → new ≡ bytes ++ take (end - at) (drop at source) → (at ≤ end) × (end ≤ length source) → ((k : ℕ) → at ≤ k → k < end → (is_line_return source k ≡ false) × (is_splice source k ≡ false)) → Kept source at bytes ss → Kept source end new ss
run source at end bytes new ss e within plain kept =
    subst (λ (new : List ℕ). Kept source end new ss) (sym e) (kept_run source at end bytes ss within.0 within.1 plain kept)

pub returns-then-end-source : goal.returns-then-end-source
returns-then-end-source c =
    let kept = run c.args.source.now c.pieces.at c.cut_from-end.result c.pieces.bytes.items c.extend_from_slice.new.self.items c.pieces.splices.items c.in_ok-extend_from_slice.ensures.items c.cut_from-end.ensures.within c.cut_from-end.ensures.stays c.pieces.invariant.kept in
    kept_all c.args.source.now c.cut_from-end.result c.extend_from_slice.new.self.items c.pieces.splices.items (omega arith) kept

pub pieces-preserved-then-is_return_of_line_end : goal.pieces-preserved-then-is_return_of_line_end
pieces-preserved-then-is_return_of_line_end c =
    let end : ℕ = c.cut_from-end.result in
    let kept = run c.args.source.now c.pieces.at end c.pieces.bytes.items c.extend_from_slice.new.self.items c.pieces.splices.items c.in_ok-extend_from_slice.ensures.items c.cut_from-end.ensures.within c.cut_from-end.ensures.stays c.pieces.invariant.kept in
    let l : end < length c.args.source.now = omega (arith, c.cut_from-end.ensures.within.1) in
    record {
      within = omega arith;
      kept = kept_return c.args.source.now end c.extend_from_slice.new.self.items c.pieces.splices.items l (sym c.if-is_return_of_line_end.ensures) kept;
    }

pub pieces-preserved : goal.pieces-preserved
pieces-preserved c =
    let end : ℕ = c.cut_from-end.result in
    let bytes : List ℕ = c.extend_from_slice.new.self.items in
    let kept = run c.args.source.now c.pieces.at end c.pieces.bytes.items bytes c.pieces.splices.items c.in_ok-extend_from_slice.ensures.items c.cut_from-end.ensures.within c.cut_from-end.ensures.stays c.pieces.invariant.kept in
    let len : c.len.result ≡ length bytes = omega (arith, c.extend_from_slice.new.self.ok) in
    let behind = kept_splice c.args.source.now end c.behind_line_end-at.result bytes c.pieces.splices.items (c.cut_from-end.ensures.cut (omega (arith, c.cut_from-end.ensures.within.1)) (sym c.if-is_return_of_line_end.ensures)) c.behind_line_end-at.ensures kept in
    let splices : c.push.new.self.items ≡ c.pieces.splices.items ++ length bytes ∷ [] = c.in_ok-push.ensures.items ∙ ap (λ (n : ℕ). c.pieces.splices.items ++ n ∷ []) len in
    record {
      within = behind.within;
      kept = subst (λ (ss : List ℕ). Kept c.args.source.now c.behind_line_end-at.result bytes ss) (sym splices) behind.kept;
    }

pub behind_line_end-at-requires : goal.behind_line_end-at-requires
behind_line_end-at-requires c =
    let end : ℕ = c.cut_from-end.result in
    (and_parts (byte_at c.args.source.now end == 92) (begins_line_end c.args.source.now (end + 1)) (c.cut_from-end.ensures.cut (omega (arith, c.cut_from-end.ensures.within.1)) (sym c.if-is_return_of_line_end.ensures))).1
