-- Stretches of white space and tokens in a run.
use Rattle.std.proofs.Common.{◌≡◌, ℕ, suc, zero, ◌<◌, true, false, List, [], ◌∷◌, ◌++◌, length, get_or, take, drop, refl, ap, sym, subst, ◌∙◌, arith, length-append, ⊎_elim, codes}
use Rattle.std.specs.List.{list_all}
use Rattle.std.specs.Str.{bytes_eq}
use Rattle.std.proofs.lemmas.Bool.{false≢true, and_parts, or_cases, false_from_ne_true}
use Rattle.std.proofs.lemmas.Slice.Eq.{bytes_eq-Decides}
use Rattle.cb_lines.specs.declared.mark.Mark.{Mark}
use Rattle.cb_lines.specs.Marks.{bytes_of}
use Rattle.cb_lines.specs.Lines.{with_line, with_lines, StandOn}
use Rattle.cb_tokens.specs.declared.token.PieceKind.{PieceKind}
use Rattle.cb_tokens.specs.declared.token.PieceKind.TheVariants as kinds
use Rattle.cb_tokens.specs.Cut.{Piece, Cuts}
use Rattle.cb_tokens.specs.Plain.{is_plain, CutsPlain}
use Rattle.cb_tree.specs.declared.reading.Place.{Place}
use Rattle.cb_tree.specs.declared.reading.Place.TheVariants.{LineStart, InLine}
use Rattle.cb_tree.specs.Kinds.{is_hash_text}
use Rattle.cb_tree.specs.inner.Reads.{ReadsRun, solid}
use Rattle.cb_tree.proofs.Pieces.{some_bytes}
use Rattle.cb_tree.proofs.Runs.{run_start, with_lines-append, run_white, run_token, run_any_token}

step : (ms : List Mark) (counted : List ℕ) (rest : List Mark) (k : PieceKind) (marks : List Mark) (ps : List Piece) (end : List Mark)
    → Cuts rest (record { kind = k; marks = marks } ∷ ps) end → is_plain k ≡ true
    → ((set : List ℕ) → ReadsRun ms InLine set (drop (length marks) rest) → ReadsRun ms InLine (with_lines (solid ps) set) end)
    → ReadsRun ms InLine counted rest → ReadsRun ms InLine (with_lines (solid (record { kind = k; marks = marks } ∷ ps)) counted) end
step ms counted rest kinds.White marks ps end cut plain more run = more counted (run_white ms InLine counted rest (length marks) cut.0.first run)
step ms counted rest kinds.Comment marks ps end cut plain more run = absurd (false≢true plain)
step ms counted rest kinds.LineEnd marks ps end cut plain more run = absurd (false≢true plain)
step ms counted rest (kinds.Token j) marks ps end cut plain more run =
    subst (λ (set : List ℕ). ReadsRun ms InLine set end) (sym (with_lines-append marks (solid ps) counted))
    (more (with_lines marks counted)
    (subst (λ (x : List Mark). ReadsRun ms InLine (with_lines x counted) (drop (length marks) rest)) (sym cut.0.marks)
    (run_token ms counted rest j (length marks) cut.0.first run)))

run_pieces : (ms : List Mark) (counted : List ℕ) (rest : List Mark) (ps : List Piece) (end : List Mark) → Cuts rest ps end
    → list_all (λ (p : Piece). is_plain p.kind) ps ≡ true → ReadsRun ms InLine counted rest → ReadsRun ms InLine (with_lines (solid ps) counted) end
run_pieces ms counted rest [] end cut plain run = subst (λ (x : List Mark). ReadsRun ms InLine counted x) cut run
run_pieces ms counted rest (p ∷ ps) end cut plain run =
    let parts = and_parts (is_plain p.kind) (list_all (λ (p : Piece). is_plain p.kind) ps) plain in
    step ms counted rest p.kind p.marks ps end cut parts.0 (λ set r. run_pieces ms set (drop (length p.marks) rest) ps end cut.1 parts.1 r) run

-- what does not begin as # or %: do is neither
head_taken : (n : ℕ) (bs : List ℕ) → 0 < n → get_or (take n bs) 0 0 ≡ get_or bs 0 0
head_taken zero bs some = absurd (omega arith)
head_taken (suc n) [] some = refl
head_taken (suc n) (b ∷ bs) some = refl

no_hash : (n : ℕ) (bs : List ℕ) → 0 < n → (get_or bs 0 0 ≡ 35 → ⊥) → (get_or bs 0 0 ≡ 37 → ⊥) → is_hash_text (take n bs) ≡ false
unfolding is_hash_text
no_hash n bs some hash percent =
    let head = head_taken n bs some in
    false_from_ne_true (is_hash_text (take n bs)) (λ h.
    ⊎_elim (λ e. hash (sym head ∙ ap (λ (l : List ℕ). get_or l 0 0) ((bytes_eq-Decides (take n bs) (codes "#")).0 e)))
    (λ e. percent (sym head ∙ ap (λ (l : List ℕ). get_or l 0 0) ((bytes_eq-Decides (take n bs) (codes "%:")).0 e)))
    (or_cases (bytes_eq (take n bs) (codes "#")) (bytes_eq (take n bs) (codes "%:")) h))

-- the tokens of a stretch on one line add this line
on_one_line : (counted : List ℕ) (rest : List Mark) (n line : ℕ) (s : CutsPlain rest n) → 0 < length s.first
    → ((xs : List Mark) (set : List ℕ) → 0 < length xs → StandOn line xs → with_lines xs set ≡ with_line line set) → StandOn line (take n rest)
    → with_lines (solid s.pieces) (with_lines (take (length s.first) rest) counted) ≡ with_line line counted
on_one_line counted rest n line s some once stands =
    let marks : List Mark = s.first ++ solid s.pieces in
    ap (λ (x : List Mark). with_lines (solid s.pieces) (with_lines x counted)) (sym s.cut.0.marks)
    ∙ (sym (with_lines-append s.first (solid s.pieces) counted) ∙ once marks counted (omega (arith, length-append s.first (solid s.pieces))) (s.on_line line stands))

-- a stretch on one line
pub run_stretch : (ms : List Mark) (place : Place) (counted : List ℕ) (rest : List Mark) (n line : ℕ) → CutsPlain rest n
    → (place ≡ LineStart → (get_or (bytes_of rest) 0 0 ≡ 35 → ⊥) × (get_or (bytes_of rest) 0 0 ≡ 37 → ⊥))
    → ((xs : List Mark) (set : List ℕ) → 0 < length xs → StandOn line xs → with_lines xs set ≡ with_line line set) → StandOn line (take n rest)
    → ReadsRun ms place counted rest → ReadsRun ms InLine (with_line line counted) (drop n rest)
run_stretch ms place counted rest n line s hash once stands run =
    let len : ℕ = length s.first in
    let some : 0 < len = some_bytes (bytes_of rest) (kinds.Token s.kind) len s.cut.0.first.1 in
    let head : ReadsRun ms InLine (with_lines (take len rest) counted) (drop len rest) =
    run_any_token ms place counted rest s.kind len s.cut.0.first (λ e. no_hash len (bytes_of rest) some (hash e).0 (hash e).1) run in
    subst (λ (set : List ℕ). ReadsRun ms InLine set (drop n rest)) (on_one_line counted rest n line s some once stands)
    (run_pieces ms (with_lines (take len rest) counted) (drop len rest) s.pieces (drop n rest) s.cut.1 s.plain head)

-- and one that begins a run
pub start_stretch : (rest : List Mark) (n line : ℕ) → CutsPlain rest n → (get_or (bytes_of rest) 0 0 ≡ 35 → ⊥) × (get_or (bytes_of rest) 0 0 ≡ 37 → ⊥)
    → ((xs : List Mark) (set : List ℕ) → 0 < length xs → StandOn line xs → with_lines xs set ≡ with_line line set) → StandOn line (take n rest)
    → ReadsRun rest InLine (with_line line []) (drop n rest)
start_stretch rest n line s hash once stands =
    let len : ℕ = length s.first in
    let some : 0 < len = some_bytes (bytes_of rest) (kinds.Token s.kind) len s.cut.0.first.1 in
    let head : ReadsRun rest InLine (with_lines (take len rest) []) (drop len rest) =
    run_start rest s.kind len s.cut.0.first (no_hash len (bytes_of rest) some hash.0 hash.1) in
    subst (λ (set : List ℕ). ReadsRun rest InLine set (drop n rest)) (on_one_line [] rest n line s some once stands)
    (run_pieces rest (with_lines (take len rest) []) (drop len rest) s.pieces (drop n rest) s.cut.1 s.plain head)
