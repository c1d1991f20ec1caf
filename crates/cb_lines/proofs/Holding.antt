-- Marks kept as bytes and splices: one byte or one splice more, and what is left of them behind some.
use Rattle.std.proofs.Common.{◌≡◌, ℕ, ◌+◌, ◌-◌, ◌^◌, ◌<◌, ◌≤◌, min, false, cond, leb, List, [], ◌∷◌, ◌++◌, length, get_or, take, drop, refl, sym, ap, ◌∙◌, subst, suc, zero, inl, inr, arith, length-drop}
use Rattle.std.proofs.lemmas.Bool.{cases_lt, cases_order, le-leb, lt-leb, le-ltb, lt-ltb, eq-eqb, ne_eqb}
use Rattle.std.proofs.lemmas.List.{take_more, drop_more}
use Rattle.cb_lines.specs.declared.mark.Mark.{Mark}
use Rattle.cb_lines.specs.Marks.{bytes_of, first_line, is_line_feed}
use Rattle.cb_lines.specs.Lines.{with_line, with_lines, StandOn}
use Rattle.cb_lines.specs.inner.Held.{passed, feeds, marks_held, Rises}

-- one for an LF
abbrev pub feed : ℕ → ℕ
feed b = cond (is_line_feed b) 1 0

pub held-bytes : (line at : ℕ) (bs ss : List ℕ) → bytes_of (marks_held line at bs ss) ≡ bs
held-bytes line at [] ss = refl
held-bytes line at (b ∷ bs) ss = ap (λ (cs : List ℕ). b ∷ cs) (held-bytes (line + feed b) (at + 1) bs ss)

pub held-length : (line at : ℕ) (bs ss : List ℕ) → length (marks_held line at bs ss) ≡ length bs
held-length line at [] ss = refl
held-length line at (b ∷ bs) ss = ap suc (held-length (line + feed b) (at + 1) bs ss)

-- lines that are one once they stand at the greatest number
pub held-capped : (m n at : ℕ) (bs ss : List ℕ) → min (2 ^ 32 - 1) m ≡ min (2 ^ 32 - 1) n → marks_held m at bs ss ≡ marks_held n at bs ss
held-capped m n at [] ss e = refl
held-capped m n at (b ∷ bs) ss e =
    let first : min (2 ^ 32 - 1) (m + passed at ss) ≡ min (2 ^ 32 - 1) (n + passed at ss) = omega arith in
    let rest : marks_held (m + feed b) (at + 1) bs ss ≡ marks_held (n + feed b) (at + 1) bs ss = held-capped (m + feed b) (n + feed b) (at + 1) bs ss (omega arith) in
    ap (λ (l : ℕ). record { byte = b; line = l } ∷ marks_held (m + feed b) (at + 1) bs ss) first
    ∙ ap (λ (ms : List Mark). record { byte = b; line = min (2 ^ 32 - 1) (n + passed at ss) } ∷ ms) rest

pub held-append : (line at : ℕ) (bs cs ss : List ℕ) → marks_held line at (bs ++ cs) ss ≡ marks_held line at bs ss ++ marks_held (line + feeds bs) (at + length bs) cs ss
held-append line at [] cs ss =
    let e : line + 0 ≡ line = omega arith in
    let f : at + 0 ≡ at = omega arith in
    rw (e, f) refl
held-append line at (b ∷ bs) cs ss =
    let e : line + feed b + feeds bs ≡ line + (feed b + feeds bs) = omega arith in
    let f : at + 1 + length bs ≡ at + suc (length bs) = omega arith in
    let m : Mark = record { byte = b; line = min (2 ^ 32 - 1) (line + passed at ss) } in
    ap (λ (ms : List Mark). m ∷ ms) (held-append (line + feed b) (at + 1) bs cs ss)
    ∙ (ap (λ (n : ℕ). m ∷ (marks_held (line + feed b) (at + 1) bs ss ++ marks_held n (at + 1 + length bs) cs ss)) e
    ∙ ap (λ (n : ℕ). m ∷ (marks_held (line + feed b) (at + 1) bs ss ++ marks_held (line + (feed b + feeds bs)) n cs ss)) f)

pub held-drop : (n line at : ℕ) (bs ss : List ℕ) → drop n (marks_held line at bs ss) ≡ marks_held (line + feeds (take n bs)) (at + n) (drop n bs) ss
held-drop zero line at bs ss =
    let e : line ≡ line + 0 = omega arith in
    let f : at ≡ at + 0 = omega arith in
    ap (λ (n : ℕ). marks_held n at bs ss) e ∙ ap (λ (n : ℕ). marks_held (line + 0) n bs ss) f
held-drop (suc n) line at [] ss = refl
held-drop (suc n) line at (b ∷ bs) ss =
    let e : line + feed b + feeds (take n bs) ≡ line + (feed b + feeds (take n bs)) = omega arith in
    let f : at + 1 + n ≡ at + suc n = omega arith in
    held-drop n (line + feed b) (at + 1) bs ss
    ∙ (ap (λ (m : ℕ). marks_held m (at + 1 + n) (drop n bs) ss) e
    ∙ ap (λ (m : ℕ). marks_held (line + (feed b + feeds (take n bs))) m (drop n bs) ss) f)

-- a splice that no mark of these passes, and one that each passes
pub passed-append : (at : ℕ) (ss : List ℕ) (n : ℕ) → passed at (ss ++ n ∷ []) ≡ passed at ss + cond (leb n at) 1 0
passed-append at [] n = omega arith
passed-append at (s ∷ ss) n = omega (arith, passed-append at ss n)

pub held-before : (line at : ℕ) (bs ss : List ℕ) (n : ℕ) → at + length bs ≤ n → marks_held line at bs (ss ++ n ∷ []) ≡ marks_held line at bs ss
held-before line at [] ss n h = refl
held-before line at (b ∷ bs) ss n h =
    let none : passed at (ss ++ n ∷ []) ≡ passed at ss = passed-append at ss n ∙ rw (lt-leb n at (omega arith)) (omega arith) in
    ap (λ (k : ℕ). record { byte = b; line = min (2 ^ 32 - 1) (line + k) } ∷ marks_held (line + feed b) (at + 1) bs (ss ++ n ∷ [])) none
    ∙ ap (λ (ms : List Mark). record { byte = b; line = min (2 ^ 32 - 1) (line + passed at ss) } ∷ ms) (held-before (line + feed b) (at + 1) bs ss n (omega arith))

pub held-passed : (line at : ℕ) (bs ss : List ℕ) (s : ℕ) → s ≤ at → marks_held line at bs (s ∷ ss) ≡ marks_held (line + 1) at bs ss
held-passed line at [] ss s h = refl
held-passed line at (b ∷ bs) ss s h =
    let one : line + (cond (leb s at) 1 0 + passed at ss) ≡ line + 1 + passed at ss = rw (le-leb s at h) (omega arith) in
    let e : line + feed b + 1 ≡ line + 1 + feed b = omega arith in
    ap (λ (k : ℕ). record { byte = b; line = min (2 ^ 32 - 1) k } ∷ marks_held (line + feed b) (at + 1) bs (s ∷ ss)) one
    ∙ (ap (λ (ms : List Mark). record { byte = b; line = min (2 ^ 32 - 1) (line + 1 + passed at ss) } ∷ ms) (held-passed (line + feed b) (at + 1) bs ss s (omega arith))
    ∙ ap (λ (k : ℕ). record { byte = b; line = min (2 ^ 32 - 1) (line + 1 + passed at ss) } ∷ marks_held k (at + 1) bs ss) e)

-- splices that come later
pub passed-none : (at low : ℕ) (ss : List ℕ) → Rises low ss → at < low → passed at ss ≡ 0
passed-none at low [] h lt = refl
passed-none at low (s ∷ ss) h lt =
    let le : low ≤ s = h.0 in
    rw (lt-leb s at (omega arith)) (omega (arith, passed-none at s ss h.1 (omega arith)))

pub Rises-weaker : (low high : ℕ) (ss : List ℕ) → low ≤ high → Rises high ss → Rises low ss
Rises-weaker low high [] le h = tt
Rises-weaker low high (s ∷ ss) le h =
    let begins : high ≤ s = h.0 in
    (omega arith, h.1)

pub Rises-drop : (n low : ℕ) (ss : List ℕ) → Rises low ss → Rises low (drop n ss)
Rises-drop zero low ss h = h
Rises-drop (suc n) low [] h = tt
Rises-drop (suc n) low (s ∷ ss) h = Rises-weaker low s (drop n ss) h.0 (Rises-drop n s ss h.1)

-- a line that was added already
pub with_line-again : (line : ℕ) (ls : List ℕ) → with_line line (with_line line ls) ≡ with_line line ls
with_line-again line [] = rw (le-ltb line line (omega arith), eq-eqb line line refl) refl
with_line-again line (l ∷ ls) =
    elim (cases_order line l) [
      | inl same ↦ rw (le-ltb line l (omega arith), eq-eqb line l same) (rw (le-ltb line l (omega arith), eq-eqb line l same) refl)
      | inr differ ↦ elim differ [
        | inl lt ↦ rw (lt-ltb line l lt) (rw (le-ltb line line (omega arith), eq-eqb line line refl) refl)
        | inr gt ↦ rw (le-ltb line l (omega arith), ne_eqb line l (λ e. omega (arith, e))) (rw (le-ltb line l (omega arith), ne_eqb line l (λ e. omega (arith, e))) (ap (λ (ms : List ℕ). l ∷ ms) (with_line-again line ls)))
      ]
    ]

-- marks on one line
pub one_line : (n line at : ℕ) (bs ss : List ℕ) → 0 < n → n ≤ length bs → line < 2 ^ 32 → Rises (at + n) ss → ((k : ℕ) → k + 1 < n → is_line_feed (get_or bs k 0) ≡ false) → (set : List ℕ) → with_lines (take n (marks_held line at bs ss)) set ≡ with_line line set
one_line zero line at bs ss full le small h plain set = absurd (omega arith)
one_line (suc n) line at [] ss full le small h plain set = absurd (omega arith)
one_line (suc zero) line at (b ∷ bs) ss full le small h plain set =
    let e : min (2 ^ 32 - 1) (line + passed at ss) ≡ line = (let none = passed-none at (at + 1) ss (Rises-weaker (at + 1) (at + suc zero) ss (omega arith) h) (omega arith) in omega (arith, none)) in
    ap (λ (l : ℕ). with_line l set) e
one_line (suc (suc n)) line at (b ∷ bs) ss full le small h plain set =
    let e : min (2 ^ 32 - 1) (line + passed at ss) ≡ line = (let none = passed-none at (at + 1) ss (Rises-weaker (at + 1) (at + suc (suc n)) ss (omega arith) h) (omega arith) in omega (arith, none)) in
    let f : line + feed b ≡ line = rw (plain 0 (omega arith)) (omega arith) in
    ap (λ (l : ℕ). with_lines (take (suc n) (marks_held (line + feed b) (at + 1) bs ss)) (with_line l set)) e
    ∙ (ap (λ (l : ℕ). with_lines (take (suc n) (marks_held l (at + 1) bs ss)) (with_line line set)) f
    ∙ (one_line (suc n) line (at + 1) bs ss (omega arith) (omega arith) small (Rises-weaker (at + 1 + suc n) (at + suc (suc n)) ss (omega arith) h) (λ k l. plain (suc k) (omega arith)) (with_line line set)
    ∙ with_line-again line set))

pub held_on_line : (n line at : ℕ) (bs ss : List ℕ) → n ≤ length bs → line < 2 ^ 32 → Rises (at + n) ss → ((k : ℕ) → k + 1 < n → is_line_feed (get_or bs k 0) ≡ false) → StandOn line (take n (marks_held line at bs ss))
held_on_line zero line at bs ss le small h plain = tt
held_on_line (suc n) line at [] ss le small h plain = tt
held_on_line (suc zero) line at (b ∷ bs) ss le small h plain =
    (let none = passed-none at (at + 1) ss (Rises-weaker (at + 1) (at + suc zero) ss (omega arith) h) (omega arith) in omega (arith, none), tt)
held_on_line (suc (suc n)) line at (b ∷ bs) ss le small h plain =
    let none = passed-none at (at + 1) ss (Rises-weaker (at + 1) (at + suc (suc n)) ss (omega arith) h) (omega arith) in
    let f : line ≡ line + feed b = rw (plain 0 (omega arith)) (omega arith) in
    (omega (arith, none), subst (λ (l : ℕ). StandOn line (take (suc n) (marks_held l (at + 1) bs ss))) f (held_on_line (suc n) line (at + 1) bs ss (omega arith) small (Rises-weaker (at + 1 + suc n) (at + suc (suc n)) ss (omega arith) h) (λ k l. plain (suc k) (omega arith))))

pub held-first : (line at : ℕ) (bs ss : List ℕ) → 0 < length (marks_held line at bs ss) → line < 2 ^ 32 → Rises (at + 1) ss → line ≡ first_line (marks_held line at bs ss)
held-first line at [] ss full small h = absurd (omega arith)
held-first line at (b ∷ bs) ss full small h = (let none = passed-none at (at + 1) ss h (omega arith) in omega (arith, none))

pub feeds-append : (bs cs : List ℕ) → feeds (bs ++ cs) ≡ feeds bs + feeds cs
feeds-append [] cs = omega arith
feeds-append (b ∷ bs) cs = omega (arith, feeds-append bs cs)

pub feeds_more : (bs : List ℕ) (i : ℕ) → i < length bs → feeds (take (i + 1) bs) ≡ feeds (take i bs) + feed (get_or bs i 0)
feeds_more bs i h = ap feeds (take_more bs i 0 h) ∙ (feeds-append (take i bs) (get_or bs i 0 ∷ []) ∙ omega arith)

-- bytes of which none but the last is an LF
pub feeds_last : (n : ℕ) (bs : List ℕ) → n < length bs → ((k : ℕ) → k < n → is_line_feed (get_or bs k 0) ≡ false) → feeds (take (suc n) bs) ≡ feed (get_or bs n 0)
feeds_last n [] h plain = absurd (omega arith)
feeds_last zero (b ∷ bs) h plain = omega arith
feeds_last (suc n) (b ∷ bs) h plain =
    let none : feed b ≡ 0 = rw (plain 0 (omega arith)) refl in
    omega (arith, none, feeds_last n bs (omega arith) (λ k l. plain (suc k) (omega arith)))

-- the splices from the first on that stands behind a mark
pub Rises-behind : (n at low : ℕ) (ss : List ℕ) → Rises low ss → ((n < length ss) × (get_or ss n 0 ≤ at) → ⊥) → Rises (at + 1) (drop n ss)
Rises-behind zero at low [] h behind = tt
Rises-behind zero at low (s ∷ ss) h behind =
    elim (cases_lt at s) [ inl lt ↦ (omega arith, h.1) | inr ge ↦ absurd (behind (omega arith, ge)) ]
Rises-behind (suc n) at low [] h behind = tt
Rises-behind (suc n) at low (s ∷ ss) h behind = Rises-behind n at s ss h.1 (λ w. behind (omega (arith, w.0), w.1))

-- one splice more that the mark passes
pub past_more : (from line n at : ℕ) (ss : List ℕ) → n < length ss → get_or ss n 0 ≤ at → ((bs : List ℕ) → marks_held line at bs (drop n ss) ≡ marks_held from at bs ss) → (bs : List ℕ) → marks_held (min (2 ^ 32 - 1) (line + 1)) at bs (drop (n + 1) ss) ≡ marks_held from at bs ss
past_more from line n at ss h le same bs =
    held-capped (min (2 ^ 32 - 1) (line + 1)) (line + 1) at bs (drop (n + 1) ss) (omega arith)
    ∙ (sym (held-passed line at bs (drop (n + 1) ss) (get_or ss n 0) le)
    ∙ (ap (λ (ss : List ℕ). marks_held line at bs ss) (sym (drop_more ss n 0 h))
    ∙ same bs))

-- what is left of a walk behind some marks
pub held-behind : (count line at : ℕ) (bs ss : List ℕ) (from : ℕ) → from ≡ min (2 ^ 32 - 1) (line + feeds (take count bs)) → marks_held from (at + count) (drop count bs) ss ≡ drop count (marks_held line at bs ss)
held-behind count line at bs ss from e =
    held-capped from (line + feeds (take count bs)) (at + count) (drop count bs) ss (omega arith) ∙ sym (held-drop count line at bs ss)

-- marks on one line, which is added already
on_line_again : (line : ℕ) (ms : List Mark) (set : List ℕ) → StandOn line ms → with_lines ms (with_line line set) ≡ with_line line set
on_line_again line [] set h = refl
on_line_again line (m ∷ ms) set h =
    ap (λ (l : ℕ). with_lines ms (with_line l (with_line line set))) h.0
    ∙ (ap (λ (ls : List ℕ). with_lines ms ls) (with_line-again line set) ∙ on_line_again line ms set h.1)

pub on_line_once : (line : ℕ) (ms : List Mark) (set : List ℕ) → 0 < length ms → StandOn line ms → with_lines ms set ≡ with_line line set
on_line_once line [] set some h = absurd (omega arith)
on_line_once line (m ∷ ms) set some h =
    ap (λ (l : ℕ). with_lines ms (with_line l set)) h.0 ∙ on_line_again line ms set h.1

first-held : (line at : ℕ) (bs ss : List ℕ) → 0 < length bs → first_line (marks_held line at bs ss) ≡ min (2 ^ 32 - 1) (line + passed at ss)
first-held line at [] ss some = absurd (omega arith)
first-held line at (b ∷ bs) ss some = refl

first-behind : (n line at : ℕ) (bs ss : List ℕ) → n < length bs → first_line (drop n (marks_held line at bs ss)) ≡ min (2 ^ 32 - 1) (line + feeds (take n bs) + passed (at + n) ss)
first-behind n line at bs ss h =
    ap first_line (held-drop n line at bs ss) ∙ first-held (line + feeds (take n bs)) (at + n) (drop n bs) ss (omega (arith, length-drop n bs))

-- the mark behind a splice stands a line further
pub splice_behind : (count line at : ℕ) (bs ss : List ℕ) → count + 1 < length bs → Rises (at + (count + 1)) ss → (passed (at + (count + 1)) ss ≡ 0 → ⊥)
    → min (2 ^ 32 - 1) (first_line (drop count (marks_held line at bs ss)) + feed (get_or bs count 0) + 1) ≤ first_line (drop (count + 1) (marks_held line at bs ss))
splice_behind count line at bs ss h rises some =
    let here = first-behind count line at bs ss (omega arith) in
    let next = first-behind (count + 1) line at bs ss h in
    let none : passed (at + count) ss ≡ 0 = passed-none (at + count) (at + (count + 1)) ss rises (omega arith) in
    let more : feeds (take (count + 1) bs) ≡ feeds (take count bs) + feed (get_or bs count 0) = feeds_more bs count (omega arith) in
    rw (here, next, none, more) (omega (arith, some))
