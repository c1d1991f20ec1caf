-- The lines of a source's marks never fall, and rise behind each line end.
use Rattle.std.proofs.Common.{◌≡◌, ℕ, suc, zero, ◌+◌, ◌-◌, ◌<◌, ◌≤◌, Bool, true, false, if◌then◌else◌, List, [], ◌∷◌, ◌++◌, length, get_or, take, drop, refl, ap, arith}
use Rattle.std.specs.List.{flat_map, range_with_len, count_by}
use Rattle.std.proofs.lemmas.List.{length-take}
use Rattle.std.proofs.lemmas.List.Sums.{count_by-le-length, count_by_more_yes, count_by_more_no}
use Rattle.cb_lines.specs.declared.mark.Mark.{Mark}
use Rattle.cb_lines.specs.Marks.{bytes_of, is_line_feed, is_deleted, mark_at, line_at, marks_of}

-- the lines of marks do not fall from a first one on, and behind a line end they rise
abbrev pub IsOrdered : ℕ → List Mark → Type 0
IsOrdered low [] = Unit {0}
IsOrdered low (m ∷ ms) = (low ≤ m.line) × IsOrdered (if is_line_feed m.byte then m.line + 1 else m.line) ms

-- the lines of marks are between two
abbrev pub AllOn : ℕ → ℕ → List Mark → Type 0
AllOn low high [] = Unit {0}
AllOn low high (m ∷ ms) = (low ≤ m.line) × (m.line ≤ high) × AllOn low high ms

pub AllOn-weaker : (low low' high high' : ℕ) (ms : List Mark) → low ≤ low' → high ≤ high' → AllOn low' high ms → AllOn low high' ms
AllOn-weaker low low' high high' [] from to h = tt
AllOn-weaker low low' high high' (m ∷ ms) from to h =
    let a = h.0 in let b = h.1 in (omega arith, omega arith, AllOn-weaker low low' high high' ms from to h.2)

pub AllOn-append : (low high : ℕ) (ms ns : List Mark) → AllOn low high ms → AllOn low high ns → AllOn low high (ms ++ ns)
AllOn-append low high [] ns h i = i
AllOn-append low high (m ∷ ms) ns h i = (h.0, h.1, AllOn-append low high ms ns h.2 i)

-- the least line of what follows
no_less : (b : Bool) (line : ℕ) → line ≤ (if b then line + 1 else line)
no_less true line = omega arith
no_less false line = omega arith

pub ordered_split : (n : ℕ) (ms : List Mark) (low : ℕ) → IsOrdered low ms → (mid : ℕ) × (low ≤ mid) × AllOn low mid (take n ms) × IsOrdered mid (drop n ms)
ordered_split zero ms low h = (low, omega arith, tt, h)
ordered_split (suc n) [] low h = (low, omega arith, tt, tt)
ordered_split (suc n) (m ∷ ms) low h =
    let next : ℕ = if is_line_feed m.byte then m.line + 1 else m.line in
    let above : m.line ≤ next = no_less (is_line_feed m.byte) m.line in
    let from = h.0 in
    let s = ordered_split n ms next h.1 in
    let to = s.1 in
    (s.0, omega arith, (from, omega arith, AllOn-weaker low next s.0 s.0 (take n ms) (omega arith) (omega arith) s.2), s.3)

pub feed_split : (n : ℕ) (ms : List Mark) (low : ℕ) → take n (bytes_of ms) ≡ 10 ∷ [] → IsOrdered low ms → (mid : ℕ) × (low < mid) × IsOrdered mid (drop n ms)
feed_split zero ms low e h = absurd (cc)
feed_split (suc n) [] low e h = absurd (cc)
feed_split (suc n) (m ∷ ms) low e h =
    let feed : m.byte ≡ 10 = cc in
    let next : ℕ = if is_line_feed m.byte then m.line + 1 else m.line in
    let is : next ≡ m.line + 1 = ap (λ (b : ℕ). if is_line_feed b then m.line + 1 else m.line) feed in
    let from = h.0 in
    let s = ordered_split n ms next h.1 in let to = s.1 in (s.0, omega arith, s.3)

-- one more position
counted_next : (b : Bool) (source : List ℕ) (i : ℕ) → is_line_feed (get_or source i 0) ≡ b → i < length source
    → count_by is_line_feed (take (i + 1) source) ≡ (if b then count_by is_line_feed (take i source) + 1 else count_by is_line_feed (take i source))
counted_next true source i e h = count_by_more_yes is_line_feed source i 0 h e
counted_next false source i e h = count_by_more_no is_line_feed source i 0 h e

-- the line at the next position, below the greatest number
line_next : (b : Bool) (source : List ℕ) (i : ℕ) → is_line_feed (get_or source i 0) ≡ b → i < length source
    → count_by is_line_feed (take (i + 1) source) < 4194305 → (if b then line_at source i + 1 else line_at source i) ≡ line_at source (i + 1)
line_next true source i e h few = let n = counted_next true source i e h in omega arith
line_next false source i e h few = let n = counted_next false source i e h in omega arith

ordered_by : (b : Bool) (source : List ℕ) (i low : ℕ) (rest : List Mark) → is_deleted source i ≡ b → low ≤ line_at source i → line_at source i ≤ line_at source (i + 1)
    → (if is_line_feed (get_or source i 0) then line_at source i + 1 else line_at source i) ≡ line_at source (i + 1)
    → ((next : ℕ) → next ≤ line_at source (i + 1) → IsOrdered next rest) → IsOrdered low (mark_at source i ++ rest)
ordered_by true source i low rest e from to next go = rw e (go low (omega arith))
ordered_by false source i low rest e from to next go =
    rw e (from, go (if is_line_feed (get_or source i 0) then line_at source i + 1 else line_at source i) (omega arith))

few_feeds : (source : List ℕ) (i : ℕ) → length source ≤ 4194304 → count_by is_line_feed (take i source) < 4194305
few_feeds source i few = omega (arith, count_by-le-length is_line_feed (take i source), length-take i source)

no_fall : (b : Bool) (line next : ℕ) → (if b then line + 1 else line) ≡ next → line ≤ next
no_fall true line next e = omega arith
no_fall false line next e = omega arith

ordered_from : (source : List ℕ) (n i low : ℕ) → length source ≤ 4194304 → i + n ≤ length source → low ≤ line_at source i
    → IsOrdered low (flat_map (mark_at source) (range_with_len i n))
ordered_from source zero i low few within from = tt
ordered_from source (suc n) i low few within from =
    let b : Bool = is_line_feed (get_or source i 0) in
    let next : (if b then line_at source i + 1 else line_at source i) ≡ line_at source (i + 1) = line_next b source i refl (omega arith) (few_feeds source (i + 1) few) in
    ordered_by (is_deleted source i) source i low (flat_map (mark_at source) (range_with_len (i + 1) n)) refl from (no_fall b (line_at source i) (line_at source (i + 1)) next) next
    (λ low' from'. ordered_from source n (i + 1) low' few (omega arith) from')

pub ordered_marks : (source : List ℕ) → length source ≤ 4194304 → IsOrdered 1 (marks_of source)
ordered_marks source few = ordered_from source (length source - 0) 0 1 few (omega arith) (omega arith)
