-- The counted lines of a source's nodes rise, each node has one, and no line stands in two.
use Rattle.std.proofs.Common.{◌≡◌, ℕ, suc, zero, ◌+◌, ◌-◌, ◌<◌, ◌≤◌, Bool, true, false, if◌then◌else◌, List, [], ◌∷◌, ◌++◌, length, get_or, take, drop, map, refl, sym, subst, inl, inr, ◌⊎◌, ⊎_elim, arith}
use Rattle.std.specs.List.{flat_map, All}
use Rattle.std.specs.List.Sorted.{IsStrictlyIncreasing}
use Rattle.std.proofs.lemmas.Bool.{cases_order}
use Rattle.std.proofs.lemmas.List.Elements.{All-nil, All-cons}
use Rattle.std.proofs.lemmas.Slice.Eq.{bytes_eq-Decides}
use Rattle.cb_lines.specs.declared.mark.Mark.{Mark}
use Rattle.cb_lines.specs.Marks.{bytes_of, marks_of}
use Rattle.cb_lines.specs.Lines.{with_line, with_lines, lines_of}
use Rattle.cb_tokens.specs.declared.token.Token.{Token}
use Rattle.cb_tokens.specs.declared.token.PieceKind.{PieceKind}
use Rattle.cb_tokens.specs.declared.token.PieceKind.TheVariants as kinds
use Rattle.cb_tokens.specs.declared.first.First.TheVariants as first
use Rattle.cb_tokens.specs.Forms.{fits}
use Rattle.cb_tokens.specs.Cut.{Piece, StandsFirst, Cuts, IsCut}
use Rattle.cb_tokens.specs.Logical.{split_lines, before_parts, with_piece, line_tokens}
use Rattle.cb_tree.specs.Kinds.{is_hash}
use Rattle.cb_tree.specs.Nodes.{Node, first_of, node_line, AreCounted}
use Rattle.cb_tree.specs.inner.Reads.{piece_nodes}
use Rattle.cb_tree.specs.inner.Reads.{Brief, Directive, Run, node_in_brief, solid, run_before, line_before, briefs_of}
use Rattle.cb_tree.proofs.LineMarks.{IsOrdered, AllOn, AllOn-weaker, AllOn-append, ordered_split, feed_split, ordered_marks}
use Rattle.cb_tree.proofs.Briefs.{in_brief}
use Rattle.cb_tree.proofs.LineUnions.{with-before, with-same, with-behind}
use Rattle.cb_tree.proofs.Pieces.{some_bytes}

-- each logical line stands on lines behind those of the one before it, and has a mark of a token where it has a token
abbrev LinesRise : ℕ → List (List Piece) → Type 0
LinesRise low [] = Unit {0}
LinesRise low (part ∷ parts) =
    (high : ℕ) × (low ≤ high) × AllOn low high (solid part) × ((line_tokens part ≡ []) ⊎ (0 < length (solid part))) × LinesRise (high + 1) parts

token_some : (ms ns : List Mark) → 0 < length ms → 0 < length (ms ++ ns)
token_some [] ns h = absurd (omega arith)
token_some (m ∷ ms) ns h = omega arith

-- a piece that ends no line, before the lines behind it
with_rises : (k : PieceKind) (m : List Mark) (parts : List (List Piece)) (low mid : ℕ) → low ≤ mid → 0 < length m → AllOn low mid m
    → (k ≡ kinds.LineEnd → ⊥) → LinesRise mid parts → LinesRise low (with_piece (record { kind = k; marks = m }) parts)
with_rises kinds.White m [] low mid le some on other h = (mid, le, tt, inl refl, tt)
with_rises kinds.White m (q ∷ qs) low mid le some on other h =
    let to = h.1 in (h.0, omega arith, AllOn-weaker low mid h.0 h.0 (solid q) le (omega arith) h.2, h.3, h.4)
with_rises kinds.Comment m [] low mid le some on other h = (mid, le, tt, inl refl, tt)
with_rises kinds.Comment m (q ∷ qs) low mid le some on other h =
    let to = h.1 in (h.0, omega arith, AllOn-weaker low mid h.0 h.0 (solid q) le (omega arith) h.2, h.3, h.4)
with_rises kinds.LineEnd m parts low mid le some on other h = absurd (other refl)
with_rises (kinds.Token kind) m [] low mid le some on other h =
    (mid, le, AllOn-append low mid m [] on tt, inr (token_some m [] some), tt)
with_rises (kinds.Token kind) m (q ∷ qs) low mid le some on other h =
    let to = h.1 in (
      h.0,
      omega arith,
      AllOn-append low h.0 m (solid q) (AllOn-weaker low low mid h.0 m (omega arith) to on) (AllOn-weaker low mid h.0 h.0 (solid q) le (omega arith) h.2),
      inr (token_some m (solid q) some),
      h.4,
    )

-- the end of a line before the lines behind it
end_rises : (parts : List (List Piece)) (low mid : ℕ) → low < mid → LinesRise mid parts → LinesRise low ([] ∷ parts)
end_rises parts low mid lt h = (
  mid - 1,
  omega arith,
  tt,
  inl refl,
  let e : mid ≡ mid - 1 + 1 = omega arith in subst (λ (n : ℕ). LinesRise n parts) e h,
)

-- the bytes of a line end
feed_bytes : (bytes : List ℕ) → fits kinds.LineEnd bytes ≡ true → bytes ≡ 10 ∷ []
unfolding fits
feed_bytes bytes h = (bytes_eq-Decides bytes (10 ∷ [])).0 h

piece_rises : (k : PieceKind) (m : List Mark) (ms : List Mark) (parts : List (List Piece)) (low : ℕ) → StandsFirst (bytes_of ms) (first.Piece k (length m))
    → m ≡ take (length m) ms → 0 < length m → IsOrdered low ms
    → ((mid : ℕ) → IsOrdered mid (drop (length m) ms) → LinesRise mid parts) → LinesRise low (before_parts k (record { kind = k; marks = m }) parts)
piece_rises kinds.White m ms parts low f e some o rest =
    let s = ordered_split (length m) ms low o in
    with_rises kinds.White m parts low s.0 s.1 some (subst (λ ns. AllOn low s.0 ns) (sym e) s.2) (λ same. absurd (cc)) (rest s.0 s.3)
piece_rises kinds.Comment m ms parts low f e some o rest =
    let s = ordered_split (length m) ms low o in
    with_rises kinds.Comment m parts low s.0 s.1 some (subst (λ ns. AllOn low s.0 ns) (sym e) s.2) (λ same. absurd (cc)) (rest s.0 s.3)
piece_rises kinds.LineEnd m ms parts low f e some o rest =
    let s = feed_split (length m) ms low (feed_bytes (take (length m) (bytes_of ms)) f.1.holds) o in
    end_rises parts low s.0 s.1 (rest s.0 s.2)
piece_rises (kinds.Token kind) m ms parts low f e some o rest =
    let s = ordered_split (length m) ms low o in
    with_rises (kinds.Token kind) m parts low s.0 s.1 some (subst (λ ns. AllOn low s.0 ns) (sym e) s.2) (λ same. absurd (cc)) (rest s.0 s.3)

lines_rise : (ps : List Piece) (ms : List Mark) (low : ℕ) → Cuts ms ps [] → IsOrdered low ms → LinesRise low (split_lines ps)
lines_rise [] ms low c o = tt
lines_rise (p ∷ ps) ms low c o =
    piece_rises p.kind p.marks ms (split_lines ps) low c.0.first c.0.marks (some_bytes (bytes_of ms) p.kind (length p.marks) c.0.first.1) o
    (λ mid next. lines_rise ps (drop (length p.marks) ms) mid c.1 next)

-- the marks of a node in brief
abbrev marks_in : Brief → List Mark
marks_in (Directive ts ms) = ms
marks_in (Run ms) = ms

-- each node stands on lines behind those of the one before it
abbrev BriefsRise : ℕ → List Brief → Type 0
BriefsRise low [] = Unit {0}
BriefsRise low (b ∷ bs) = (high : ℕ) × (low ≤ high) × (0 < length (marks_in b)) × AllOn low high (marks_in b) × BriefsRise (high + 1) bs

BriefsRise-weaker : (low low' : ℕ) (bs : List Brief) → low ≤ low' → BriefsRise low' bs → BriefsRise low bs
BriefsRise-weaker low low' [] le h = tt
BriefsRise-weaker low low' (b ∷ bs) le h =
    let from = h.1 in (h.0, omega arith, h.2, AllOn-weaker low low' h.0 h.0 (marks_in b) le (omega arith) h.3, h.4)

run_rises : (ms : List Mark) (bs : List Brief) (low high : ℕ) → low ≤ high → 0 < length ms → AllOn low high ms → BriefsRise (high + 1) bs → BriefsRise low (run_before ms bs)
run_rises ms [] low high le some on h = (high, le, some, on, tt)
run_rises ms (Run more ∷ bs) low high le some on h =
    let from = h.1 in (
      h.0,
      omega arith,
      token_some ms more some,
      AllOn-append low h.0 ms more (AllOn-weaker low low high h.0 ms (omega arith) (omega arith) on) (AllOn-weaker low (high + 1) h.0 h.0 more (omega arith) (omega arith) h.3),
      h.4,
    )
run_rises ms (Directive ts more ∷ bs) low high le some on h = (high, le, some, on, h)

token_line : (t : Token) (ts : List Token) (n : ℕ) → (t ∷ ts ≡ []) ⊎ (0 < n) → 0 < n
token_line t ts n (inl e) = absurd (cc)
token_line t ts n (inr h) = h

line_rises_by : (b : Bool) (t : Token) (ts : List Token) (ms : List Mark) (bs : List Brief) (low high : ℕ) → low ≤ high → 0 < length ms → AllOn low high ms → BriefsRise (high + 1) bs
    → BriefsRise low (if b then Directive (t ∷ ts) ms ∷ bs else run_before ms bs)
line_rises_by true t ts ms bs low high le some on h = (high, le, some, on, h)
line_rises_by false t ts ms bs low high le some on h = run_rises ms bs low high le some on h

line_rises : (ts : List Token) (ms : List Mark) (bs : List Brief) (low high : ℕ) → low ≤ high → (ts ≡ []) ⊎ (0 < length ms) → AllOn low high ms → BriefsRise (high + 1) bs
    → BriefsRise low (line_before ts ms bs)
line_rises [] ms bs low high le some on h = BriefsRise-weaker low (high + 1) bs (omega arith) h
line_rises (t ∷ ts) ms bs low high le some on h =
    line_rises_by (is_hash t) t ts ms bs low high le (token_line t ts (length ms) some) on h

briefs_rise : (parts : List (List Piece)) (low : ℕ) → LinesRise low parts → BriefsRise low (briefs_of parts)
briefs_rise [] low h = tt
briefs_rise (part ∷ parts) low h =
    line_rises (line_tokens part) (solid part) (briefs_of parts) low h.0 h.1 h.3 h.2 (briefs_rise parts (h.0 + 1) h.4)

-- numbers that rise, all of them between two
abbrev Between : ℕ → ℕ → List ℕ → Type 0
Between low high [] = Unit {0}
Between low high (l ∷ ls) = (low ≤ l) × (l ≤ high) × Between (l + 1) high ls

between-with : (line low high : ℕ) (ls : List ℕ) → low ≤ line → line ≤ high → Between low high ls → Between low high (with_line line ls)
between-with line low high [] from to h = (from, to, tt)
between-with line low high (l ∷ ls) from to h =
    ⊎_elim (λ e. subst (λ xs. Between low high xs) (sym (with-same line l ls e)) h)
    (λ d.
    ⊎_elim (λ lt. subst (λ xs. Between low high xs) (sym (with-before line l ls lt)) (from, to, (omega arith, h.1, h.2)))
    (λ lt. subst (λ xs. Between low high xs) (sym (with-behind line l ls lt)) (h.0, h.1, between-with line (l + 1) high ls (omega arith) to h.2)) d)
    (cases_order line l)

some-with : (line : ℕ) (ls : List ℕ) → 0 < length (with_line line ls)
some-with line [] = omega arith
some-with line (l ∷ ls) =
    ⊎_elim (λ e. subst (λ (xs : List ℕ). 0 < length xs) (sym (with-same line l ls e)) (omega arith))
    (λ d.
    ⊎_elim (λ lt. subst (λ (xs : List ℕ). 0 < length xs) (sym (with-before line l ls lt)) (omega arith))
    (λ lt. subst (λ (xs : List ℕ). 0 < length xs) (sym (with-behind line l ls lt)) (omega arith)) d)
    (cases_order line l)

between-lines : (ms : List Mark) (low high : ℕ) (ls : List ℕ) → AllOn low high ms → Between low high ls → Between low high (with_lines ms ls)
between-lines [] low high ls on h = h
between-lines (m ∷ ms) low high ls on h = between-lines ms low high (with_line m.line ls) on.2 (between-with m.line low high ls on.0 on.1 h)

some-lines : (ms : List Mark) (ls : List ℕ) → 0 < length ls → 0 < length (with_lines ms ls)
some-lines [] ls h = h
some-lines (m ∷ ms) ls h = some-lines ms (with_line m.line ls) (some-with m.line ls)

some-lines_of : (ms : List Mark) → 0 < length ms → 0 < length (lines_of ms)
some-lines_of [] h = absurd (omega arith)
some-lines_of (m ∷ ms) h = some-lines ms (with_line m.line []) (some-with m.line [])

-- each node has a counted line, and they rise from node to node
abbrev NodesRise : ℕ → List Node → Type 0
NodesRise low [] = Unit {0}
NodesRise low (n ∷ ns) = (high : ℕ) × (low ≤ high) × (0 < length n.counted) × Between low high n.counted × NodesRise (high + 1) ns

counted_is : (b : Brief) → (node_in_brief b).counted ≡ lines_of (marks_in b)
counted_is (Directive ts ms) = refl
counted_is (Run ms) = refl

nodes_rise : (bs : List Brief) (low : ℕ) → BriefsRise low bs → NodesRise low (map node_in_brief bs)
nodes_rise [] low h = tt
nodes_rise (b ∷ bs) low h = (
  h.0,
  h.1,
  subst (λ (ls : List ℕ). 0 < length ls) (sym (counted_is b)) (some-lines_of (marks_in b) h.2),
  subst (λ (ls : List ℕ). Between low h.0 ls) (sym (counted_is b)) (between-lines (marks_in b) low h.0 [] h.3 tt),
  nodes_rise bs (h.0 + 1) h.4,
)

brief_nodes_rise : (ps : List Piece) (ms : List Mark) (low : ℕ) → IsCut ms ps → IsOrdered low ms → NodesRise low (map node_in_brief (briefs_of (split_lines ps)))
brief_nodes_rise ps ms low c o = nodes_rise (briefs_of (split_lines ps)) low (briefs_rise (split_lines ps) low (lines_rise ps ms low c o))

first_above : (ls : List ℕ) (low high : ℕ) → 0 < length ls → Between low high ls → low ≤ first_of ls
first_above [] low high some h = absurd (omega arith)
first_above (l ∷ ls) low high some h = h.0

-- each node has a line
all_some : (ns : List Node) (low : ℕ) → 0 < low → NodesRise low ns → All (λ n. 0 < node_line n) ns
all_some [] low above h = All-nil (λ (n : Node). 0 < node_line n)
all_some (n ∷ ns) low above h =
    let from = first_above n.counted low h.0 h.2 h.3 in
    All-cons (λ (n : Node). 0 < node_line n) n ns (omega arith) (all_some ns (h.0 + 1) (omega arith) h.4)

-- the counted lines, one after another, rise
abbrev Rising : ℕ → List ℕ → Type 0
Rising low [] = Unit {0}
Rising low (l ∷ ls) = (low ≤ l) × Rising (l + 1) ls

Rising-weaker : (low low' : ℕ) (ls : List ℕ) → low ≤ low' → Rising low' ls → Rising low ls
Rising-weaker low low' [] le h = tt
Rising-weaker low low' (l ∷ ls) le h = let from = h.0 in (omega arith, h.1)

rising-append : (xs ys : List ℕ) (low high : ℕ) → low ≤ high + 1 → Between low high xs → Rising (high + 1) ys → Rising low (xs ++ ys)
rising-append [] ys low high le h r = Rising-weaker low (high + 1) ys le r
rising-append (x ∷ xs) ys low high le h r = let to = h.1 in (h.0, rising-append xs ys (x + 1) high (omega arith) h.2 r)

rising_nodes : (ns : List Node) (low : ℕ) → NodesRise low ns → Rising low (flat_map (λ n. n.counted) ns)
rising_nodes [] low h = tt
rising_nodes (n ∷ ns) low h =
    let le = h.1 in rising-append n.counted (flat_map (λ n. n.counted) ns) low h.0 (omega arith) h.3 (rising_nodes ns (h.0 + 1) h.4)

increasing : (ls : List ℕ) (low : ℕ) → Rising low ls → IsStrictlyIncreasing ls
increasing [] low h k l = absurd (omega arith)
increasing (x ∷ []) low h k l = absurd (omega arith)
increasing (x ∷ y ∷ ls) low h zero l = let w : x + 1 ≤ y = h.1.0 in omega arith
increasing (x ∷ y ∷ ls) low h (suc k) l =
    let e : suc k + 1 ≡ suc (k + 1) = omega arith in
    let w : get_or (y ∷ ls) k 0 < get_or (y ∷ ls) (k + 1) 0 = increasing (y ∷ ls) (x + 1) h.1 k (omega arith) in
    subst (λ (n : ℕ). get_or (x ∷ y ∷ ls) (suc k) 0 < get_or (x ∷ y ∷ ls) n 0) (sym e) w

all_rise : (ns : List Node) → NodesRise 1 ns → IsStrictlyIncreasing (0 ∷ flat_map (λ n. n.counted) ns)
all_rise ns h = increasing (0 ∷ flat_map (λ n. n.counted) ns) 0 (omega arith, rising_nodes ns 1 h)

-- the nodes of a source that is cut
pub counted_nodes : (source : List ℕ) (ps : List Piece) → length source ≤ 4194304 → IsCut (marks_of source) ps → AreCounted (piece_nodes ps)
counted_nodes source ps few c =
    subst AreCounted (sym (in_brief ps))
    (let h = brief_nodes_rise ps (marks_of source) 1 c (ordered_marks source few) in
    record { lines = all_some (map node_in_brief (briefs_of (split_lines ps))) 1 (omega arith) h; rise = all_rise (map node_in_brief (briefs_of (split_lines ps))) h })
