-- A run of text, piece by piece.
use Rattle.std.proofs.Common.{◌≡◌, ℕ, ◌+◌, ◌≤◌, ◌==◌, Bool, nat_lt, if◌then◌else◌, arith, length-drop, true, false, List, [], ◌∷◌, ◌++◌, length, take, drop, map, refl, ap, sym, subst, ◌∙◌, append_assoc}
use Rattle.std.proofs.lemmas.List.{append-nil, take-map, length-take-le}
use Rattle.cb_lines.specs.declared.mark.Mark.{Mark}
use Rattle.cb_lines.specs.Marks.{bytes_of}
use Rattle.cb_lines.specs.Lines.{with_line, with_lines, lines_of}
use Rattle.cb_tokens.specs.declared.token.TokenKind.{TokenKind}
use Rattle.cb_tokens.specs.declared.token.PieceKind.{PieceKind}
use Rattle.cb_tokens.specs.declared.token.PieceKind.TheVariants as kinds
use Rattle.cb_tokens.specs.declared.first.First.TheVariants as first
use Rattle.cb_tokens.specs.Cut.{Piece, StandsFirst, IsCut}
use Rattle.cb_tokens.specs.Logical.{split_lines, token_marks}
use Rattle.cb_tree.specs.declared.reading.Place.{Place}
use Rattle.cb_tree.specs.declared.reading.Place.TheVariants.{LineStart, InLine}
use Rattle.cb_tree.specs.declared.fault.BuildFault.{BuildFault}
use Rattle.cb_tree.specs.declared.fault.BuildFault.TheVariants.{Bad, NoMemory}
use Rattle.cb_tree.specs.Kinds.{is_hash_text}
use Rattle.cb_tree.specs.inner.Reads.{piece_nodes}
use Rattle.cb_tree.specs.inner.Reads.{Reads, ReadsRun, Run, node_in_brief, briefs_of, run_before, run_from, Tells}
use Rattle.cb_tree.specs.Nodes.{text_node}
use Rattle.cb_tree.proofs.Pieces.{passes, Cuts-trans, cut_of_none, open_after}
use Rattle.cb_tree.proofs.Briefs.{in_brief}
use Rattle.cb_tree.proofs.BriefSteps.{skip_white, skip_comment, run_begins, run_goes, run_line_ends, run_line_begins, run_ends}
use Rattle.cb_tree.proofs.HashTokens.{hash_next}

-- lines of marks are added one list after another
pub with_lines-append : (a b : List Mark) (set : List ℕ) → with_lines (a ++ b) set ≡ with_lines b (with_lines a set)
with_lines-append [] b set = refl
with_lines-append (m ∷ a) b set = with_lines-append a b (with_line m.line set)

pub counted_more : (counted : List ℕ) (marks more : List Mark) → counted ≡ lines_of marks → with_lines more counted ≡ lines_of (marks ++ more)
counted_more counted marks more h = ap (with_lines more) h ∙ sym (with_lines-append marks more [])

-- a piece of a run
run_piece : (ms : List Mark) (place place' : Place) (counted : List ℕ) (rest : List Mark) (k : PieceKind) (n : ℕ)
    → StandsFirst (bytes_of rest) (first.Piece k n) → ReadsRun ms place counted rest
    → ((marks : List Mark) (more : List Piece) → run_from place marks (split_lines (record { kind = k; marks = take n rest } ∷ more)) ≡ run_from place' (marks ++ token_marks k (take n rest)) (split_lines more))
    → ReadsRun ms place' (with_lines (token_marks k (take n rest)) counted) (drop n rest)
run_piece ms place place' counted rest k n h run goes = record {
  pieces = run.pieces ++ record { kind = k; marks = take n rest } ∷ [];
  marks = run.marks ++ token_marks k (take n rest);
  cut = Cuts-trans ms run.pieces rest (record { kind = k; marks = take n rest } ∷ []) (drop n rest) run.cut (passes rest k n h);
  counted_are = counted_more counted run.marks (token_marks k (take n rest)) run.counted_are;
  nodes_are = λ more.
      ap piece_nodes (append_assoc run.pieces (record { kind = k; marks = take n rest } ∷ []) more)
      ∙ (run.nodes_are (record { kind = k; marks = take n rest } ∷ more) ∙ ap (map node_in_brief) (goes run.marks more));
}

white_goes : (place : Place) (m marks : List Mark) (more : List Piece)
    → run_from place marks (split_lines (record { kind = kinds.White; marks = m } ∷ more)) ≡ run_from place (marks ++ []) (split_lines more)
white_goes LineStart m marks more = rw (append-nil marks) (ap (run_before marks) (skip_white m (split_lines more)))
white_goes InLine m marks more = run_goes kinds.White m marks (split_lines more)

comment_goes : (place : Place) (m marks : List Mark) (more : List Piece)
    → run_from place marks (split_lines (record { kind = kinds.Comment; marks = m } ∷ more)) ≡ run_from place (marks ++ []) (split_lines more)
comment_goes LineStart m marks more = rw (append-nil marks) (ap (run_before marks) (skip_comment m (split_lines more)))
comment_goes InLine m marks more = run_goes kinds.Comment m marks (split_lines more)

line_end_goes : (place : Place) (m marks : List Mark) (more : List Piece)
    → run_from place marks (split_lines (record { kind = kinds.LineEnd; marks = m } ∷ more)) ≡ run_from LineStart (marks ++ []) (split_lines more)
line_end_goes LineStart m marks more = rw (append-nil marks) refl
line_end_goes InLine m marks more =
    run_line_ends marks (split_lines more) ∙ ap (λ x. run_before x (briefs_of (split_lines more))) (sym (append-nil marks))

-- white space or a comment in a run
pub run_white : (ms : List Mark) (place : Place) (counted : List ℕ) (rest : List Mark) (n : ℕ)
    → StandsFirst (bytes_of rest) (first.Piece kinds.White n) → ReadsRun ms place counted rest → ReadsRun ms place counted (drop n rest)
run_white ms place counted rest n h run = run_piece ms place place counted rest kinds.White n h run (λ marks more. white_goes place (take n rest) marks more)

pub run_comment : (ms : List Mark) (place : Place) (counted : List ℕ) (rest : List Mark) (n : ℕ)
    → StandsFirst (bytes_of rest) (first.Piece kinds.Comment n) → ReadsRun ms place counted rest → ReadsRun ms place counted (drop n rest)
run_comment ms place counted rest n h run = run_piece ms place place counted rest kinds.Comment n h run (λ marks more. comment_goes place (take n rest) marks more)

pub run_line_end : (ms : List Mark) (place : Place) (counted : List ℕ) (rest : List Mark) (n : ℕ)
    → StandsFirst (bytes_of rest) (first.Piece kinds.LineEnd n) → ReadsRun ms place counted rest → ReadsRun ms LineStart counted (drop n rest)
run_line_end ms place counted rest n h run = run_piece ms place LineStart counted rest kinds.LineEnd n h run (λ marks more. line_end_goes place (take n rest) marks more)

-- a token of a run
pub run_token : (ms : List Mark) (counted : List ℕ) (rest : List Mark) (j : TokenKind) (n : ℕ)
    → StandsFirst (bytes_of rest) (first.Piece (kinds.Token j) n) → ReadsRun ms InLine counted rest
    → ReadsRun ms InLine (with_lines (take n rest) counted) (drop n rest)
run_token ms counted rest j n h run =
    run_piece ms InLine InLine counted rest (kinds.Token j) n h run (λ marks more. run_goes (kinds.Token j) (take n rest) marks (split_lines more))

pub same_text : (n : ℕ) (rest : List Mark) → bytes_of (take n rest) ≡ take n (bytes_of rest)
same_text n rest = sym (take-map (λ (m : Mark). m.byte) n rest)

pub run_first_token : (ms : List Mark) (counted : List ℕ) (rest : List Mark) (j : TokenKind) (n : ℕ)
    → StandsFirst (bytes_of rest) (first.Piece (kinds.Token j) n) → is_hash_text (take n (bytes_of rest)) ≡ false → ReadsRun ms LineStart counted rest
    → ReadsRun ms InLine (with_lines (take n rest) counted) (drop n rest)
run_first_token ms counted rest j n h hash run =
    run_piece ms LineStart InLine counted rest (kinds.Token j) n h run
    (λ marks more. run_line_begins j (take n rest) marks (split_lines more) (ap is_hash_text (same_text n rest) ∙ hash))

pub run_any_token : (ms : List Mark) (place : Place) (counted : List ℕ) (rest : List Mark) (j : TokenKind) (n : ℕ)
    → StandsFirst (bytes_of rest) (first.Piece (kinds.Token j) n) → (place ≡ LineStart → is_hash_text (take n (bytes_of rest)) ≡ false)
    → ReadsRun ms place counted rest → ReadsRun ms InLine (with_lines (take n rest) counted) (drop n rest)
run_any_token ms LineStart counted rest j n h hash run = run_first_token ms counted rest j n h (hash refl) run
run_any_token ms InLine counted rest j n h hash run = run_token ms counted rest j n h run

-- the first token of all
pub run_start : (rest : List Mark) (j : TokenKind) (n : ℕ)
    → StandsFirst (bytes_of rest) (first.Piece (kinds.Token j) n) → is_hash_text (take n (bytes_of rest)) ≡ false
    → ReadsRun rest InLine (with_lines (take n rest) []) (drop n rest)
run_start rest j n h hash = record {
  pieces = record { kind = kinds.Token j; marks = take n rest } ∷ [];
  marks = take n rest;
  cut = passes rest (kinds.Token j) n h;
  counted_are = refl;
  nodes_are = λ more.
      in_brief (record { kind = kinds.Token j; marks = take n rest } ∷ more)
      ∙ ap (map node_in_brief) (run_begins j (take n rest) (split_lines more) (ap is_hash_text (same_text n rest) ∙ hash));
}

-- a run ends
ended : (ms : List Mark) (place : Place) (counted : List ℕ) (rest : List Mark) → ReadsRun ms place counted rest
    → ((marks : List Mark) (more : List Piece) → IsCut rest more → run_from place marks (split_lines more) ≡ Run marks ∷ briefs_of (split_lines more))
    → Reads ms (text_node counted ∷ []) rest
ended ms place counted rest run ends = record {
  pieces = run.pieces;
  cut = run.cut;
  nodes_are = λ more h.
      run.nodes_are more ∙ (ap (map node_in_brief) (ends run.marks more h)
      ∙ (ap (λ x. text_node x ∷ map node_in_brief (briefs_of (split_lines more))) (sym run.counted_are) ∙ ap (λ ns. text_node counted ∷ ns) (sym (in_brief more))));
}

ends_with_source : (place : Place) (marks : List Mark) (more : List Piece) → more ≡ [] → run_from place marks (split_lines more) ≡ Run marks ∷ briefs_of (split_lines more)
ends_with_source LineStart marks more h = rw h refl
ends_with_source InLine marks more h = rw h refl

-- at the end of the source
pub run_ends_with_source : (ms : List Mark) (place : Place) (counted : List ℕ) (rest : List Mark) → rest ≡ [] → ReadsRun ms place counted rest
    → Reads ms (text_node counted ∷ []) rest
run_ends_with_source ms place counted rest h run =
    ended ms place counted rest run (λ marks more g. ends_with_source place marks more (cut_of_none more (subst (λ (x : List Mark). IsCut x more) h g)))

-- before a directive
pub run_ends_before : (ms : List Mark) (counted : List ℕ) (rest : List Mark) (j : TokenKind) (n : ℕ)
    → StandsFirst (bytes_of rest) (first.Piece (kinds.Token j) n) → is_hash_text (take n (bytes_of rest)) ≡ true → ReadsRun ms LineStart counted rest
    → Reads ms (text_node counted ∷ []) rest
run_ends_before ms counted rest j n h hash run =
    ended ms LineStart counted rest run (λ marks more g.
    let b = hash_next rest j n h hash more g in
    rw b.more_is (run_ends b.kind b.marks marks (split_lines b.behind) b.hash))

pub run_ends_at : (ms : List Mark) (place : Place) (counted : List ℕ) (rest : List Mark) (j : TokenKind) (n : ℕ)
    → StandsFirst (bytes_of rest) (first.Piece (kinds.Token j) n) → place ≡ LineStart → is_hash_text (take n (bytes_of rest)) ≡ true
    → ReadsRun ms place counted rest → Reads ms (text_node counted ∷ []) rest
run_ends_at ms place counted rest j n h e hash run =
    run_ends_before ms counted rest j n h hash (subst (λ (p : Place). ReadsRun ms p counted rest) e run)

-- the bytes of a slice from its front
pub front_bytes : (n : ℕ) (bs xs : List ℕ) → bs ≡ xs → take n xs ≡ take n bs
front_bytes n bs xs h = ap (λ x. take n x) (sym h)

-- a fault in a run is a fault of the whole
pub run_tells : (ms : List Mark) (place : Place) (counted : List ℕ) (rest : List Mark) (fault : BuildFault)
    → ReadsRun ms place counted rest → Tells rest fault → Tells ms fault
run_tells ms place counted rest (Bad fault) run h = (h.0, open_after ms run.pieces rest fault.line run.cut h.1)
run_tells ms place counted rest NoMemory run h = tt

-- each mark adds one line at most
one_line_by : (below same : Bool) (line l : ℕ) (ls : List ℕ) → length (with_line line ls) ≤ length ls + 1
    → length (if below then line ∷ l ∷ ls else (if same then l ∷ ls else l ∷ with_line line ls)) ≤ length (l ∷ ls) + 1
one_line_by true same line l ls h = omega arith
one_line_by false true line l ls h = omega arith
one_line_by false false line l ls h = omega arith

pub one_line : (line : ℕ) (set : List ℕ) → length (with_line line set) ≤ length set + 1
one_line line [] = omega arith
one_line line (l ∷ ls) = one_line_by (nat_lt line l) (line == l) line l ls (one_line line ls)

few_lines : (ms : List Mark) (set : List ℕ) → length (with_lines ms set) ≤ length set + length ms
few_lines [] set = omega arith
few_lines (m ∷ ms) set = omega (arith, few_lines ms (with_line m.line set), one_line m.line set)

pub kept_few : (n : ℕ) (rest : List Mark) (set : List ℕ) → n ≤ length rest
    → length (with_lines (take n rest) set) + length (drop n rest) ≤ length set + length rest
kept_few n rest set h = omega (arith, few_lines (take n rest) set, length-take-le n rest h, length-drop n rest)

pub start_few : (n : ℕ) (rest : List Mark) → n ≤ length rest → length (with_lines (take n rest) []) + length (drop n rest) ≤ length rest
start_few n rest h = omega (arith, kept_few n rest [] h)
