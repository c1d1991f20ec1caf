-- The nodes of a source, one after another.
use Rattle.std.proofs.Common.{◌≡◌, inl, inr, ℕ, ◌+◌, ◌<◌, ◌≤◌, List, [], ◌∷◌, ◌++◌, length, take, drop, Option, Some, None, Ok, Err, refl, ap, sym, subst, ◌∙◌, append_assoc, arith, length-append, length-drop}
use Rattle.std.proofs.lemmas.List.{append-nil}
use Rattle.std.proofs.lemmas.List.Sums.{sum_by-append}
use Rattle.cb_lines.specs.declared.mark.Mark.{Mark}
use Rattle.cb_lines.specs.Marks.{bytes_of}
use Rattle.cb_tokens.specs.declared.token.PieceKind.{PieceKind}
use Rattle.cb_tokens.specs.declared.first.First.TheVariants as first
use Rattle.cb_tokens.specs.Cut.{Piece, StandsFirst, Cuts, IsCut}
use Rattle.cb_tokens.specs.declared.token.Token.{Token}
use Rattle.cb_tree.specs.declared.nodes.Head.{Head}
use Rattle.cb_tree.specs.inner.Heads.{node_with}
use Rattle.cb_tree.specs.declared.fault.BadSource.{BadSource}
use Rattle.cb_tree.specs.declared.fault.BuildFault.{BuildFault}
use Rattle.cb_tree.specs.declared.fault.BuildFault.TheVariants.{Bad, NoMemory}
use Rattle.cb_tree.specs.declared.sections.OpenSection.{OpenSection}
use Rattle.cb_tree.specs.Nodes.{Node, node_line, total_lines}
use Rattle.cb_tree.specs.inner.Reads.{piece_nodes}
use Rattle.cb_tree.specs.Sections.{sections_after, fault_at_end, fault_or, first_fault}
use Rattle.cb_tree.specs.inner.Reads.{Reads, ReadsNode, Tells, ReadsOut, Refuses, AreSound}
use Rattle.cb_tree.proofs.Pieces.{passes, Cuts-trans, cut_of_none, open_after}
use Rattle.cb_tree.proofs.ReadsMore.{reads_none, reads_on, tells_after}

-- no marks are gained
Cuts-shorter : (ms : List Mark) (ps : List Piece) (rest : List Mark) → Cuts ms ps rest → length rest ≤ length ms
Cuts-shorter ms [] rest h = omega (arith, ap length h)
Cuts-shorter ms (p ∷ ps) rest h = omega (arith, Cuts-shorter (drop (length p.marks) ms) ps rest h.1, length-drop (length p.marks) ms)

pub reads_shorter : (ms : List Mark) (ns : List Node) (rest : List Mark) → Reads ms ns rest → length rest ≤ length ms
reads_shorter ms ns rest a = Cuts-shorter ms a.pieces rest a.cut

-- a node behind what is no node
pub node_after : (ms mid rest : List Mark) (before after : List Token) (head : Option Head) → Reads ms [] mid → ReadsNode mid rest before after head
    → ReadsNode ms rest before after head
node_after ms mid rest before after None a h = (reads_on ms [] mid [] rest a h.0, h.1, h.2)
node_after ms mid rest before after (Some head) a ((own, adds, reads), less, few) =
    let fewer = reads_shorter ms [] mid a in
    ((own, adds, reads_on ms [] mid (node_with own head ∷ []) rest a reads), omega arith, omega arith)

-- one more piece
pub cuts_on : (ms : List Mark) (ps : List Piece) (rest : List Mark) (k : PieceKind) (n : ℕ) → Cuts ms ps rest → StandsFirst (bytes_of rest) (first.Piece k n)
    → (qs : List Piece) × Cuts ms qs (drop n rest)
cuts_on ms ps rest k n h g =
    let piece : List Piece = record { kind = k; marks = take n rest } ∷ [] in
    (ps ++ piece, Cuts-trans ms ps rest piece (drop n rest) h (passes rest k n g))

-- a cut is read
pub reads_cut : (ms : List Mark) (ps : List Piece) → IsCut ms ps → Reads ms (piece_nodes ps) []
reads_cut ms ps h = record {
  pieces = ps;
  cut = h;
  nodes_are = λ more g.
      let e : more ≡ [] = cut_of_none more g in
      rw e (ap piece_nodes (append-nil ps) ∙ sym (append-nil (piece_nodes ps)));
}

-- the number of counted lines of a node
abbrev lines_in : Node → ℕ
lines_in n = length n.counted

-- the nodes read so far, the sections that are open after them, and the rest
pub record Progress (ms : List Mark) (nodes : List Node) (sections : List OpenSection) (rest : List Mark) : Type 0 where
  pub reads : Reads ms nodes rest
  pub faults : (more : List Node) → first_fault (nodes ++ more) [] ≡ first_fault more sections
  pub few : length nodes + length rest ≤ length ms
  pub few_lines : total_lines nodes + length rest ≤ length ms

pub progress_none : (ms : List Mark) → Progress ms [] [] ms
progress_none ms = record { reads = reads_none ms; faults = λ more. refl; few = omega arith; few_lines = omega arith }

-- after one more node
after_node : (nodes : List Node) (node : Node) (sections : List OpenSection) (more : List Node)
    → ((ns : List Node) → first_fault (nodes ++ ns) [] ≡ first_fault ns sections)
    → first_fault ((nodes ++ node ∷ []) ++ more) []
    ≡ fault_or (sections_after node.kind (node_line node) sections) (first_fault more)
after_node nodes node sections more h =
    ap (λ ns. first_fault ns []) (append_assoc nodes (node ∷ []) more) ∙ h (node ∷ more)

pub progress_on : (ms : List Mark) (nodes : List Node) (sections : List OpenSection) (mid : List Mark) (node : Node) (sections' : List OpenSection) (rest : List Mark)
    → Progress ms nodes sections mid → Reads mid (node ∷ []) rest → length rest < length mid → length node.counted + length rest ≤ length mid
    → sections_after node.kind (node_line node) sections ≡ Ok sections'
    → Progress ms (nodes ++ node ∷ []) sections' rest
progress_on ms nodes sections mid node sections' rest p reads shorter few after = record {
  reads = reads_on ms nodes mid (node ∷ []) rest p.reads reads;
  faults = λ more. after_node nodes node sections more p.faults ∙ ap (λ r. fault_or r (first_fault more)) after;
  few = omega (arith, p.few, length-append nodes (node ∷ []));
  few_lines = omega (arith, p.few_lines, sum_by-append lines_in nodes (node ∷ []));
}

-- a node has a fault, unless a comment is open behind it
pub refuses_node : (ms : List Mark) (nodes : List Node) (sections : List OpenSection) (mid : List Mark) (node : Node) (rest : List Mark) (fault result : BuildFault)
    → Progress ms nodes sections mid → Reads mid (node ∷ []) rest
    → ((f : BadSource) → fault ≡ Bad f → sections_after node.kind (node_line node) sections ≡ Err f)
    → ReadsOut rest fault result → Refuses ms result
refuses_node ms nodes sections mid node rest fault NoMemory p reads after out = tt
refuses_node ms nodes sections mid node rest fault (Bad f) p reads after (inl (same, ns, more)) =
    inr (
      (nodes ++ node ∷ []) ++ ns,
      reads_on ms (nodes ++ node ∷ []) rest ns [] (reads_on ms nodes mid (node ∷ []) rest p.reads reads) more,
      after_node nodes node sections ns p.faults ∙ ap (λ r. fault_or r (first_fault ns)) (after f (sym same)),
    )
refuses_node ms nodes sections mid node rest fault (Bad f) p reads after (inr tells) =
    inl (tells_after ms rest (nodes ++ node ∷ []) (Bad f) (reads_on ms nodes mid (node ∷ []) rest p.reads reads) tells)

-- the end of the source
at_end : (ms : List Mark) (nodes : List Node) (sections : List OpenSection) (mid rest : List Mark)
    → Progress ms nodes sections mid → Reads mid [] rest → rest ≡ [] → Reads ms nodes []
at_end ms nodes sections mid rest p reads h =
    subst (λ (r : List Mark). Reads ms nodes r) h
    (subst (λ (ns : List Node). Reads ms ns rest) (append-nil nodes) (reads_on ms nodes mid [] rest p.reads reads))

end_fault : (ms : List Mark) (nodes : List Node) (sections : List OpenSection) (mid : List Mark)
    → Progress ms nodes sections mid → first_fault nodes [] ≡ fault_at_end sections
end_fault ms nodes sections mid p = ap (λ ns. first_fault ns []) (sym (append-nil nodes)) ∙ p.faults []

pub sound_at_end : (ms : List Mark) (nodes : List Node) (sections : List OpenSection) (mid rest : List Mark)
    → Progress ms nodes sections mid → Reads mid [] rest → rest ≡ [] → fault_at_end sections ≡ None → AreSound ms nodes
sound_at_end ms nodes sections mid rest p reads h e = record {
  reads = at_end ms nodes sections mid rest p reads h;
  no_fault = end_fault ms nodes sections mid p ∙ e;
  few = omega (arith, p.few);
  few_lines = omega (arith, p.few_lines);
}

pub refuses_at_end : (ms : List Mark) (nodes : List Node) (sections : List OpenSection) (mid rest : List Mark) (fault : BadSource)
    → Progress ms nodes sections mid → Reads mid [] rest → rest ≡ [] → fault_at_end sections ≡ Some fault → Refuses ms (Bad fault)
refuses_at_end ms nodes sections mid rest fault p reads h e =
    inr (nodes, at_end ms nodes sections mid rest p reads h, end_fault ms nodes sections mid p ∙ e)

pub refuses_open : (ms : List Mark) (nodes : List Node) (sections : List OpenSection) (mid : List Mark) (fault : BuildFault)
    → Progress ms nodes sections mid → Tells mid fault → Refuses ms fault
refuses_open ms nodes sections mid (Bad f) p h = inl (tells_after ms mid nodes (Bad f) p.reads h)
refuses_open ms nodes sections mid NoMemory p h = tt

pub open_behind : (ms : List Mark) (ps : List Piece) (rest : List Mark) (fault : BuildFault) → Cuts ms ps rest → Tells rest fault → Tells ms fault
open_behind ms ps rest (Bad f) h t = (t.0, open_after ms ps rest f.line h t.1)
open_behind ms ps rest NoMemory h t = tt

-- the lines of one more node
pub total_last : (nodes : List Node) (node : Node) → total_lines (nodes ++ node ∷ []) ≡ total_lines nodes + length node.counted
total_last nodes node = omega (arith, sum_by-append lines_in nodes (node ∷ []))
