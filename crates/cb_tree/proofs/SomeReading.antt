-- Every source has a reading.
use Rattle.std.proofs.Common.{◌≡◌, ℕ, zero, suc, ◌<◌, ◌≤◌, List, [], ◌∷◌, length, slice_get, Option, None, Some, ◌⊎◌, inl, inr, ⊎_elim, refl, sym, subst, ap, ◌∙◌, arith}
use Rattle.std.specs.Option.{option_map}
use Rattle.std.specs.List.{All}
use Rattle.std.proofs.lemmas.Bool.{cases_lt}
use Rattle.std.proofs.lemmas.List.Elements.{All-head, All-tail}
use Rattle.cb_lines.specs.declared.mark.Mark.{Mark}
use Rattle.cb_lines.specs.Marks.{marks_of}
use Rattle.cb_tokens.specs.Cut.{Piece, IsCut, HasOpenComment}
use Rattle.cb_tree.specs.declared.fault.SourceKind.TheVariants as kind
use Rattle.cb_tree.specs.declared.fault.BadSource.{BadSource}
use Rattle.cb_tree.specs.Nodes.{Node, AreCounted, node_line, nodes_of}
use Rattle.cb_tree.specs.Sections.{first_fault}
use Rattle.cb_tree.specs.Sound.{Reading, Sound, Unsound, IsRead, IsWithinLimits, IsCutInto, line_count, too_many_bytes, too_many_lines, open_comment, faulty, sound}
use Rattle.cb_tokens.specs.Logical.{logical_lines}
use Rattle.cb_tree.proofs.Briefs.{line_nodes}
use Rattle.cb_tree.proofs.CountedLines.{counted_nodes}

-- marks have a cut or an open comment
abbrev pub Ends : List Mark → Type 0
Ends ms = ((ps : List Piece) × IsCut ms ps) ⊎ ((line : ℕ) × HasOpenComment ms line)

abbrev HasReading : List ℕ → Type 0
HasReading source = (r : Reading) × IsRead source r

by_fault : (source : List ℕ) (nodes : List Node) (f : Option BadSource) → first_fault nodes [] ≡ f → IsWithinLimits source → IsCutInto source nodes → HasReading source
by_fault source nodes None e w c = (Sound nodes, sound nodes w c e)
by_fault source nodes (Some f) e w c = (Unsound f, faulty nodes f w c e)

by_cut : (source : List ℕ) → IsWithinLimits source → Ends (marks_of source) → HasReading source
by_cut source w (inl (ps, c)) =
    by_fault source (nodes_of (logical_lines ps)) (first_fault (nodes_of (logical_lines ps)) []) refl w
    (record { lines = logical_lines ps; cut = (ps, c, refl); nodes_are = refl })
by_cut source w (inr (line, o)) = (Unsound (record { kind = kind.OpenComment; line = line }), open_comment line w o)

pub some_reading : ((ms : List Mark) → Ends ms) → (source : List ℕ) → (r : Reading) × IsRead source r
some_reading ends source =
    ⊎_elim (λ many. (Unsound (record { kind = kind.TooLarge; line = 0 }), too_many_bytes many))
    (λ few.
    ⊎_elim (λ many. (Unsound (record { kind = kind.TooLarge; line = 200001 }), too_many_lines few many))
    (λ few_lines. by_cut source (record { bytes = few; lines = few_lines }) (ends (marks_of source)))
    (cases_lt 200000 (line_count source)))
    (cases_lt 4194304 (length source))

-- the nodes of a reading are counted
cut_counted : (source : List ℕ) (nodes : List Node) → IsWithinLimits source → IsCutInto source nodes → AreCounted nodes
cut_counted source nodes w c =
    subst AreCounted (sym (c.nodes_are ∙ (ap nodes_of c.cut.2 ∙ line_nodes c.cut.0))) (counted_nodes source c.cut.0 w.bytes c.cut.1)

pub reading_counted : (source : List ℕ) (nodes : List Node) → IsRead source (Sound nodes) → AreCounted nodes
reading_counted source _ (sound nodes w c e) = cut_counted source nodes w c

-- the line of a node is at least 1
pub line_of_node : (nodes : List Node) (at line : ℕ) → All (λ n. 0 < node_line n) nodes → option_map node_line (slice_get nodes at) ≡ Some line → 1 ≤ line
line_of_node [] at line a e = absurd (cc)
line_of_node (n ∷ ns) zero line a e =
    let some : 0 < node_line n = All-head (λ (n : Node). 0 < node_line n) n ns a in
    let is : node_line n ≡ line = cc in
    omega arith
line_of_node (n ∷ ns) (suc at) line a e = line_of_node ns at line (All-tail (λ (n : Node). 0 < node_line n) n ns a) e
