-- Reading on.
use Rattle.std.proofs.Common.{◌≡◌, false, ℕ, List, [], ◌∷◌, ◌++◌, take, drop, map, refl, ap, sym, ◌∙◌, append_assoc}
use Rattle.cb_lines.specs.declared.mark.Mark.{Mark}
use Rattle.cb_lines.specs.Marks.{bytes_of}
use Rattle.cb_tokens.specs.declared.token.PieceKind.{PieceKind}
use Rattle.cb_tokens.specs.declared.token.PieceKind.TheVariants as kinds
use Rattle.cb_tokens.specs.declared.first.First.TheVariants as first
use Rattle.cb_tokens.specs.Cut.{Piece, StandsFirst}
use Rattle.cb_tokens.specs.Logical.{split_lines, is_token}
use Rattle.cb_tree.specs.declared.fault.BuildFault.{BuildFault}
use Rattle.cb_tree.specs.declared.fault.BuildFault.TheVariants.{Bad, NoMemory}
use Rattle.cb_tree.specs.Nodes.{Node}
use Rattle.cb_tree.specs.inner.Reads.{piece_nodes}
use Rattle.cb_tree.specs.inner.Reads.{Reads, Tells, node_in_brief, briefs_of}
use Rattle.cb_tree.proofs.Pieces.{passes, Cuts-trans, open_after}
use Rattle.cb_tree.proofs.Briefs.{in_brief}
use Rattle.cb_tree.proofs.BriefSteps.{skip_white, skip_comment}

-- nothing is read yet
pub reads_none : (ms : List Mark) → Reads ms [] ms
reads_none ms = record { pieces = []; cut = refl; nodes_are = λ more h. refl }

-- one reading after another
pub reads_on : (ms : List Mark) (ns : List Node) (mid : List Mark) (ns' : List Node) (rest : List Mark)
    → Reads ms ns mid → Reads mid ns' rest → Reads ms (ns ++ ns') rest
reads_on ms ns mid ns' rest a b = record {
  pieces = a.pieces ++ b.pieces;
  cut = Cuts-trans ms a.pieces mid b.pieces rest a.cut b.cut;
  nodes_are = λ more h.
      ap piece_nodes (append_assoc a.pieces b.pieces more)
      ∙ (a.nodes_are (b.pieces ++ more) (Cuts-trans mid b.pieces rest more [] b.cut h)
      ∙ (ap (λ x. ns ++ x) (b.nodes_are more h) ∙ sym (append_assoc ns ns' (piece_nodes more))));
}

-- a fault met later is a fault of the whole
pub tells_after : (ms rest : List Mark) (ns : List Node) (fault : BuildFault) → Reads ms ns rest → Tells rest fault → Tells ms fault
tells_after ms rest ns (Bad fault) a h = (h.0, open_after ms a.pieces rest fault.line a.cut h.1)
tells_after ms rest ns NoMemory a h = tt

-- a piece that is no token, at the start of a line
reads_as_nothing : (ms : List Mark) (k : PieceKind) (n : ℕ) → StandsFirst (bytes_of ms) (first.Piece k n)
    → ((more : List Piece) → briefs_of (split_lines (record { kind = k; marks = take n ms } ∷ more)) ≡ briefs_of (split_lines more))
    → Reads ms [] (drop n ms)
reads_as_nothing ms k n h same = record {
  pieces = record { kind = k; marks = take n ms } ∷ [];
  cut = passes ms k n h;
  nodes_are = λ more g. in_brief (record { kind = k; marks = take n ms } ∷ more) ∙ (ap (map node_in_brief) (same more) ∙ sym (in_brief more));
}

pub reads_blank : (ms : List Mark) (k : PieceKind) (n : ℕ) → StandsFirst (bytes_of ms) (first.Piece k n) → is_token k ≡ false → Reads ms [] (drop n ms)
reads_blank ms kinds.White n h b = reads_as_nothing ms kinds.White n h (λ more. skip_white (take n ms) (split_lines more))
reads_blank ms kinds.Comment n h b = reads_as_nothing ms kinds.Comment n h (λ more. skip_comment (take n ms) (split_lines more))
reads_blank ms kinds.LineEnd n h b = reads_as_nothing ms kinds.LineEnd n h (λ more. refl)
reads_blank ms (kinds.Token kind) n h b = absurd (cc)
