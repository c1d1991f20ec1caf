-- From the nodes of marks to what a source is read as.
use Rattle.std.proofs.Common.{◌≡◌, inl, inr, ℕ, ◌+◌, ◌-◌, ◌≤◌, Bool, true, false, List, [], length, refl, ap, sym, subst, ◌∙◌, arith, length-append}
use Prim.Native.Nat.{zero, suc}
use Rattle.std.specs.List.{flat_map, range_with_len}
use Rattle.std.proofs.lemmas.List.{append-nil}
use Rattle.cb_lines.specs.Marks.{marks_of, mark_at, is_deleted}
use Rattle.cb_tokens.specs.Logical.{logical_lines}
use Rattle.cb_tree.specs.declared.fault.BadSource.{BadSource}
use Rattle.cb_tree.specs.declared.fault.BuildFault.{BuildFault}
use Rattle.cb_tree.specs.declared.fault.BuildFault.TheVariants.{Bad, NoMemory}
use Rattle.cb_tree.specs.Nodes.{Node}
use Rattle.cb_tree.specs.inner.Reads.{piece_nodes}
use Rattle.cb_tree.proofs.Briefs.{line_nodes}
use Rattle.cb_tree.specs.Sound.{Sound, Unsound, IsRead, IsWithinLimits, IsCutInto, open_comment, faulty, sound}
use Rattle.cb_tree.specs.inner.Reads.{Reads, Refuses, AreSound, IsReadAs}

-- the nodes of a whole reading
cut_into : (source : List ℕ) (nodes : List Node) → Reads (marks_of source) nodes [] → IsCutInto source nodes
cut_into source nodes a = record {
  lines = logical_lines a.pieces;
  cut = (a.pieces, a.cut, refl);
  nodes_are = sym (append-nil nodes) ∙ (sym (a.nodes_are [] refl) ∙ (ap piece_nodes (append-nil a.pieces) ∙ sym (line_nodes a.pieces)));
}

pub read_sound : (source : List ℕ) (nodes : List Node) → IsWithinLimits source → AreSound (marks_of source) nodes → IsRead source (Sound nodes)
read_sound source nodes w s = sound nodes w (cut_into source nodes s.reads) s.no_fault

pub read_unsound : (source : List ℕ) (fault : BadSource) → IsWithinLimits source → Refuses (marks_of source) (Bad fault) → IsRead source (Unsound fault)
read_unsound source fault w (inl (same, is_open)) =
    subst (λ (f : BadSource). IsRead source (Unsound f)) (sym same) (open_comment fault.line w is_open)
read_unsound source fault w (inr (nodes, reads, e)) = faulty nodes fault w (cut_into source nodes reads) e

-- a source has no more marks than bytes
one_mark_by : (source : List ℕ) (i : ℕ) (b : Bool) → is_deleted source i ≡ b → length (mark_at source i) ≤ 1
one_mark_by source i true h = rw h (omega arith)
one_mark_by source i false h = rw h (omega arith)

few_from : (source : List ℕ) (i n : ℕ) → length (flat_map (mark_at source) (range_with_len i n)) ≤ n
few_from source i zero = omega arith
few_from source i (suc n) =
    omega (arith, few_from source (i + 1) n, one_mark_by source i (is_deleted source i) refl, length-append (mark_at source i) (flat_map (mark_at source) (range_with_len (i + 1) n)))

pub few_marks : (source : List ℕ) → length (marks_of source) ≤ length source
few_marks source = omega (arith, few_from source 0 (length source - 0))

pub read_as : (source : List ℕ) (fault : BuildFault) → IsWithinLimits source → Refuses (marks_of source) fault → IsReadAs source fault
read_as source (Bad f) w h = read_unsound source f w h
read_as source NoMemory w h = tt
