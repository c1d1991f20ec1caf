-- A source is read in one way, since marks are cut in one way.
use Rattle.std.proofs.Common.{◌≡◌, ℕ, ◌<◌, List, [], length, Some, None, Result, Ok, Err, ◌⊎◌, inl, inr, refl, ap, sym, ◌∙◌, arith}
use Rattle.cb_lines.specs.declared.mark.Mark.{Mark}
use Rattle.cb_lines.specs.Marks.{marks_of}
use Rattle.cb_tokens.specs.Cut.{Piece, IsCut, HasOpenComment}
use Rattle.cb_tokens.specs.Logical.{Line, AreLinesOf}
use Rattle.cb_tree.specs.declared.fault.SourceKind.TheVariants as kind
use Rattle.cb_tree.specs.declared.fault.BadSource.{BadSource}
use Rattle.cb_tree.specs.declared.fault.BuildFault.{BuildFault}
use Rattle.cb_tree.specs.declared.fault.BuildFault.TheVariants.{Bad, NoMemory}
use Rattle.cb_tree.specs.declared.tree.Tree.{Tree}
use Rattle.cb_tree.specs.inner.Reads.{IsReadAs}
use Rattle.cb_tree.specs.Nodes.{Node, nodes_of}
use Rattle.cb_tree.specs.Sections.{first_fault}
use Rattle.cb_tree.specs.Sound.{Reading, Sound, Unsound, IsRead, IsWithinLimits, IsCutInto, line_count, too_many_bytes, too_many_lines, open_comment, faulty, sound}

-- marks are cut in one way, or up to one open comment
pub record Laws : Type 0 where
  pub lines : (ms : List Mark) (a b : List Line) → AreLinesOf ms a → AreLinesOf ms b → a ≡ b
  pub no_cut : (ms : List Mark) (ps : List Piece) (line : ℕ) → IsCut ms ps → HasOpenComment ms line → ⊥
  pub line : (ms : List Mark) (a b : ℕ) → HasOpenComment ms a → HasOpenComment ms b → a ≡ b

bytes_within : (source : List ℕ) → 4194304 < length source → IsWithinLimits source → ⊥
bytes_within source h w = omega (arith, w.bytes)

lines_within : (source : List ℕ) → 200000 < line_count source → IsWithinLimits source → ⊥
lines_within source h w = omega (arith, w.lines)

one_cut_into : Laws → (source : List ℕ) (a b : List Node) → IsCutInto source a → IsCutInto source b → a ≡ b
one_cut_into L source a b x y =
    x.nodes_are ∙ (ap nodes_of (L.lines (marks_of source) x.lines y.lines x.cut y.cut) ∙ sym y.nodes_are)

open_or_cut : Laws → (source : List ℕ) (line : ℕ) (nodes : List Node) → HasOpenComment (marks_of source) line → IsCutInto source nodes → ⊥
open_or_cut L source line nodes h x = L.no_cut (marks_of source) x.cut.0 line x.cut.1 h

one_fault : Laws → (source : List ℕ) (a b : List Node) (f g : BadSource) → IsCutInto source a → IsCutInto source b
    → first_fault a [] ≡ Some f → first_fault b [] ≡ Some g → f ≡ g
one_fault L source a b f g x y p q =
    let e : first_fault a [] ≡ first_fault b [] = ap (λ ns. first_fault ns []) (one_cut_into L source a b x y) in
    cc

sound_or_faulty : Laws → (source : List ℕ) (a b : List Node) (f : BadSource) → IsCutInto source a → IsCutInto source b
    → first_fault a [] ≡ None → first_fault b [] ≡ Some f → ⊥
sound_or_faulty L source a b f x y p q =
    let e : first_fault a [] ≡ first_fault b [] = ap (λ ns. first_fault ns []) (one_cut_into L source a b x y) in
    cc

pub one_reading : Laws → (source : List ℕ) (a b : Reading) → IsRead source a → IsRead source b → a ≡ b
one_reading L source _ _ (too_many_bytes h) (too_many_bytes g) = refl
one_reading L source _ _ (too_many_bytes h) (too_many_lines g i) = absurd (omega arith)
one_reading L source _ _ (too_many_bytes h) (open_comment line w o) = absurd (bytes_within source h w)
one_reading L source _ _ (too_many_bytes h) (faulty ns f w x e) = absurd (bytes_within source h w)
one_reading L source _ _ (too_many_bytes h) (sound ns w x e) = absurd (bytes_within source h w)
one_reading L source _ _ (too_many_lines h i) (too_many_bytes g) = absurd (omega arith)
one_reading L source _ _ (too_many_lines h i) (too_many_lines g j) = refl
one_reading L source _ _ (too_many_lines h i) (open_comment line w o) = absurd (lines_within source i w)
one_reading L source _ _ (too_many_lines h i) (faulty ns f w x e) = absurd (lines_within source i w)
one_reading L source _ _ (too_many_lines h i) (sound ns w x e) = absurd (lines_within source i w)
one_reading L source _ _ (open_comment line w o) (too_many_bytes g) = absurd (bytes_within source g w)
one_reading L source _ _ (open_comment line w o) (too_many_lines g j) = absurd (lines_within source j w)
one_reading L source _ _ (open_comment line w o) (open_comment line' v p) =
    ap (λ (l : ℕ). Unsound (record { kind = kind.OpenComment; line = l })) (L.line (marks_of source) line line' o p)
one_reading L source _ _ (open_comment line w o) (faulty ns f v x e) = absurd (open_or_cut L source line ns o x)
one_reading L source _ _ (open_comment line w o) (sound ns v x e) = absurd (open_or_cut L source line ns o x)
one_reading L source _ _ (faulty ns f w x e) (too_many_bytes g) = absurd (bytes_within source g w)
one_reading L source _ _ (faulty ns f w x e) (too_many_lines g j) = absurd (lines_within source j w)
one_reading L source _ _ (faulty ns f w x e) (open_comment line v p) = absurd (open_or_cut L source line ns p x)
one_reading L source _ _ (faulty ns f w x e) (faulty ns' f' v y d) = ap Unsound (one_fault L source ns ns' f f' x y e d)
one_reading L source _ _ (faulty ns f w x e) (sound ns' v y d) = absurd (sound_or_faulty L source ns' ns f y x d e)
one_reading L source _ _ (sound ns w x e) (too_many_bytes g) = absurd (bytes_within source g w)
one_reading L source _ _ (sound ns w x e) (too_many_lines g j) = absurd (lines_within source j w)
one_reading L source _ _ (sound ns w x e) (open_comment line v p) = absurd (open_or_cut L source line ns p x)
one_reading L source _ _ (sound ns w x e) (faulty ns' f' v y d) = absurd (sound_or_faulty L source ns ns' f' x y e d)
one_reading L source _ _ (sound ns w x e) (sound ns' v y d) = ap Sound (one_cut_into L source ns ns' x y)

abbrev OneReading : List ℕ → Type 0
OneReading source = (a b : Reading) → IsRead source a → IsRead source b → a ≡ b

-- what a refused source is refused for
pub same_fault : (source : List ℕ) → OneReading source → (fault : BuildFault) (f : BadSource) → IsReadAs source fault → IsRead source (Unsound f)
    → (◌≡◌ {A = Result Tree BuildFault} (Err fault) (Err (Bad f))) ⊎ (◌≡◌ {A = Result Tree BuildFault} (Err fault) (Err NoMemory))
same_fault source one NoMemory f h g = inr refl
same_fault source one (Bad e) f h g =
    let same : Unsound e ≡ Unsound f = one (Unsound e) (Unsound f) h g in
    inl (cc)

-- a sound source has no fault
pub not_sound : (source : List ℕ) → OneReading source → (nodes : List Node) (f : BadSource) → IsRead source (Sound nodes) → IsRead source (Unsound f) → ⊥
not_sound source one nodes f h g =
    let same : Sound nodes ≡ Unsound f = one (Sound nodes) (Unsound f) h g in
    cc

-- two readings as sound are one
pub same_nodes : (source : List ℕ) → OneReading source → (a b : List Node) → IsRead source (Sound a) → IsRead source (Sound b) → a ≡ b
same_nodes source one a b h g =
    let same : Sound a ≡ Sound b = one (Sound a) (Sound b) h g in
    cc

-- a sound source is refused for memory alone
pub same_tree : (source : List ℕ) → OneReading source → (fault : BuildFault) (nodes : List Node) → IsReadAs source fault → IsRead source (Sound nodes)
    → (◌≡◌ {A = Result Tree BuildFault} (Err fault) (Ok nodes)) ⊎ (◌≡◌ {A = Result Tree BuildFault} (Err fault) (Err NoMemory))
same_tree source one NoMemory nodes h g = inr refl
same_tree source one (Bad f) nodes h g = absurd (not_sound source one nodes f g h)
