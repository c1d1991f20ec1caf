-- There is one cut at most, or one open comment.
use Rattle.std.proofs.Common.{◌≡◌, ℕ, suc, zero, true, false, List, [], ◌∷◌, length, take, drop, map, Result, Ok, Err, IfOk, sym, refl, ap, ◌∙◌, subst, arith, ◌⊎◌, inl, inr}
use Rattle.std.proofs.lemmas.Bool.{both_ways}
use Rattle.cb_lines.specs.declared.mark.Mark.{Mark}
use Rattle.cb_lines.specs.Marks.{bytes_of, first_line}
use Rattle.cb_tokens.specs.declared.token.PieceKind.{PieceKind}
use Rattle.cb_tokens.specs.declared.first.First.{First}
use Rattle.cb_tokens.specs.declared.first.First.TheVariants as first
use Rattle.cb_tokens.specs.declared.fault.LexFault.{LexFault}
use Rattle.cb_tokens.specs.declared.fault.LexFault.TheVariants as faults
use Rattle.cb_tokens.specs.Forms.{fits, is_open_comment, begins_with}
use Rattle.cb_tokens.specs.Cut.{IsFirst, StandsFirst, Piece, BeginsWith, Cuts, IsCut, HasOpenComment}
use Rattle.cb_tokens.specs.Logical.{Line, AreLinesOf, logical_lines}
use Rattle.cb_tokens.proofs.Alike.{alike}
use Rattle.cb_tokens.proofs.Cutting.{nothing_left}

same_len : (xs : List ℕ) (k j : PieceKind) (n m : ℕ) → IsFirst xs k n → IsFirst xs j m → n ≡ m
same_len xs k j n m f g =
    let a = f.longest j m g.within g.holds in
    let b = g.longest k n f.within f.holds in
    omega arith

same_kind : (xs : List ℕ) (k j : PieceKind) (n m : ℕ) → IsFirst xs k n → IsFirst xs j m → k ≡ j
same_kind xs k j n m f g =
    alike k j (take n xs) f.holds (subst (λ i. fits j (take i xs) ≡ true) (sym (same_len xs k j n m f g)) g.holds)

pub same_first : (xs : List ℕ) (a b : First) → StandsFirst xs a → StandsFirst xs b → a ≡ b
same_first xs first.OpenComment first.OpenComment h i = refl
same_first xs first.OpenComment (first.Piece j m) h i = absurd (both_ways (is_open_comment xs) i.0 h)
same_first xs (first.Piece k n) first.OpenComment h i = absurd (both_ways (is_open_comment xs) h.0 i)
same_first xs (first.Piece k n) (first.Piece j m) h i =
    let e = same_kind xs k j n m h.1 i.1 in let f = same_len xs k j n m h.1 i.1 in cc

same_piece : (ms : List Mark) (p q : Piece) → BeginsWith ms p → BeginsWith ms q → p ≡ q
same_piece ms p q b c =
    let kinds : p.kind ≡ q.kind = same_kind (bytes_of ms) p.kind q.kind (length p.marks) (length q.marks) b.first.1 c.first.1 in
    let lens : length p.marks ≡ length q.marks = same_len (bytes_of ms) p.kind q.kind (length p.marks) (length q.marks) b.first.1 c.first.1 in
    let marks : p.marks ≡ q.marks = b.marks ∙ ap (λ n. take n ms) lens ∙ sym c.marks in
    λ i. record { kind = kinds i; marks = marks i }

-- the rest behind the one piece
same_rest : (ms : List Mark) (p q : Piece) (qs : List Piece) (rest : List Mark) → BeginsWith ms p → BeginsWith ms q → Cuts (drop (length q.marks) ms) qs rest → Cuts (drop (length p.marks) ms) qs rest
same_rest ms p q qs rest b c d =
    subst (λ n. Cuts (drop n ms) qs rest) (sym (same_len (bytes_of ms) p.kind q.kind (length p.marks) (length q.marks) b.first.1 c.first.1)) d

drop_none : (n : ℕ) → drop n (map (λ (m : Mark). m) []) ≡ []
drop_none zero = refl
drop_none (suc n) = refl

none_begins : (p : Piece) → BeginsWith [] p → ⊥
none_begins p b = let e : p ∷ [] ≡ [] = nothing_left (p ∷ []) (b, drop_none (length p.marks)) in cc

pub same_cut : (ms : List Mark) (ps qs : List Piece) → IsCut ms ps → IsCut ms qs → ps ≡ qs
same_cut ms [] [] c d = refl
same_cut ms [] (q ∷ qs) c d = absurd (none_begins q (subst (λ ns. BeginsWith ns q) c d.0))
same_cut ms (p ∷ ps) [] c d = absurd (none_begins p (subst (λ ns. BeginsWith ns p) d c.0))
same_cut ms (p ∷ ps) (q ∷ qs) c d =
    let e = same_piece ms p q c.0 d.0 in
    let f = same_cut (drop (length p.marks) ms) ps qs c.1 (same_rest ms p q qs [] c.0 d.0 d.1) in
    cc

no_open_none : is_open_comment (bytes_of []) ≡ false
unfolding is_open_comment begins_with
no_open_none = refl

cut_closed : (ms : List Mark) (ps qs : List Piece) (rest : List Mark) → IsCut ms ps → Cuts ms qs rest → is_open_comment (bytes_of rest) ≡ true → ⊥
cut_closed ms [] [] rest c d o =
    both_ways (is_open_comment (bytes_of [])) no_open_none (subst (λ ns. is_open_comment (bytes_of ns) ≡ true) (sym d ∙ c) o)
cut_closed ms (p ∷ ps) [] rest c d o =
    both_ways (is_open_comment (bytes_of ms)) c.0.first.0 (subst (λ ns. is_open_comment (bytes_of ns) ≡ true) (sym d) o)
cut_closed ms [] (q ∷ qs) rest c d o = none_begins q (subst (λ ns. BeginsWith ns q) c d.0)
cut_closed ms (p ∷ ps) (q ∷ qs) rest c d o =
    cut_closed (drop (length p.marks) ms) ps qs rest c.1 (same_rest ms p q qs rest c.0 d.0 d.1) o

pub no_cut : (ms : List Mark) (ps : List Piece) (line : ℕ) → IsCut ms ps → HasOpenComment ms line → ⊥
no_cut ms ps line c h = cut_closed ms ps h.0 h.1 c h.2 h.3

open_same : (ms : List Mark) (ps qs : List Piece) (rest other : List Mark) → Cuts ms ps rest → Cuts ms qs other → is_open_comment (bytes_of rest) ≡ true → is_open_comment (bytes_of other) ≡ true → rest ≡ other
open_same ms [] [] rest other c d o p = sym c ∙ d
open_same ms (p ∷ ps) [] rest other c d o i =
    absurd (both_ways (is_open_comment (bytes_of ms)) c.0.first.0 (subst (λ ns. is_open_comment (bytes_of ns) ≡ true) (sym d) i))
open_same ms [] (q ∷ qs) rest other c d o i =
    absurd (both_ways (is_open_comment (bytes_of ms)) d.0.first.0 (subst (λ ns. is_open_comment (bytes_of ns) ≡ true) (sym c) o))
open_same ms (p ∷ ps) (q ∷ qs) rest other c d o i =
    open_same (drop (length p.marks) ms) ps qs rest other c.1 (same_rest ms p q qs other c.0 d.0 d.1) o i

pub same_open : (ms : List Mark) (line other : ℕ) → HasOpenComment ms line → HasOpenComment ms other → line ≡ other
same_open ms line other h i =
    h.4 ∙ ap first_line (open_same ms h.0 i.0 h.1 i.1 h.2 i.2 h.3 i.3) ∙ sym i.4

pub same_lines : (ms : List Mark) (a b : List Line) → AreLinesOf ms a → AreLinesOf ms b → a ≡ b
same_lines ms a b (ps, c, e) (qs, d, f) = e ∙ ap logical_lines (same_cut ms ps qs c d) ∙ sym f

-- where a comment is open, that is the answer
pub only_open : (ms : List Mark) (r : Result (List Line) LexFault) → IfOk r (λ lines. AreLinesOf ms lines) → ((line : ℕ) → r ≡ Err (faults.OpenComment line) → HasOpenComment ms line) → (line : ℕ) → HasOpenComment ms line
    → (r ≡ Err (faults.OpenComment line)) ⊎ (r ≡ Err faults.NoMemory)
only_open ms (Ok lines) (ps, c, e) open_ line h = absurd (no_cut ms ps line c h)
only_open ms (Err (faults.OpenComment n)) ok open_ line h =
    inl (ap (λ k. Err (faults.OpenComment k)) (same_open ms n line (open_ n refl) h))
only_open ms (Err faults.NoMemory) ok open_ line h = inr refl
