-- The nodes of a cut, piece by piece.
use Rattle.std.proofs.Common.{◌≡◌, Bool, true, false, List, [], ◌∷◌, ◌++◌, refl, ap, sym, ◌∙◌, append_assoc}
use Rattle.std.proofs.lemmas.List.{append-nil}
use Rattle.cb_lines.specs.declared.mark.Mark.{Mark}
use Rattle.cb_lines.specs.Marks.{bytes_of}
use Rattle.cb_tokens.specs.declared.token.Token.{Token}
use Rattle.cb_tokens.specs.declared.token.TokenKind.{TokenKind}
use Rattle.cb_tokens.specs.declared.token.PieceKind.{PieceKind}
use Rattle.cb_tokens.specs.declared.token.PieceKind.TheVariants as kinds
use Rattle.cb_tokens.specs.Cut.{Piece}
use Rattle.cb_tokens.specs.Logical.{with_piece, later_tokens, token_marks, token_of, spaced_after}
use Rattle.cb_tree.specs.Kinds.{is_hash}
use Rattle.cb_tree.specs.inner.Reads.{Brief, Directive, Run, solid, run_before, briefs_of, run_on, directive_on}

-- white space or a comment at the start of a line changes nothing
pub skip_white : (m : List Mark) (S : List (List Piece)) → briefs_of (with_piece (record { kind = kinds.White; marks = m }) S) ≡ briefs_of S
skip_white m [] = refl
skip_white m (part ∷ parts) = refl

pub skip_comment : (m : List Mark) (S : List (List Piece)) → briefs_of (with_piece (record { kind = kinds.Comment; marks = m }) S) ≡ briefs_of S
skip_comment m [] = refl
skip_comment m (part ∷ parts) = refl

-- the token at the front
abbrev pub front_token : TokenKind → List Mark → Token
front_token j m = record { kind = j; text = bytes_of m; spaced = false }

abbrev front : TokenKind → List Mark → Piece
front j m = record { kind = kinds.Token j; marks = m }

-- a directive begins
pub directive_begins : (j : TokenKind) (m : List Mark) (S : List (List Piece)) → is_hash (front_token j m) ≡ true
    → briefs_of (with_piece (front j m) S) ≡ directive_on (front_token j m ∷ []) false m S
directive_begins j m [] h = rw (h, append-nil m) refl
directive_begins j m (part ∷ parts) h = rw h refl

-- a run begins
pub run_begins : (j : TokenKind) (m : List Mark) (S : List (List Piece)) → is_hash (front_token j m) ≡ false
    → briefs_of (with_piece (front j m) S) ≡ run_on m S
run_begins j m [] h = rw (h, append-nil m) refl
run_begins j m (part ∷ parts) h = rw h refl

-- a directive's line goes on with a piece
pub directive_goes : (k : PieceKind) (m : List Mark) (ts : List Token) (spaced : Bool) (ms : List Mark) (S : List (List Piece))
    → directive_on ts spaced ms (with_piece (record { kind = k; marks = m }) S)
    ≡ directive_on (ts ++ token_of k m spaced) (spaced_after k) (ms ++ token_marks k m) S
directive_goes k m ts spaced ms [] = rw (append-nil (token_of k m spaced), append-nil (token_marks k m)) refl
directive_goes k m ts spaced ms (part ∷ parts) =
    rw (append_assoc ts (token_of k m spaced) (later_tokens (spaced_after k) part), append_assoc ms (token_marks k m) (solid part)) refl

-- a directive's line ends
pub directive_ends : (ts : List Token) (spaced : Bool) (ms : List Mark) (S : List (List Piece))
    → directive_on ts spaced ms ([] ∷ S) ≡ Directive ts ms ∷ briefs_of S
directive_ends ts spaced ms S = rw (append-nil ts, append-nil ms) refl

-- a line of a run goes on with a piece
pub run_goes : (k : PieceKind) (m : List Mark) (ms : List Mark) (S : List (List Piece))
    → run_on ms (with_piece (record { kind = k; marks = m }) S) ≡ run_on (ms ++ token_marks k m) S
run_goes k m ms [] = rw (append-nil (token_marks k m)) refl
run_goes k m ms (part ∷ parts) = rw (append_assoc ms (token_marks k m) (solid part)) refl

-- a line of a run ends
pub run_line_ends : (ms : List Mark) (S : List (List Piece)) → run_on ms ([] ∷ S) ≡ run_before ms (briefs_of S)
run_line_ends ms S = rw (append-nil ms) refl

-- two runs are one
twice : (a b : List Mark) (bs : List Brief) → run_before a (run_before b bs) ≡ run_before (a ++ b) bs
twice a b [] = refl
twice a b (Run c ∷ bs) = ap (λ x. Run x ∷ bs) (sym (append_assoc a b c))
twice a b (Directive ts c ∷ bs) = refl

joins : (ms m : List Mark) (S : List (List Piece)) → run_before ms (run_on m S) ≡ run_on (ms ++ m) S
joins ms m [] = refl
joins ms m (part ∷ parts) = rw (append_assoc ms m (solid part)) (twice ms (m ++ solid part) (briefs_of parts))

-- a further line of a run begins
pub run_line_begins : (j : TokenKind) (m ms : List Mark) (S : List (List Piece)) → is_hash (front_token j m) ≡ false
    → run_before ms (briefs_of (with_piece (front j m) S)) ≡ run_on (ms ++ m) S
run_line_begins j m ms S h = ap (run_before ms) (run_begins j m S h) ∙ joins ms m S

stays_apart : (ms : List Mark) (ts : List Token) (spaced : Bool) (m : List Mark) (S : List (List Piece))
    → run_before ms (directive_on ts spaced m S) ≡ Run ms ∷ directive_on ts spaced m S
stays_apart ms ts spaced m [] = refl
stays_apart ms ts spaced m (part ∷ parts) = refl

-- a run ends where a directive begins
pub run_ends : (j : TokenKind) (m ms : List Mark) (S : List (List Piece)) → is_hash (front_token j m) ≡ true
    → run_before ms (briefs_of (with_piece (front j m) S)) ≡ Run ms ∷ briefs_of (with_piece (front j m) S)
run_ends j m ms S h =
    let e = directive_begins j m S h in
    ap (run_before ms) e ∙ (stays_apart ms (front_token j m ∷ []) false m S ∙ ap (λ bs. Run ms ∷ bs) (sym e))
