-- What stands at the front of every cut of marks that begin with # or %:.
use Rattle.std.proofs.Common.{◌≡◌, ℕ, true, ◌⊎◌, inl, inr, ⊎_elim, List, [], ◌∷◌, length, get_or, take, refl, ap, sym, subst, ◌∙◌, arith}
use Rattle.std.specs.Str.{bytes_eq}
use Rattle.std.specs.Prelude.{codes}
use Rattle.std.proofs.lemmas.List.{take-map}
use Rattle.std.proofs.lemmas.Slice.Eq.{bytes_eq-Decides}
use Rattle.std.proofs.lemmas.Bool.Decides.{Decides-or}
use Rattle.cb_lines.specs.declared.mark.Mark.{Mark}
use Rattle.cb_lines.specs.Marks.{bytes_of}
use Rattle.cb_tokens.specs.declared.token.TokenKind.{TokenKind}
use Rattle.cb_tokens.specs.declared.token.PieceKind.{PieceKind}
use Rattle.cb_tokens.specs.declared.token.PieceKind.TheVariants as kinds
use Rattle.cb_tokens.specs.declared.first.First.TheVariants as first
use Rattle.cb_tokens.specs.declared.token.TokenKind.TheVariants as token
use Rattle.cb_tokens.specs.Forms.{is_white, is_name_start, is_name_byte, is_quote, is_identifier, continues_number, is_number_rest, is_number, quote_left, closes, is_quoted, is_prefix_letter, is_character, is_string, punctuators, is_punctuator, stays_unclosed, is_unclosed, is_stray, is_white_run, begins_with, has_comment_end, ends_comment, is_comment, is_open_comment, fits}
use Rattle.cb_tokens.specs.Cut.{Piece, IsFirst, StandsFirst, IsCut}
use Rattle.cb_tree.specs.Kinds.{is_hash_text}
use Rattle.cb_tree.proofs.Pieces.{some_bytes}

-- the two spellings
spellings : (text : List ℕ) → is_hash_text text ≡ true → (text ≡ codes "#") ⊎ (text ≡ codes "%:")
unfolding is_hash_text
spellings text h =
    (Decides-or (bytes_eq text (codes "#")) (bytes_eq text (codes "%:")) (bytes_eq-Decides text (codes "#")) (bytes_eq-Decides text (codes "%:"))).0 h

-- what is not the one is the other
pub digraph_left : (text : List ℕ) → is_hash_text text ≡ true → (text ≡ codes "#" → ⊥) → text ≡ codes "%:"
digraph_left text h other = ⊎_elim (λ e. absurd (other e)) (λ e. e) (spellings text h)

-- both are punctuators
is_punctuator_kind : (j : TokenKind) → (fits (kinds.Token j) (codes "#") ≡ true) ⊎ (fits (kinds.Token j) (codes "%:") ≡ true) → j ≡ token.Punct
unfolding is_white is_name_start is_name_byte is_quote is_identifier continues_number is_number_rest is_number quote_left closes is_quoted is_prefix_letter is_character is_string punctuators is_punctuator stays_unclosed is_unclosed is_stray is_white_run begins_with has_comment_end ends_comment is_comment is_open_comment fits
is_punctuator_kind token.Identifier (inl h) = absurd (cc)
is_punctuator_kind token.Identifier (inr h) = absurd (cc)
is_punctuator_kind token.Number (inl h) = absurd (cc)
is_punctuator_kind token.Number (inr h) = absurd (cc)
is_punctuator_kind token.Char (inl h) = absurd (cc)
is_punctuator_kind token.Char (inr h) = absurd (cc)
is_punctuator_kind token.Str (inl h) = absurd (cc)
is_punctuator_kind token.Str (inr h) = absurd (cc)
is_punctuator_kind token.Punct h = refl
is_punctuator_kind token.Other (inl h) = absurd (cc)
is_punctuator_kind token.Other (inr h) = absurd (cc)

pub hash_kind : (bs : List ℕ) (j : TokenKind) (n : ℕ) → StandsFirst bs (first.Piece (kinds.Token j) n) → is_hash_text (take n bs) ≡ true → j ≡ token.Punct
hash_kind bs j n h t =
    is_punctuator_kind j
    (⊎_elim (λ e. inl (subst (λ (x : List ℕ). fits (kinds.Token j) x ≡ true) e h.1.holds)) (λ e. inr (subst (λ (x : List ℕ). fits (kinds.Token j) x ≡ true) e h.1.holds))
    (spellings (take n bs) t))

-- neither is white space, a comment or a line end
not_blank : (k : PieceKind) → (fits k (codes "#") ≡ true) ⊎ (fits k (codes "%:") ≡ true) → (j : TokenKind) × (k ≡ kinds.Token j)
unfolding fits is_white_run is_white is_comment begins_with
not_blank kinds.White (inl h) = absurd (cc)
not_blank kinds.White (inr h) = absurd (cc)
not_blank kinds.Comment (inl h) = absurd (cc)
not_blank kinds.Comment (inr h) = absurd (cc)
not_blank kinds.LineEnd (inl h) = absurd (cc)
not_blank kinds.LineEnd (inr h) = absurd (cc)
not_blank (kinds.Token j) h = (j, refl)

is_token_text : (k : PieceKind) (text : List ℕ) → is_hash_text text ≡ true → fits k text ≡ true → (j : TokenKind) × (k ≡ kinds.Token j)
is_token_text k text h f =
    not_blank k (⊎_elim (λ e. inl (subst (λ (x : List ℕ). fits k x ≡ true) e f)) (λ e. inr (subst (λ (x : List ℕ). fits k x ≡ true) e f)) (spellings text h))

-- the longest piece has one length
one_length : (bs : List ℕ) (k k' : PieceKind) (n n' : ℕ) → IsFirst bs k n → IsFirst bs k' n' → n ≡ n'
one_length bs k k' n n' a b =
    omega (arith, a.longest k' n' b.within b.holds, b.longest k n a.within a.holds)

-- a directive's first token stands first in the cut
pub record BeginsWithHash (more : List Piece) : Type 0 where
  pub kind : TokenKind
  pub marks : List Mark
  pub behind : List Piece
  pub more_is : more ≡ record { kind = kinds.Token kind; marks = marks } ∷ behind
  pub hash : is_hash_text (bytes_of marks) ≡ true

same_bytes : (ms : List Mark) (p : Piece) (n : ℕ) → n ≡ length p.marks → p.marks ≡ take (length p.marks) ms → bytes_of p.marks ≡ take n (bytes_of ms)
same_bytes ms p n e h =
    ap bytes_of h ∙ (sym (take-map (λ (m : Mark). m.byte) (length p.marks) ms) ∙ ap (λ x. take x (bytes_of ms)) (sym e))

pub hash_next : (ms : List Mark) (k : TokenKind) (n : ℕ) → StandsFirst (bytes_of ms) (first.Piece (kinds.Token k) n)
    → is_hash_text (take n (bytes_of ms)) ≡ true → (more : List Piece) → IsCut ms more → BeginsWithHash more
hash_next ms k n h hash [] cut =
    let e : length (bytes_of ms) ≡ 0 = ap (λ (x : List Mark). length (bytes_of x)) cut in
    absurd (omega (arith, some_bytes (bytes_of ms) (kinds.Token k) n h.1, h.1.within))
hash_next ms k n h hash (p ∷ ps) cut =
    let e : n ≡ length p.marks = one_length (bytes_of ms) (kinds.Token k) p.kind n (length p.marks) h.1 cut.0.first.1 in
    let t : bytes_of p.marks ≡ take n (bytes_of ms) = same_bytes ms p n e cut.0.marks in
    let f : fits p.kind (take n (bytes_of ms)) ≡ true = subst (λ x. fits p.kind (take x (bytes_of ms)) ≡ true) (sym e) cut.0.first.1.holds in
    let j = is_token_text p.kind (take n (bytes_of ms)) hash f in
    record {
      kind = j.0;
      marks = p.marks;
      behind = ps;
      more_is = ap (λ x. record { kind = x; marks = p.marks } ∷ ps) j.1;
      hash = ap is_hash_text t ∙ hash;
    }

-- a # at the front
pub hash_bytes : (bs : List ℕ) → get_or bs 0 0 ≡ 35 → is_hash_text (take 1 bs) ≡ true
unfolding is_hash_text
hash_bytes [] h = absurd (cc)
hash_bytes (b ∷ bs) h = rw h refl

-- the spelling by the number of bytes
pub sign_by_length : (text : List ℕ) → is_hash_text text ≡ true → length text ≡ 1 → text ≡ codes "#"
sign_by_length text h l = ⊎_elim (λ e. e) (λ e. absurd (omega (arith, l, ap length e))) (spellings text h)

pub digraph_by_length : (text : List ℕ) → is_hash_text text ≡ true → (length text ≡ 1 → ⊥) → text ≡ codes "%:"
digraph_by_length text h l = digraph_left text h (λ e. l (ap length e))
