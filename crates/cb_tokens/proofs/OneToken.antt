-- Marks that are one token.
use Rattle.std.proofs.Common.{◌≡◌, ℕ, true, false, not, ◌||◌, Option, Some, None, IfSome, List, [], ◌∷◌, length, take, drop, length-drop, sym, refl, ap, ◌∙◌, subst, arith}
use Rattle.std.proofs.lemmas.Bool.{both_ways, false_from_ne_true, not-true, and_parts, or_left, eqb-true}
use Rattle.std.proofs.lemmas.List.{take_all, drop_all, length-map}
use Rattle.cb_lines.specs.declared.mark.Mark.{Mark}
use Rattle.cb_lines.specs.Marks.{bytes_of}
use Rattle.cb_tokens.specs.declared.token.TokenKind.{TokenKind}
use Rattle.cb_tokens.specs.declared.token.TokenKind.TheVariants.{Identifier, Number, Char, Str, Punct, Other}
use Rattle.cb_tokens.specs.declared.token.PieceKind.{PieceKind}
use Rattle.cb_tokens.specs.declared.token.PieceKind.TheVariants.{Token}
use Rattle.cb_tokens.specs.Forms.{is_white, is_name_start, is_prefix_letter, is_quote, is_punctuator, punctuators, is_stray, begins_with, is_open_comment, has_comment_end, fits}
use Rattle.cb_tokens.specs.Cut.{Piece}
use Rattle.cb_tokens.specs.Logical.{IsOneToken}
use Rattle.cb_tokens.specs.inner.Whole.{IsDecided}
use Rattle.cb_tokens.proofs.Heads.{start, starts, begins_first}
use Rattle.cb_tokens.proofs.Alike.{alike, comment_table}
use Rattle.cb_tokens.proofs.Cutting.{no_piece}

-- of the tokens only punctuators begin with a slash
slash_start : (k : TokenKind) → (k ≡ Punct → ⊥) → start (Token k) 47 ≡ false
unfolding start is_name_start is_prefix_letter is_quote is_stray is_white is_punctuator punctuators
slash_start Identifier h = refl
slash_start Number h = refl
slash_start Char h = refl
slash_start Str h = refl
slash_start Punct h = absurd (h refl)
slash_start Other h = refl

no_slash : (k : TokenKind) (b : ℕ) (bs : List ℕ) → fits (Token k) (b ∷ bs) ≡ true → begins_with 47 42 (b ∷ bs) ≡ true → (k ≡ Punct → ⊥) → ⊥
no_slash k b bs h o other =
    let slash : b ≡ 47 = eqb-true b 47 (begins_first 47 42 b bs o) in
    both_ways (start (Token k) b) (ap (start (Token k)) slash ∙ slash_start k other) (starts (Token k) b bs h)

no_comment : (k : TokenKind) (b : ℕ) (bs : List ℕ) → fits (Token k) (b ∷ bs) ≡ true → begins_with 47 42 (b ∷ bs) ≡ true → ⊥
unfolding fits
no_comment Punct b bs h o =
    both_ways (begins_with 47 42 (b ∷ bs) || begins_with 47 47 (b ∷ bs)) (not-true (begins_with 47 42 (b ∷ bs) || begins_with 47 47 (b ∷ bs)) (comment_table (b ∷ bs) h)) (or_left (begins_with 47 42 (b ∷ bs)) (begins_with 47 47 (b ∷ bs)) o)
no_comment Identifier b bs h o = no_slash Identifier b bs h o (λ e. absurd (cc))
no_comment Number b bs h o = no_slash Number b bs h o (λ e. absurd (cc))
no_comment Char b bs h o = no_slash Char b bs h o (λ e. absurd (cc))
no_comment Str b bs h o = no_slash Str b bs h o (λ e. absurd (cc))
no_comment Other b bs h o = no_slash Other b bs h o (λ e. absurd (cc))

-- no token begins as a comment
pub opens_as : (k : TokenKind) (l : List ℕ) → fits (Token k) l ≡ true → is_open_comment l ≡ false
unfolding is_open_comment
opens_as k [] h = absurd (both_ways (fits (Token k) []) (no_piece (Token k)) h)
opens_as k (b ∷ bs) h =
    false_from_ne_true (is_open_comment (b ∷ bs))
    (λ o.
    let opens = (and_parts (begins_with 47 42 (b ∷ bs)) (not (has_comment_end (drop 1 bs))) o).0 in
    no_comment k b bs h opens)

holds_all : (ms : List Mark) (k : PieceKind) → fits k (bytes_of ms) ≡ true → fits k (take (length ms) (bytes_of ms)) ≡ true
holds_all ms k h =
    subst (λ l. fits k l ≡ true) (sym (take_all (length ms) (bytes_of ms) (omega (arith, length-map ms (λ (m : Mark). m.byte))))) h

pub from_fits : (ms : List Mark) (k : TokenKind) → fits (Token k) (bytes_of ms) ≡ true → IsOneToken ms k
from_fits ms k h =
    let len = length-map ms (λ (m : Mark). m.byte) in
    let p : Piece = record { kind = Token k; marks = ms } in (
      p,
      (
        record {
          first = (opens_as k (bytes_of ms) h, record { within = omega arith; holds = holds_all ms (Token k) h; longest = λ m le f. omega arith });
          marks = sym (take_all (length ms) ms (omega arith));
        },
        drop_all (length ms) ms (omega arith),
      ),
      refl,
    )

all_taken : (ms : List Mark) (n : ℕ) → drop n ms ≡ [] → take n (bytes_of ms) ≡ bytes_of ms
all_taken ms n e =
    take_all n (bytes_of ms) (let none : length (drop n ms) ≡ 0 = ap length e in omega (arith, length-drop n ms, length-map ms (λ (m : Mark). m.byte)))

pub to_fits : (ms : List Mark) (k : TokenKind) → IsOneToken ms k → fits (Token k) (bytes_of ms) ≡ true
to_fits ms k (p, cut, kind) =
    subst (λ j. fits j (bytes_of ms) ≡ true) kind (subst (λ l. fits p.kind l ≡ true) (all_taken ms (length p.marks) cut.1) cut.0.first.1.holds)

pub one_token : (ms : List Mark) (r : Option TokenKind) → IsDecided (bytes_of ms) r → IfSome r (λ k. IsOneToken ms k)
one_token ms None d = tt
one_token ms (Some k) d = from_fits ms k d

pub same_kind : (k j : TokenKind) → Token k ≡ Token j → k ≡ j
same_kind k j e = cc

pub only_token : (ms : List Mark) (r : Option TokenKind) → IsDecided (bytes_of ms) r → (k : TokenKind) → IsOneToken ms k → r ≡ Some k
only_token ms None d k h = absurd (both_ways (fits (Token k) (bytes_of ms)) (d k) (to_fits ms k h))
only_token ms (Some j) d k h = ap Some (same_kind j k (alike (Token j) (Token k) (bytes_of ms) d (to_fits ms k h)))
