-- The kind of bytes as they stand, by the piece that stands first.
use Rattle.std.proofs.Common.{◌≡◌, ℕ, ◌<◌, ◌≤◌, true, false, List, [], ◌∷◌, length, Some, None, sym, subst, arith}
use Rattle.std.proofs.lemmas.Bool.{both_ways, false_from_ne_true}
use Rattle.std.proofs.lemmas.List.{take_all}
use Rattle.cb_tokens.specs.declared.token.TokenKind.{TokenKind}
use Rattle.cb_tokens.specs.declared.token.TokenKind.TheVariants.{Identifier, Number, Char, Str, Punct, Other}
use Rattle.cb_tokens.specs.declared.token.PieceKind.{PieceKind}
use Rattle.cb_tokens.specs.declared.token.PieceKind.TheVariants.{Token}
use Rattle.cb_tokens.specs.Forms.{fits, is_open_comment}
use Rattle.cb_tokens.specs.Kinds.{token_kind}
use Rattle.cb_tokens.specs.Cut.{IsFirst}
use Rattle.cb_tokens.proofs.Alike.{alike}
use Rattle.cb_tokens.proofs.Cutting.{no_piece}
use Rattle.cb_tokens.proofs.OneToken.{opens_as, same_kind}

-- bytes that are a token of one kind are none of another
not_other : (k j : TokenKind) (bytes : List ℕ) → (k ≡ j → ⊥) → fits (Token k) bytes ≡ true → fits (Token j) bytes ≡ false
not_other k j bytes ne h = false_from_ne_true (fits (Token j) bytes) (λ i. ne (same_kind k j (alike (Token k) (Token j) bytes h i)))

-- bytes that are a token have its kind
kind_of_token : (bytes : List ℕ) (k : TokenKind) → fits (Token k) bytes ≡ true → token_kind bytes ≡ Some k
unfolding token_kind
kind_of_token bytes Identifier h = simp h
kind_of_token bytes Number h = simp (not_other Number Identifier bytes (λ e. cc) h, h)
kind_of_token bytes Char h = simp (not_other Char Identifier bytes (λ e. cc) h, not_other Char Number bytes (λ e. cc) h, h)
kind_of_token bytes Str h =
    simp (not_other Str Identifier bytes (λ e. cc) h, not_other Str Number bytes (λ e. cc) h, not_other Str Char bytes (λ e. cc) h, h)
kind_of_token bytes Punct h =
    simp
    (not_other Punct Identifier bytes (λ e. cc) h, not_other Punct Number bytes (λ e. cc) h, not_other Punct Char bytes (λ e. cc) h, not_other Punct Str bytes (λ e. cc) h, h)
kind_of_token bytes Other h =
    simp
    (not_other Other Identifier bytes (λ e. cc) h, not_other Other Number bytes (λ e. cc) h, not_other Other Char bytes (λ e. cc) h, not_other Other Str bytes (λ e. cc) h, not_other Other Punct bytes (λ e. cc) h, h)

-- bytes that are no token have none
no_kind : (bytes : List ℕ) → ((k : TokenKind) → fits (Token k) bytes ≡ false) → token_kind bytes ≡ None
unfolding token_kind
no_kind bytes none = simp (none Identifier, none Number, none Char, none Str, none Punct, none Other)

pub no_kind_of_none : (bytes : List ℕ) → length bytes ≡ 0 → None ≡ token_kind bytes
no_kind_of_none [] h = sym (no_kind [] (λ k. no_piece (Token k)))
no_kind_of_none (b ∷ bs) h = absurd (omega arith)

-- nor are bytes that begin with an open comment
pub no_kind_of_comment : (bytes : List ℕ) → is_open_comment bytes ≡ true → None ≡ token_kind bytes
no_kind_of_comment bytes o =
    sym (no_kind bytes (λ k. false_from_ne_true (fits (Token k) bytes) (λ h. both_ways (is_open_comment bytes) (opens_as k bytes h) o)))

-- bytes whose first piece ends before them are no token
pub no_kind_of_more : (bytes : List ℕ) (kind : PieceKind) (n : ℕ) → IsFirst bytes kind n → n < length bytes → None ≡ token_kind bytes
no_kind_of_more bytes kind n f more =
    sym
    (no_kind bytes
    (λ k.
    false_from_ne_true (fits (Token k) bytes)
    (λ h.
    let all = take_all (length bytes) bytes (omega arith) in
    let longest : length bytes ≤ n = f.longest (Token k) (length bytes) (omega arith) (subst (λ l. fits (Token k) l ≡ true) (sym all) h) in
    omega arith)))

whole_fits : (bytes : List ℕ) (kind : PieceKind) (n : ℕ) → IsFirst bytes kind n → length bytes ≤ n → fits kind bytes ≡ true
whole_fits bytes kind n f all = subst (λ l. fits kind l ≡ true) (take_all n bytes all) f.holds

-- bytes that are another piece as a whole are no token
pub no_kind_of_piece : (bytes : List ℕ) (kind : PieceKind) (n : ℕ) → IsFirst bytes kind n → length bytes ≤ n → ((k : TokenKind) → Token k ≡ kind → ⊥) → None ≡ token_kind bytes
no_kind_of_piece bytes kind n f all none =
    sym
    (no_kind bytes (λ k. false_from_ne_true (fits (Token k) bytes) (λ i. none k (alike (Token k) kind bytes i (whole_fits bytes kind n f all)))))

-- bytes that are a token as a whole have its kind
pub kind_of_whole : (bytes : List ℕ) (k : TokenKind) (n : ℕ) → IsFirst bytes (Token k) n → length bytes ≤ n → Some k ≡ token_kind bytes
kind_of_whole bytes k n f all = sym (kind_of_token bytes k (whole_fits bytes (Token k) n f all))
