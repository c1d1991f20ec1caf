-- Tokens that are no punctuators are no parentheses and no question marks.
use Rattle.std.proofs.Common.{◌≡◌, ℕ, Bool, true, false, cond, List, [], ◌∷◌, length, drop, slice_index, ◌==◌, ◌&&◌, not, sym, refl}
use Rattle.std.specs.Str.{bytes_eq}
use Rattle.cb_paths.specs.declared.language.Language.{Language}
use Rattle.cb_paths.specs.declared.language.Language.TheVariants.{C, Cxx}
use Rattle.cb_tokens.specs.declared.token.Token.{Token}
use Rattle.cb_tokens.specs.declared.token.TokenKind.{TokenKind}
use Rattle.cb_tokens.specs.declared.token.TokenKind.TheVariants as kinds
use Rattle.cb_cond.specs.declared.symbol.Operator.{Operator}
use Rattle.cb_cond.specs.declared.symbol.Operator.TheVariants.{Or, And, BitOr, BitXor, BitAnd, Unequal}
use Rattle.cb_cond.specs.declared.symbol.Symbol.{Symbol}
use Rattle.cb_cond.specs.declared.symbol.Symbol.TheVariants.{Number, Between, Exclamation, Tilde, WideInteger, Stray}
use Rattle.cb_cond.specs.Words.{Row, looked_up, cxx_words, word, identifier}
use Rattle.cb_cond.specs.Integers.{are_digits, amount, is_among, signed_suffixes, unsigned_suffixes, number, with_suffix, behind_mark, integer}
use Rattle.cb_cond.specs.Characters.{is_octal_escape, is_hexadecimal_escape, simple_escape, small, escape, quoted, character}
use Rattle.cb_cond.specs.Symbols.{symbol, symbol_of}
use Rattle.cb_cond.specs.Faults.{is_open, is_close, is_question}

-- a test that fails at numbers, operators and what has no form
pub record IsElsewhere (p : Symbol → Bool) : Type 0 where
  number : (n : ℕ) (u : Bool) → p (Number n u) ≡ false
  operator : (o : Operator) → p (Between o) ≡ false
  exclamation : p Exclamation ≡ false
  tilde : p Tilde ≡ false
  wide : p WideInteger ≡ false
  stray : p Stray ≡ false

-- a form whose symbols are all of these
unfoldable Plain : Symbol → Type 0
Plain s = (p : Symbol → Bool) → IsElsewhere p → p s ≡ false

plain-if : (v : Bool) (s t : Symbol) → Plain s → Plain t → Plain (cond v s t)
plain-if true s t h k = h
plain-if false s t h k = k

plain-number : (n : ℕ) (u : Bool) → Plain (Number n u)
unfolding Plain
plain-number n u = λ p h. h.number n u

plain-stray : Plain Stray
unfolding Plain
plain-stray = λ p h. h.stray

plain-wide : Plain WideInteger
unfolding Plain
plain-wide = λ p h. h.wide

plain-exclamation : Plain Exclamation
unfolding Plain
plain-exclamation = λ p h. h.exclamation

plain-tilde : Plain Tilde
unfolding Plain
plain-tilde = λ p h. h.tilde

plain-between : (o : Operator) → Plain (Between o)
unfolding Plain
plain-between o = λ p h. h.operator o

unfoldable Plains : List Row → Type 0
Plains [] = Unit {0}
Plains (r ∷ rs) = Plain r.symbol × Plains rs

plain-looked_up : (text : List ℕ) (rows : List Row) (s : Symbol) → Plains rows → Plain s → Plain (looked_up text rows s)
unfolding Plains looked_up
plain-looked_up text [] s h k = k
plain-looked_up text (r ∷ rs) s h k = plain-if (bytes_eq text r.text) r.symbol _ h.0 (plain-looked_up text rs s h.1 k)

plain-words : Plains cxx_words
unfolding Plains cxx_words
plain-words = (
  plain-between And,
  (
    plain-between Or,
    (
      plain-exclamation,
      (
        plain-between BitXor,
        (
          plain-between BitAnd,
          (
            plain-between BitOr,
            (plain-tilde, (plain-between Unequal, (plain-number 1 false, tt))),
          ),
        ),
      ),
    ),
  ),
)

plain-identifier : (language : Language) (text : List ℕ) → Plain (identifier language text)
unfolding identifier word
plain-identifier C text = plain-if _ _ _ plain-stray (plain-number 0 false)
plain-identifier Cxx text = plain-if _ _ _ plain-stray (plain-looked_up text cxx_words (Number 0 false) plain-words (plain-number 0 false))

plain-amount : (n : ℕ) (u : Bool) → Plain (number n u)
unfolding number
plain-amount n u = plain-if _ _ _ (plain-number n _) plain-wide

plain-suffix : (base : ℕ) (digits suffix : List ℕ) → Plain (with_suffix base digits suffix)
unfolding with_suffix
plain-suffix base digits suffix =
    plain-if (are_digits base false digits) _ _
    (plain-if (is_among signed_suffixes suffix) _ _ (plain-amount (amount base digits) false)
    (plain-if (is_among unsigned_suffixes suffix) _ _ (plain-amount (amount base digits) true) plain-stray))
    plain-stray

plain-integer : (text : List ℕ) → Plain (integer text)
unfolding integer behind_mark
plain-integer text = plain-suffix _ _ _

plain-small : (n : ℕ) → Plain (small n)
unfolding small
plain-small n = plain-if _ _ _ (plain-number n false) plain-stray

plain-simple : (letter : ℕ) → Plain (simple_escape letter)
unfolding simple_escape
plain-simple letter =
    plain-if _ _ _ (plain-number letter false) (plain-if _ _ _ (plain-number 7 false) (plain-if _ _ _ (plain-number 8 false)
    (plain-if _ _ _ (plain-number 12 false) (plain-if _ _ _ (plain-number 10 false) (plain-if _ _ _ (plain-number 13 false)
    (plain-if _ _ _ (plain-number 9 false) (plain-if _ _ _ (plain-number 11 false) plain-stray)))))))

plain-escape : (bs : List ℕ) → Plain (escape bs)
unfolding escape
plain-escape bs =
    plain-if (is_octal_escape bs) _ _ (plain-small (amount 8 bs))
    (plain-if (is_hexadecimal_escape bs) _ _ (plain-small (amount 16 (drop 1 bs)))
    (plain-if (length bs == 1) _ _ (plain-simple (slice_index bs 0)) plain-stray))

plain-quoted : (bs : List ℕ) → Plain (quoted bs)
unfolding quoted
plain-quoted bs =
    plain-if (slice_index bs 0 == 92) _ _ (plain-escape (drop 1 bs))
    (plain-if ((length bs == 1) && not (slice_index bs 0 == 39)) _ _ (plain-small (slice_index bs 0)) plain-stray)

plain-character : (text : List ℕ) → Plain (character text)
unfolding character
plain-character text = plain-if _ _ _ (plain-quoted _) plain-stray

-- only punctuators count
outside : (language : Language) (kind : TokenKind) (text : List ℕ) → (kind ≡ kinds.Punct → ⊥) → Plain (symbol_of language kind text)
unfolding symbol_of
outside language kinds.Punct text h = absurd (h refl)
outside language kinds.Identifier text h = plain-identifier language text
outside language kinds.Number text h = plain-integer text
outside language kinds.Char text h = plain-character text
outside language kinds.Str text h = plain-stray
outside language kinds.Other text h = plain-stray

pub outside-open : (language : Language) (token : Token) → (token.kind ≡ kinds.Punct → ⊥) → is_open Stray ≡ is_open (symbol language token)
unfolding is_open symbol Plain
outside-open language token h =
    sym (outside language token.kind token.text h is_open (record { number = λ n u. refl; operator = λ o. refl; exclamation = refl; tilde = refl; wide = refl; stray = refl }))

pub outside-close : (language : Language) (token : Token) → (token.kind ≡ kinds.Punct → ⊥) → is_close Stray ≡ is_close (symbol language token)
unfolding is_close symbol Plain
outside-close language token h =
    sym (outside language token.kind token.text h is_close (record { number = λ n u. refl; operator = λ o. refl; exclamation = refl; tilde = refl; wide = refl; stray = refl }))

pub outside-question : (language : Language) (token : Token) → (token.kind ≡ kinds.Punct → ⊥) → is_question Stray ≡ is_question (symbol language token)
unfolding is_question symbol Plain
outside-question language token h =
    sym (outside language token.kind token.text h is_question (record { number = λ n u. refl; operator = λ o. refl; exclamation = refl; tilde = refl; wide = refl; stray = refl }))
