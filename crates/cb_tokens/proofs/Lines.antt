-- Logical lines, one after another.
use Rattle.std.proofs.Common.{◌≡◌, ℕ, List, [], ◌∷◌, ◌++◌, map, sym, refl, ap, ◌∙◌, subst, append_assoc}
use Rattle.std.proofs.lemmas.List.{append-nil}
use Rattle.cb_lines.specs.declared.mark.Mark.{Mark}
use Rattle.cb_tokens.specs.declared.token.Token.{Token}
use Rattle.cb_tokens.specs.declared.lexed.LogicalLine.{LogicalLine}
use Rattle.cb_tokens.specs.Cut.{Piece, HasOpenComment}
use Rattle.cb_tokens.specs.Logical.{Line, line_of, line_tokens, counted_lines, AreLinesOf}
use Rattle.cb_tokens.specs.inner.LineCuts.{BeginsWithLine}

-- a line as contracts see it
abbrev pub seen : LogicalLine → Line
seen line = record { tokens = line.tokens.items; counted = line.counted }

-- the lines so far go on to the lines of the marks
pub record LinesTo (ms : List Mark) (lines : List Line) (rest : List Mark) : Type 0 where
  pub go_on : (ls : List Line) → AreLinesOf rest ls → AreLinesOf ms (lines ++ ls)
  pub stays_open : (line : ℕ) → HasOpenComment rest line → HasOpenComment ms line

pub lines_none : (ms : List Mark) → LinesTo ms [] ms
lines_none ms = record { go_on = λ ls h. h; stays_open = λ line h. h }

line_is : (tokens : List Token) (counted : List ℕ) (part : List Piece) → tokens ≡ line_tokens part → counted ≡ counted_lines part → line_of part ≡ record { tokens = tokens; counted = counted }
line_is tokens counted part t c = cc

one_more : (rest next : List Mark) (part : List Piece) (line : Line) (ls : List Line) → BeginsWithLine rest part next → line_of part ≡ line → AreLinesOf next ls → AreLinesOf rest (line ∷ ls)
one_more rest next part line ls b e (ps, cut, are) =
    let c = b.cut ps cut in
    (c.0, c.1, ap (λ l. l ∷ ls) (sym e) ∙ ap (λ k. line_of part ∷ k) are ∙ ap (map line_of) (sym c.2))

pub lines_more : (ms rest next : List Mark) (lines : List Line) (tokens : List Token) (counted : List ℕ) → LinesTo ms lines rest → (part : List Piece) × BeginsWithLine rest part next × (tokens ≡ line_tokens part) × (counted ≡ counted_lines part)
    → LinesTo ms (lines ++ record { tokens = tokens; counted = counted } ∷ []) next
lines_more ms rest next lines tokens counted l (part, b, t, c) =
    let line : Line = record { tokens = tokens; counted = counted } in
    record {
      go_on = λ ls h. subst (AreLinesOf ms) (sym (append_assoc lines (line ∷ []) ls)) (l.go_on (line ∷ ls) (one_more rest next part line ls b (line_is tokens counted part t c) h));
      stays_open = λ n h. l.stays_open n (b.open_comment n h);
    }

no_lines : AreLinesOf [] []
no_lines = ([], refl, refl)

pub lines_all : (ms rest : List Mark) (lines : List Line) → LinesTo ms lines rest → rest ≡ [] → AreLinesOf ms lines
lines_all ms rest lines l e = subst (AreLinesOf ms) (append-nil lines) (l.go_on [] (subst (λ v. AreLinesOf v []) (sym e) no_lines))
