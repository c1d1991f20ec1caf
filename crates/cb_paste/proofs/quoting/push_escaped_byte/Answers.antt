use Rattle.std.proofs.Common.{◌++◌, ◌∷◌, [], sym, ◌∙◌, ap}
use Rattle.cb_paste.specs.Strings.{escaped}
use Rattle.cb_paste.proofs.Spelling.{escaped_quote, escaped_backslash, escaped_other}
use Rattle.cb_paste.proofs.quoting.push_escaped_byte.Goals as goal

pub returns-then-byte-eq34 : goal.returns-then-byte-eq34
returns-then-byte-eq34 c =
    c.in_ok-extend_from_slice.ensures.items
    ∙ ap (λ l. c.args.text.now.items ++ l) (sym (ap (λ b. escaped (b ∷ [])) c.if-byte-eq34.true ∙ escaped_quote))

pub returns-then-byte-eq92 : goal.returns-then-byte-eq92
returns-then-byte-eq92 c =
    c.in_ok-extend_from_slice-2.ensures.items
    ∙ ap (λ l. c.args.text.now.items ++ l) (sym (ap (λ b. escaped (b ∷ [])) c.if-byte-eq92.true ∙ escaped_backslash))

pub returns : goal.returns
returns c =
    c.in_ok-push.ensures.items
    ∙ ap (λ l. c.args.text.now.items ++ l) (sym (escaped_other c.args.byte c.if-byte-eq34.false c.if-byte-eq92.false))
