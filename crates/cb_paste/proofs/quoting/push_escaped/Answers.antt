use Rattle.std.proofs.Common.{◌++◌, ◌∷◌, [], get_or, sym, ◌∙◌, ap}
use Rattle.std.proofs.lemmas.List.{append-nil}
use Rattle.cb_paste.specs.Strings.{escaped}
use Rattle.cb_paste.proofs.Spelling.{escaped_more}
use Rattle.cb_paste.proofs.quoting.push_escaped.Goals as goal

pub bytes-init : goal.bytes-init
unfolding escaped
bytes-init c = sym (append-nil c.args.text.now.items)

pub bytes-preserved : goal.bytes-preserved
bytes-preserved c =
    c.in_ok-push_escaped_byte.ensures
    ∙ (ap (λ l. l ++ escaped (get_or c.args.bytes.now c.bytes.byte-index 0 ∷ [])) c.bytes.invariant
    ∙ escaped_more c.args.text.now.items c.args.bytes.now c.bytes.byte-index c.bytes-test.true)
