use Rattle.std.proofs.Common.{◌≡◌, length, take, sym, ◌∙◌, ap, arith}
use Rattle.std.proofs.lemmas.List.{take-append-le, take_all}
use Rattle.cb_expand.proofs.Keeping.{row_take, row_is}
use Rattle.cb_expand.proofs.row.Row.pop.Goals as goal

pub returns-clause-kept : goal.returns-clause-kept
returns-clause-kept c =
    let s = c.args.self.now in
    let ts = c.take_last-token.new.self.items in
    let e = c.take_last-token.ensures.items in
    let n : c.len.result ≡ length ts = omega (arith, c.len.ensures, c.take_last-token.new.self.ok.0) in
    let t : take (length ts) s.tokens.items ≡ ts = ap (take (length ts)) e ∙ (take-append-le (length ts) ts _ (omega arith) ∙ take_all (length ts) ts (omega arith)) in
    row_is _ _ _ _ t (sym (c.truncate.ensures.items ∙ ap (λ n. take n s.ends.items) n)) (row_take s.tokens.items s.ends.items (length ts) c.requires.kept)
