use Rattle.std.proofs.Common.{◌≡◌, [], ◌∷◌, ◌∙◌}
use Rattle.std.proofs.lemmas.Result.{err_from_is_err_and}
use Rattle.cb_tree.specs.Kinds.{kind_behind_hash}
use Rattle.cb_tree.specs.inner.Heads.{hash_token}
use Rattle.cb_tree.proofs.Heads.{own_part}
use Rattle.cb_tree.proofs.Directives.{line_tokens_are}
use Rattle.cb_tree.proofs.directive.read_behind_hash.Goals as goal

pub returns-clause-reads : goal.returns-clause-reads
returns-clause-reads c = λ ms line.
    let g = c.in_ok-read_behind.ensures.goes in
    let from_is = c.len-from.ensures ∙ c.args.tokens.now.ok.0 in
    let to_is = c.len-to.ensures ∙ c.read_behind.new.tokens.ok.0 in
    let part_is = own_part c.read_behind.new.tokens.items c.args.tokens.now.items g.kept c.len-to.result c.len-from.result g.added from_is to_is in
    let kind_is : c.kind_behind_hash-kind.result ≡ kind_behind_hash g.kept = rw (c.part-kept.ensures, c.as_slice.ensures.value, part_is) at c.kind_behind_hash-kind.ensures in (
      hash_token c.args.hash ∷ g.kept,
      record { kept = g.kept; added = g.added; to_is = to_is; own_is = rw kind_is (line_tokens_are c.args.hash g.kept) },
      rw kind_is (g.goes ms (hash_token c.args.hash ∷ []) line),
    )

pub returns-in_err-read_behind-clause-tells : goal.returns-in_err-read_behind-clause-tells
returns-in_err-read_behind-clause-tells c =
    let p = err_from_is_err_and c.from_residual.result c.from_residual.ensures.1 in
    rw (p.1, p.2) (λ ms line. c.in_err-read_behind.ensures.tells (hash_token c.args.hash ∷ []) ms line)
