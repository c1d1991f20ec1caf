use Rattle.std.proofs.Common.{refl}
use Rattle.cb_lines.specs.Marks.{bytes_of}
use Rattle.cb_tokens.specs.declared.token.TokenKind.TheVariants as token
use Rattle.cb_tree.proofs.HashTokens.{hash_bytes}
use Rattle.cb_tree.proofs.Runs.{run_ends_at}
use Rattle.cb_tree.proofs.run.read_on.Goals as goal

pub returns-then-ends_run-clause-reads : goal.returns-then-ends_run-clause-reads
returns-then-ends_run-clause-reads c = λ ms run.
    let walk = c.args.walk.now in
    let ends = rw c.rest.ensures at c.if-ends_run.ensures refl in
    run_ends_at ms c.args.place c.args.known walk token.Punct 1 ends.2 ends.0 (hash_bytes (bytes_of walk) ends.1) run
