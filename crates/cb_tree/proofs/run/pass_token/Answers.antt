use Rattle.std.proofs.Common.{ap, ◌∙◌}
use Rattle.cb_tree.specs.Kinds.{is_hash_text}
use Rattle.cb_tree.proofs.Pieces.{shorter, within}
use Rattle.cb_tokens.specs.declared.token.PieceKind.TheVariants as kinds
use Rattle.cb_tree.proofs.Runs.{run_ends_at, run_any_token, front_bytes, kept_few}
use Rattle.cb_tree.proofs.run.pass_token.Goals as goal

pub returns-then-ends_before-clause-goes : goal.returns-then-ends_before-clause-goes
returns-then-ends_before-clause-goes c = λ ms run.
    run_ends_at ms c.args.place c.args.counted.now c.args.walk.now c.args.token.kind c.args.token.len c.requires c.if-ends_before.ensures.ends
    (ap is_hash_text (front_bytes c.args.token.len c.rest.result.now _ c.rest.ensures) ∙ c.if-ends_before.ensures.hash) run

pub returns-clause-goes : goal.returns-clause-goes
returns-clause-goes c = λ ms run.
    rw (c.in_ok-pass_counted.ensures.passed, c.in_ok-pass_counted.ensures.counted)
    (run_any_token ms c.args.place c.args.counted.now c.args.walk.now c.args.token.kind c.args.token.len c.requires
    (λ e. ap is_hash_text (front_bytes c.args.token.len c.rest.result.now _ c.rest.ensures) ∙ c.if-ends_before.ensures.goes e) run)

pub returns-clause-shorter : goal.returns-clause-shorter
returns-clause-shorter c =
    rw c.in_ok-pass_counted.ensures.passed (shorter c.args.walk.now (kinds.Token c.args.token.kind) c.args.token.len c.requires)

pub returns-clause-few : goal.returns-clause-few
returns-clause-few c =
    rw (c.in_ok-pass_counted.ensures.passed, c.in_ok-pass_counted.ensures.counted)
    (kept_few c.args.token.len c.args.walk.now c.args.counted.now (within c.args.walk.now (kinds.Token c.args.token.kind) c.args.token.len c.requires))
