use Rattle.std.proofs.Common.{◌∙◌, refl, sym, ap, length, [], Err}
use Rattle.cb_outside.specs.Tables.{Texts, put}
use Rattle.cb_inputs.specs.Texts.{bytes_in, database_amounts}
use Rattle.cb_inputs.specs.Databases.{database_texts}
use Rattle.cb_inputs.specs.Refusals.{IsDatabaseFault}
use Rattle.cb_inputs.proofs.Denials.{no_limit, body_decides, limit_decides, none_denied}
use Rattle.cb_inputs.proofs.databases.Databases.fresh.Goals as goal

pub returns-in-Err-clause-cause : goal.returns-in-Err-clause-cause
returns-in-Err-clause-cause c = c.in-Err.ensures.cause (database_amounts (put c.args.path.now c.args.bytes.now (database_texts c.args.self.now)))

pub returns-in-Err-clause-only : goal.returns-in-Err-clause-only
returns-in-Err-clause-only c =
    body_decides (IsDatabaseFault c.args.bytes.now) (database_amounts (put c.args.path.now c.args.bytes.now (database_texts c.args.self.now))) c.in-Err.refused (c.in-Err.ensures.cause []) c.in-Err.ensures.only

pub returns-in-Some-clause-only : goal.returns-in-Some-clause-only
returns-in-Some-clause-only c =
    let texts : Texts = put c.args.path.now c.args.bytes.now (database_texts c.args.self.now) in
    let count = c.sizes_with-sizes.ensures.count ∙ ap (λ es. length (put c.args.path.now c.args.bytes.now (database_texts es))) c.self.view_is in
    let bytes = c.sizes_with-sizes.ensures.bytes ∙ ap (λ es. bytes_in (put c.args.path.now c.args.bytes.now (database_texts es))) c.self.view_is in
    limit_decides (IsDatabaseFault c.args.bytes.now) (database_amounts texts) c.in-Ok.ensures.sound c.in-Some.name c.in-Some.amount (sym (c.in-Some.ensures.first texts count bytes))

pub returns-in-Ok-copy-clause-sound : goal.returns-in-Ok-copy-clause-sound
returns-in-Ok-copy-clause-sound c =
    let texts : Texts = put c.args.path.now c.args.bytes.now (database_texts c.args.self.now) in
    let count = c.sizes_with-sizes.ensures.count ∙ ap (λ es. length (put c.args.path.now c.args.bytes.now (database_texts es))) c.self.view_is in
    let bytes = c.sizes_with-sizes.ensures.bytes ∙ ap (λ es. bytes_in (put c.args.path.now c.args.bytes.now (database_texts es))) c.self.view_is in
    none_denied (IsDatabaseFault c.args.bytes.now) (database_amounts texts) c.in-Ok.ensures.sound (sym (c.in-None.ensures.first texts count bytes))

pub returns-in-Err-clause-before_limits : goal.returns-in-Err-clause-before_limits
returns-in-Err-clause-before_limits c = λ name n e.
    absurd (no_limit (IsDatabaseFault c.args.bytes.now) [] (Err c.in-Err.refused) c.in-Err.refused refl (c.in-Err.ensures.cause []) name n e)
