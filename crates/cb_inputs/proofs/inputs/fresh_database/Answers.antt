use Rattle.std.proofs.Common.{ap, arith, inr, Err, subst, refl}
use Rattle.cb_compdb.specs.Databases.{IsDatabase}
use Rattle.cb_inputs.specs.declared.database.Database.{Database}
use Rattle.cb_inputs.specs.declared.refused.Refused.TheVariants.{Body}
use Rattle.cb_inputs.specs.inner.Kept.{inputs_of, known_of}
use Rattle.std.specs.BTreeMap.{insert_entry}
use Rattle.std.specs.Ordering.{nat_cmp}
use Rattle.std.specs.Cmp.Lexicographic.{slice_cmp}
use Rattle.cb_outside.specs.Tables.{put}
use Rattle.cb_inputs.specs.Databases.{database_texts}
use Rattle.cb_inputs.proofs.Maps.{read_inserted}
use Rattle.cb_inputs.proofs.DatabasePuts.{both_within, not_ready, accepts, too_many, mine}
use Rattle.cb_inputs.proofs.inputs.fresh_database.Goals as goal

pub returns-in-Err-clause-cause : goal.returns-in-Err-clause-cause
returns-in-Err-clause-cause c =
    let i = inputs_of c.args.analysis.now c.args.databases.now c.args.sources.now c.args.measurements.now in
    let ours = known_of c.args.analysis.now c.args.databases.now c.args.sources.now c.args.measurements.now in
    not_ready i ours c.are_read.ensures.known c.are_read.ensures.few c.args.path.now c.args.bytes.now c.in-Err.refused c.in-Err.ensures.cause
    (λ name n e. c.in-Err.ensures.before_limits name n (ap Err e))

pub returns-then-count-most-clause-cause : goal.returns-then-count-most-clause-cause
returns-then-count-most-clause-cause c =
    let i = inputs_of c.args.analysis.now c.args.databases.now c.args.sources.now c.args.measurements.now in
    let ours = known_of c.args.analysis.now c.args.databases.now c.args.sources.now c.args.measurements.now in
    let database = c.in-Ok.fresh.database in
    let within = both_within (put c.args.path.now c.args.bytes.now (database_texts c.args.databases.now)) c.in-Ok.ensures.few c.in-Ok.ensures.within in
    let counted = c.command_count_with-count.ensures (mine i ours c.are_read.ensures.known c.are_read.ensures.few c.args.path.now c.args.bytes.now database.entries) c.contents.ensures (read_inserted (λ (d : Database). d.entries) c.args.databases.now c.args.path.now database) in
    inr (too_many i ours c.are_read.ensures.known c.are_read.ensures.few c.args.path.now c.args.bytes.now within (λ fault h. c.in-Ok.ensures.sound (Body fault) h)
    database.entries (subst (λ b. IsDatabase b database.entries) c.in-Ok.ensures.same_bytes c.in-Ok.ensures.read.says)
    c.command_count_with-count.result counted (omega (arith, c.if-count-most.true, c.most.ensures)))

pub returns-clause-commands : goal.returns-clause-commands
returns-clause-commands c =
    let counted = c.command_count_with-count.ensures (known_of c.args.analysis.now (insert_entry (slice_cmp nat_cmp) c.args.databases.now c.args.path.now c.in-Ok.fresh.database) c.args.sources.now c.args.measurements.now) c.contents.ensures refl in
    omega (arith, counted, c.if-count-most.false, c.most.ensures)

pub returns-clause-good : goal.returns-clause-good
returns-clause-good c =
    let i = inputs_of c.args.analysis.now c.args.databases.now c.args.sources.now c.args.measurements.now in
    let ours = known_of c.args.analysis.now c.args.databases.now c.args.sources.now c.args.measurements.now in
    let database = c.in-Ok.fresh.database in
    let within = both_within (put c.args.path.now c.args.bytes.now (database_texts c.args.databases.now)) c.in-Ok.ensures.few c.in-Ok.ensures.within in
    let counted = c.command_count_with-count.ensures (mine i ours c.are_read.ensures.known c.are_read.ensures.few c.args.path.now c.args.bytes.now database.entries) c.contents.ensures (read_inserted (λ (d : Database). d.entries) c.args.databases.now c.args.path.now database) in
    accepts i ours c.are_read.ensures.known c.are_read.ensures.few c.args.path.now c.args.bytes.now within (λ fault h. c.in-Ok.ensures.sound (Body fault) h)
    database.entries (subst (λ b. IsDatabase b database.entries) c.in-Ok.ensures.same_bytes c.in-Ok.ensures.read.says)
    (omega (arith, counted, c.if-count-most.false, c.most.ensures))
