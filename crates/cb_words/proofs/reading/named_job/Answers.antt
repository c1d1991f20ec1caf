use Rattle.std.proofs.Common.{map, string_bytes, Ok, sym, ◌∙◌}
use Rattle.cb_words.specs.Says.{specialise}
use Rattle.cb_words.proofs.Sayings.{other_job, other_bad, specialise_bad}
use Rattle.cb_words.proofs.reading.named_job.Goals as goal

pub returns-then-not-is_specialise-clause-job : goal.returns-then-not-is_specialise-clause-job
returns-then-not-is_specialise-clause-job c =
    other_job c.args.here.now c.args.command.now (map string_bytes c.args.words.now) c.command_job.result (sym c.is_specialise.ensures ∙ c.if-not-is_specialise.true) c.command_job.ensures.job

pub returns-then-not-is_specialise-clause-bad : goal.returns-then-not-is_specialise-clause-bad
returns-then-not-is_specialise-clause-bad c =
    other_bad c.args.here.now c.args.command.now (map string_bytes c.args.words.now) c.command_job.result (sym c.is_specialise.ensures ∙ c.if-not-is_specialise.true) c.command_job.ensures.bad

pub returns-in-Ok-clause-job : goal.returns-in-Ok-clause-job
returns-in-Ok-clause-job c =
    specialise c.args.command.now (map string_bytes c.args.words.now) (Ok c.in-Ok.words) (sym c.is_specialise.ensures ∙ c.if-not-is_specialise.false) c.in-Ok.ensures.words

pub returns-in-Err-clause-bad : goal.returns-in-Err-clause-bad
returns-in-Err-clause-bad c =
    specialise_bad c.args.here.now c.args.command.now (map string_bytes c.args.words.now) c.in-Err.fault (sym c.is_specialise.ensures ∙ c.if-not-is_specialise.false) c.in-Err.ensures.bad
