use Rattle.std.proofs.Common.{sym}
use Rattle.toml.specs.View.{view}
use Rattle.cb_analysis.proofs.Entries.{no_path, bad_path}
use Rattle.cb_analysis.proofs.platforms.read_commands.Goals as goal

pub returns-in-Err-Bad-clause-bad : goal.returns-in-Err-Bad-clause-bad
returns-in-Err-Bad-clause-bad c =
    bad_path c.args.name.now c.in-Some-as_str.text.now (view c.args.value.now) (view c.in-Some.commands.now) _
    (sym c.if-not-is_name.ensures) (sym c.if-not-is_table.ensures) c.in-Some.ensures c.in-Some-as_str.ensures
    (no_path _ c.in-Err-Bad.field-0-0 (rw (← c.as_bytes.ensures.value) (rw c.in-Err-Bad.field-0-is at c.in-Err-Bad.ensures.bad)))
    c.bad_platform-in-Err-Bad.ensures
