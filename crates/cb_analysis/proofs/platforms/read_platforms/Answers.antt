use Rattle.std.proofs.Common.{◌<◌, ◌≤◌, length}
use Rattle.toml.specs.View.{view, table_view}
use Rattle.cb_analysis.proofs.Entries.{platforms_pass, platforms_too_many, platforms_in, positive}
use Rattle.cb_analysis.proofs.platforms.read_platforms.Goals as goal

pub returns-then-len-gt-PLATFORM_LIMIT-clause-bad : goal.returns-then-len-gt-PLATFORM_LIMIT-clause-bad
returns-then-len-gt-PLATFORM_LIMIT-clause-bad c =
    let entries = c.in-Some-as_table.entries.now.entries in
    let many : 32 < length entries = rw c.len.ensures.len at c.if-len-gt-PLATFORM_LIMIT.true in
    rw (platforms_too_many (table_view c.args.table.now) (view c.in-Some.value.now) entries c.in-Some.ensures c.in-Some-as_table.ensures many)
    c.bad-then-len-gt-PLATFORM_LIMIT.ensures

pub returns-clause-fine : goal.returns-clause-fine
returns-clause-fine c =
    let entries = c.in-Some-as_table.entries.now.entries in
    let few : length entries ≤ 32 = rw c.len.ensures.len at c.if-len-gt-PLATFORM_LIMIT.false in
    rw (platforms_pass (table_view c.args.table.now) (view c.in-Some.value.now) entries c.in-Some.ensures c.in-Some-as_table.ensures
    (positive (length entries) c.if-is_empty.ensures.1) few) c.read_entries.ensures.fine

pub returns-clause-bad : goal.returns-clause-bad
returns-clause-bad c =
    let entries = c.in-Some-as_table.entries.now.entries in
    let few : length entries ≤ 32 = rw c.len.ensures.len at c.if-len-gt-PLATFORM_LIMIT.false in
    rw (platforms_pass (table_view c.args.table.now) (view c.in-Some.value.now) entries c.in-Some.ensures c.in-Some-as_table.ensures
    (positive (length entries) c.if-is_empty.ensures.1) few) c.read_entries.ensures.bad

pub returns-clause-platforms : goal.returns-clause-platforms
returns-clause-platforms c =
    rw (← platforms_in (table_view c.args.table.now) (view c.in-Some.value.now) c.in-Some-as_table.entries.now.entries c.in-Some.ensures c.in-Some-as_table.ensures) c.read_entries.ensures.platforms
