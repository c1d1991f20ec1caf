use Rattle.std.proofs.Common.{◌∙◌, ap, codes}
use Rattle.std.proofs.lemmas.Result.{err_from_is_err_and}
use Rattle.toml.specs.View.{table_view}
use Rattle.cb_analysis.specs.Tables.{at_key}
use Rattle.cb_analysis.proofs.Files.{in_platforms, in_codebase, in_root, in_exclude, in_skip, without_fault}
use Rattle.cb_analysis.proofs.reading.read_table.Goals as goal

pub returns-in_err-platforms-clause-bad : goal.returns-in_err-platforms-clause-bad
returns-in_err-platforms-clause-bad c =
    let p = err_from_is_err_and c.from_residual.result c.from_residual.ensures.1 in
    rw (p.1, p.2) (in_platforms (table_view c.args.table.now) _ c.in_err-platforms.ensures.bad)

pub returns-in_err-codebase-clause-bad : goal.returns-in_err-codebase-clause-bad
returns-in_err-codebase-clause-bad c =
    let p = err_from_is_err_and c.from_residual-in_err-codebase.result c.from_residual-in_err-codebase.ensures.1 in
    rw (p.1, p.2) (in_codebase (table_view c.args.table.now) _ c.in_ok-platforms.ensures.fine c.in_err-codebase.ensures.bad)

pub returns-in_err-root-clause-bad : goal.returns-in_err-root-clause-bad
returns-in_err-root-clause-bad c =
    let p = err_from_is_err_and c.from_residual-in_err-root.result c.from_residual-in_err-root.ensures.1 in
    rw (p.1, p.2)
    (in_root (table_view c.args.table.now) _ _ (c.in_codebase.ensures ∙ ap (at_key (codes "root")) c.in_ok-codebase.ensures.table)
    c.in_ok-platforms.ensures.fine c.in_ok-codebase.ensures.fine c.in_err-root.ensures.bad)

pub returns-in_err-exclude-clause-bad : goal.returns-in_err-exclude-clause-bad
returns-in_err-exclude-clause-bad c =
    let p = err_from_is_err_and c.from_residual-in_err-exclude.result c.from_residual-in_err-exclude.ensures.1 in
    rw (p.1, p.2)
    (in_exclude (table_view c.args.table.now) _ _ _ (c.in_codebase.ensures ∙ ap (at_key (codes "root")) c.in_ok-codebase.ensures.table)
    (c.in_codebase-2.ensures ∙ ap (at_key (codes "exclude")) c.in_ok-codebase.ensures.table)
    c.in_ok-platforms.ensures.fine c.in_ok-codebase.ensures.fine c.in_ok-root.ensures.fine c.in_err-exclude.ensures.bad)

pub returns-in_err-skip-clause-bad : goal.returns-in_err-skip-clause-bad
returns-in_err-skip-clause-bad c =
    let p = err_from_is_err_and c.from_residual-in_err-skip.result c.from_residual-in_err-skip.ensures.1 in
    rw (p.1, p.2)
    (in_skip (table_view c.args.table.now) _ _ _ _ (c.in_codebase.ensures ∙ ap (at_key (codes "root")) c.in_ok-codebase.ensures.table)
    (c.in_codebase-2.ensures ∙ ap (at_key (codes "exclude")) c.in_ok-codebase.ensures.table)
    (c.in_codebase-3.ensures ∙ ap (at_key (codes "skip")) c.in_ok-codebase.ensures.table)
    c.in_ok-platforms.ensures.fine c.in_ok-codebase.ensures.fine c.in_ok-root.ensures.fine c.in_ok-exclude.ensures.fine c.in_err-skip.ensures.bad)

pub returns-clause-contents : goal.returns-clause-contents
returns-clause-contents c =
    without_fault (table_view c.args.table.now) _ _ _ _ (c.in_codebase.ensures ∙ ap (at_key (codes "root")) c.in_ok-codebase.ensures.table)
    (c.in_codebase-2.ensures ∙ ap (at_key (codes "exclude")) c.in_ok-codebase.ensures.table)
    (c.in_codebase-3.ensures ∙ ap (at_key (codes "skip")) c.in_ok-codebase.ensures.table)
    c.in_ok-platforms.ensures.fine c.in_ok-codebase.ensures.fine c.in_ok-root.ensures.fine c.in_ok-exclude.ensures.fine c.in_ok-skip.ensures.fine
    c.in_ok-platforms.ensures.platforms c.in_ok-root.ensures.root c.in_ok-exclude.ensures.patterns c.in_ok-skip.ensures.patterns
