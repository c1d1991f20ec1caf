use Rattle.std.proofs.Common.{◌∙◌, sym}
use Rattle.std.proofs.lemmas.Result.{err_from_is_err_and}
use Rattle.serde_json.specs.View.{view}
use Rattle.cb_compdb.proofs.Items.{no_directory, no_file, wrong_by, entry_read}
use Rattle.cb_compdb.proofs.reading.entry_of.Goals as goal

pub returns-in_default-clause-fault : goal.returns-in_default-clause-fault
returns-in_default-clause-fault c =
    (sym c.if-not-is_object.ensures, no_directory (view c.args.value.now) c.in_default.ensures)

pub returns-in_default-text_at-clause-fault : goal.returns-in_default-text_at-clause-fault
returns-in_default-text_at-clause-fault c =
    (sym c.if-not-is_object.ensures, no_file (view c.args.value.now) c.in-Some.directory.now c.in-Some.ensures c.in_default-text_at.ensures)

pub returns-in_err-words-clause-fault : goal.returns-in_err-words-clause-fault
returns-in_err-words-clause-fault c =
    let p = err_from_is_err_and c.from_residual.result c.from_residual.ensures.1 in
    rw (p.1, p.2)
    (wrong_by (view c.args.value.now) c.in-Some.directory.now c.in-Some-text_at.file.now c.in_err-words.field-0.0 (sym c.if-not-is_object.ensures) c.in-Some.ensures c.in-Some-text_at.ensures c.in_err-words.ensures.fault)

pub returns-clause-entry : goal.returns-clause-entry
returns-clause-entry c =
    entry_read (view c.args.value.now) c.in-Some.directory.now c.in-Some-text_at.file.now (record { directory = c.in_ok-directory.directory; file = c.in_ok-file.file; words = c.in_ok-words.words }) c.in-Some.ensures c.in-Some-text_at.ensures
    (c.in_ok-directory.ensures ∙ c.as_bytes.ensures.value) (c.in_ok-file.ensures ∙ c.as_bytes-2.ensures.value) c.in_ok-words.ensures.words
