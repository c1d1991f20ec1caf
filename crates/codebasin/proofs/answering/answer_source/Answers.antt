use Rattle.std.proofs.Common.{ℕ, ◌≤◌, length, Err, ap, sym, subst, ◌∙◌, arith}
use Rattle.std.proofs.lemmas.Result.{IfOk-weaker}
use Rattle.codebasin.specs.Texts.{limit_text, malformed_text}
use Rattle.codebasin.specs.inner.Answers.{Answers, too_long, unsound, sound}
use Rattle.codebasin.specs.inner.Said.{said_bytes}
use Rattle.codebasin.proofs.AnswerParts.{from_parts}
use Rattle.codebasin.proofs.answering.answer_source.Goals as goal

pub returns-then-source-gt-SOURCE_BYTE_LIMIT : goal.returns-then-source-gt-SOURCE_BYTE_LIMIT
returns-then-source-gt-SOURCE_BYTE_LIMIT c =
    from_parts (Answers c.args.words.items c.args.source.now) 3 _ limit_text _ c.fixed.ensures.status c.fixed.ensures.text
    (too_long c.if-source-gt-SOURCE_BYTE_LIMIT.true)

pub returns-in-Ok : goal.returns-in-Ok
returns-in-Ok c =
    IfOk-weaker c.answer_tree.result _ _
    (λ a says.
    let P : ℕ → Type 0 = λ s. Answers c.args.words.items c.args.source.now s (said_bytes a.text) in
    subst P (sym says.0) (sound c.in-Ok.tree (said_bytes a.text) c.in-Ok.ensures.nodes says.1))
    c.answer_tree.ensures

pub returns-in-Err-Bad : goal.returns-in-Err-Bad
returns-in-Err-Bad c =
    let short : length c.args.source.now ≤ 4194304 = omega arith in
    from_parts (Answers c.args.words.items c.args.source.now) 2 _ (malformed_text c.in-Err-Bad.fault) _ c.made.ensures.status
    (c.made.ensures.text ∙ c.in_ok-text-in-Err-Bad.ensures)
    (unsound c.in-Err-Bad.fault short (c.in-Err-Bad.ensures.fault c.in-Err-Bad.fault (ap Err c.in-Err-Bad.field-0-is)))
