use Rattle.std.proofs.Common.{ℕ, List, map, ap, subst, arith, refl, Err, Option}
use Rattle.std.specs.String.{string_bytes}
use Rattle.std.proofs.lemmas.Result.{IfOk-weaker}
use Rattle.codebasin.specs.Texts.{usage_text, read_text}
use Rattle.codebasin.specs.Words.{Specialise, Asks, AsksNothing}
use Rattle.codebasin.specs.inner.Answers.{Answers}
use Rattle.codebasin.specs.inner.Said.{said_bytes}
use Rattle.codebasin.specs.Run.{World, Stream, Says, ReadsAll, usage, unread}
use Rattle.codebasin.proofs.AnswerParts.{from_parts}
use Rattle.codebasin.proofs.Statuses.{says_answer, answer_status_not_one}
use Rattle.codebasin.proofs.running.reply.Goals as goal

-- a world with this input
abbrev world : Option (List ℕ) → ℕ → Stream → World
world bytes faults output = record { input = record { bytes = bytes; faults = faults }; output = output }

pub returns-in_default-clause-says : goal.returns-in_default-clause-says
returns-in_default-clause-says g c = λ o p.
    let arguments = map string_bytes c.args.arguments.now in
    let left = g.R.Source.left c.args.input.now in
    let faults = g.R.Source.faults c.args.input.now in
    let nothing : AsksNothing arguments = rw c.in_default.is at c.in_ok-words.ensures in
    from_parts (Says arguments (world left faults o) (world left faults p)) 1 _ usage_text _ c.fixed.ensures.status c.fixed.ensures.text (usage nothing refl)

pub returns-in-Ok-clause-says : goal.returns-in-Ok-clause-says
returns-in-Ok-clause-says g c = λ o p.
    let arguments = map string_bytes c.args.arguments.now in
    let words = c.in-Some.words.items in
    let source = c.in-Ok.source in
    let old = world (g.R.Source.left c.args.input.now) (g.R.Source.faults c.args.input.now) o in
    let new = world (g.R.Source.left c.take_up_to.new.source) (g.R.Source.faults c.take_up_to.new.source) p in
    let asks : Asks arguments (Specialise words) = rw c.in-Some.is at c.in_ok-words.ensures in
    let reads : ReadsAll old new source.items = record { consumed = c.in-Ok.ensures.content; front = c.in-Ok.ensures.first; kept = c.in-Ok.ensures.kept } in
    IfOk-weaker c.answer_source.result _ _
    (λ a says.
    let P : List ℕ → Type 0 = λ bytes. Answers words bytes a.status (said_bytes a.text) in
    says_answer arguments words old new source.items a.status (said_bytes a.text) asks reads (subst P c.as_slice.ensures.value says))
    c.answer_source.ensures

pub returns-in-Ok-clause-refused : goal.returns-in-Ok-clause-refused
returns-in-Ok-clause-refused g c =
    IfOk-weaker c.answer_source.result _ _
    (λ a says is_one. absurd (answer_status_not_one c.in-Some.words.items c.as_slice.result.now a.status (said_bytes a.text) says is_one))
    c.answer_source.ensures

pub returns-in-Err-Failed-clause-says : goal.returns-in-Err-Failed-clause-says
returns-in-Err-Failed-clause-says g c = λ o p.
    let arguments = map string_bytes c.args.arguments.now in
    let words = c.in-Some.words.items in
    let old = world (g.R.Source.left c.args.input.now) (g.R.Source.faults c.args.input.now) o in
    let new = world (g.R.Source.left c.take_up_to.new.source) (g.R.Source.faults c.take_up_to.new.source) p in
    let asks : Asks arguments (Specialise words) = rw c.in-Some.is at c.in_ok-words.ensures in
    let is = ap Err c.in-Err-Failed.field-0-is in
    let lost = c.in-Err-Failed.ensures.lost is in
    from_parts (Says arguments old new) 4 _ read_text _ c.fixed-in-Err-Failed.ensures.status c.fixed-in-Err-Failed.ensures.text
    (unread words asks (record { lost = lost.0; within = let few = lost.1 in omega arith; consumed = lost.2; rose = c.in-Err-Failed.ensures.failed is }))
