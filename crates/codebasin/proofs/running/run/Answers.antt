use Rattle.std.proofs.Common.{ℕ, ◌<◌, List, length, take, subst, refl}
use Rattle.std.specs.Io.KnownBytes.{Appends}
use Rattle.codebasin.specs.Run.{Stream, wrote, cut_off, out_of_memory}
use Rattle.codebasin.specs.inner.Said.{said_bytes}
use Rattle.codebasin.proofs.Statuses.{keeps_itself}
use Rattle.codebasin.proofs.running.run.Goals as goal

pub returns-in-Ok-put_all-clause-ends : goal.returns-in-Ok-put_all-clause-ends
returns-in-Ok-put_all-clause-ends g c =
    let answer = c.in-Ok.answer in
    let old : Stream = record { bytes = g.W.Sink.taken c.args.out.now; faults = g.W.Sink.faults c.args.out.now } in
    let new : Stream = record { bytes = g.W.Sink.taken c.put_all.new.sink; faults = g.W.Sink.faults c.put_all.new.sink } in
    let P : List ℕ → Type 0 = λ text. Appends old.bytes new.bytes text in
    wrote answer.status (said_bytes answer.text) (c.in-Ok.ensures.says old new) (subst P c.as_slice.ensures c.in-Ok-put_all.ensures.ok) c.in-Ok-put_all.ensures.kept

pub returns-in-Ok-clause-ends : goal.returns-in-Ok-clause-ends
returns-in-Ok-clause-ends g c =
    let answer = c.in-Ok.answer in
    let old : Stream = record { bytes = g.W.Sink.taken c.args.out.now; faults = g.W.Sink.faults c.args.out.now } in
    let new : Stream = record { bytes = g.W.Sink.taken c.put_all.new.sink; faults = g.W.Sink.faults c.put_all.new.sink } in
    let failed = c.in-Err-put_all.ensures.failed in
    let P : List ℕ → Type 0 = λ text. Appends old.bytes new.bytes (take failed.0 text) in
    let Q : List ℕ → Type 0 = λ text. failed.0 < length text in
    cut_off answer.status (said_bytes answer.text) failed.0 (c.in-Ok.ensures.says old new)
    (subst Q c.as_slice.ensures failed.1) (subst P c.as_slice.ensures failed.2) c.in-Err-put_all.ensures.rose

pub returns-clause-ends : goal.returns-clause-ends
returns-clause-ends g c = out_of_memory (keeps_itself (g.W.Sink.taken c.args.out.now)) refl c.in-Err.ensures.wants
