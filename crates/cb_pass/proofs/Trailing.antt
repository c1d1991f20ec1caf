-- What a pass found, after a note more.
use Rattle.std.proofs.Common.{◌≡◌, ℕ, List, refl, subst}
use Rattle.cb_pass.specs.declared.note.NoteKind.{NoteKind}
use Rattle.cb_pass.specs.Notes.{Place}
use Rattle.cb_paths.specs.declared.language.Language.{Language}
use Rattle.cb_include.specs.declared.op.Op.{Op}
use Rattle.cb_pass.specs.Answers.{Answer, Word, IsAnswered}
use Rattle.cb_pass.specs.States.{Frame, Waiting, State}
use Rattle.cb_pass.specs.Steps.{with_note, answered, word_of}
use Rattle.cb_pass.specs.inner.Memos.{Memo, with_memo}
use Rattle.cb_pass.specs.inner.Trails.{Findings, state_of}
use Rattle.cb_pass.specs.inner.Moves.{IsNoted}

pub noted : (old : Findings) (m n : Memo) (rows : List (List ℕ)) (count : ℕ) (probes : List (List ℕ)) (place : Place) (kind : NoteKind) (detail : List ℕ)
    → (let t : Findings = record { memo = m; rows = rows; count = count; probes = probes } in t ≡ old)
    → ((s : State) → with_memo n s ≡ with_note place kind detail (with_memo m s))
    → let t : Findings = record { memo = n; rows = rows; count = count; probes = probes } in IsNoted old t place kind detail
noted old m n rows count probes place kind detail e h =
    let new : Findings = record { memo = n; rows = rows; count = count; probes = probes } in
    subst (λ (t : Findings). IsNoted t new place kind detail) e ((λ fs waiting. h (state_of new fs waiting)), refl, refl)

-- a note at a place, by its parts
pub noted_there : (old new : Findings) (path p : List ℕ) (node n : ℕ) (kind : NoteKind) (detail : List ℕ) → p ≡ path → n ≡ node
    → IsNoted old new (record { path = p; node = n }) kind detail → IsNoted old new (record { path = path; node = node }) kind detail
noted_there old new path p node n kind detail e f h =
    subst (λ (q : List ℕ). IsNoted old new (record { path = q; node = node }) kind detail) e
    (subst (λ (m : ℕ). IsNoted old new (record { path = p; node = m }) kind detail) f h)

-- a word was taken
pub worded : (old : Findings) (m n : Memo) (rows : List (List ℕ)) (count : ℕ) (probes : List (List ℕ)) (place : Place) (op : Op)
    → (let t : Findings = record { memo = m; rows = rows; count = count; probes = probes } in t ≡ old)
    → ((language : Language) → (answer : Answer) × IsAnswered language m.macros (Word op) answer
    × ((s : State) → with_memo n s ≡ answered place (word_of op) answer (with_memo m s)))
    → (language : Language) → (answer : Answer) × IsAnswered language old.memo.macros (Word op) answer
    × ((fs : List Frame) (waiting : List Waiting)
    → state_of (record { memo = n; rows = rows; count = count; probes = probes }) fs waiting ≡ answered place (word_of op) answer (state_of old fs waiting))
    × (probes ≡ old.probes)
worded old m n rows count probes place op e h = λ language.
    let new : Findings = record { memo = n; rows = rows; count = count; probes = probes } in
    let k = h language in
    subst (λ (t : Findings). (answer : Answer) × IsAnswered language t.memo.macros (Word op) answer
    × ((fs : List Frame) (waiting : List Waiting) → state_of new fs waiting ≡ answered place (word_of op) answer (state_of t fs waiting))
    × (probes ≡ t.probes)) e (k.0, k.1, (λ fs waiting. k.2 (state_of new fs waiting)), refl)
