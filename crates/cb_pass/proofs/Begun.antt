-- The steps from what waits.
use Rattle.std.proofs.Common.{◌≡◌, ℕ, true, false, List, [], ◌∷◌, refl, sym, ap, ◌∙◌, if◌then◌else◌}
use Rattle.std.specs.Prelude.{◌==◌, length, Option, Some, None}
use Rattle.std.proofs.lemmas.Bool.{cond-true, cond-false}
use Rattle.cb_tree.specs.Skeleton.{Bone}
use Rattle.cb_include.specs.declared.command.Command.{Command}
use Rattle.cb_include.specs.declared.op.Op.{Op}
use Rattle.cb_pass.specs.declared.note.NoteKind.TheVariants as note
use Rattle.cb_pass.specs.Headers.{quote_header}
use Rattle.cb_pass.specs.Answers.{Word, Answer, Silent, IsAnswered}
use Rattle.cb_pass.specs.States.{Frame, Waiting, Given, Forced, Main, State}
use Rattle.cb_pass.specs.Steps.{word_of, answered, with_note}
use Rattle.cb_pass.specs.Files.{Files, Request, Stays, Searches, start_of, first_frame, entering, met}
use Rattle.cb_pass.specs.inner.Trails.{Opened, Findings, state_of}
use Rattle.cb_pass.specs.inner.Moves.{Goes, IsMet, IsNoted, with_file}
use Rattle.cb_pass.proofs.Moves.{step_goes}

module _ (files : Files) (command : Command) (old new : Findings) (waiting : List Waiting) where
  -- a word of -D or -U
  pub given : (op : Op) (answer : Answer) → IsAnswered command.language old.memo.macros (Word op) answer
      → ((fs : List Frame) (ws : List Waiting) → state_of new fs ws ≡ answered (start_of command) (word_of op) answer (state_of old fs ws))
      → Goes files command (state_of old [] (Given op ∷ waiting)) (state_of new [] waiting)
  given op answer says does = step_goes files command (state_of old [] (Given op ∷ waiting)) (state_of new [] waiting) refl (answer, says, does [] waiting)

  -- a forced file of no name
  pub forced_none : (text : List ℕ) → (length text == 0) ≡ true → IsNoted old new (start_of command) note.BadInclude []
      → Goes files command (state_of old [] (Forced text ∷ waiting)) (state_of new [] waiting)
  forced_none text e noted =
      let s : State = state_of old [] waiting in
      let stays : (if length text == 0 then Stays else Searches None (start_of command) 0 (quote_header text)) ≡ Stays =
      cond-true (length text == 0) Stays (Searches None (start_of command) 0 (quote_header text)) e in
      step_goes files command (state_of old [] (Forced text ∷ waiting)) (state_of new [] waiting) refl (
        Silent,
        refl,
        noted.0 [] waiting
            ∙ (sym (cond-true (length text == 0) (with_note (start_of command) note.BadInclude [] s) s e)
            ∙ ap (λ (r : Request). met files command r (if length text == 0 then with_note (start_of command) note.BadInclude [] s else s)) (sym stays)),
      )

  -- a forced file
  pub forced : (text : List ℕ) (file : Option Opened) → (length text == 0) ≡ false
      → IsMet files command (Searches None (start_of command) 0 (quote_header text)) old new file
      → Goes files command (state_of old [] (Forced text ∷ waiting)) (state_of new (with_file file []) waiting)
  forced text file e meets =
      let s : State = state_of old [] waiting in
      let asks : (if length text == 0 then Stays else Searches None (start_of command) 0 (quote_header text)) ≡ Searches None (start_of command) 0 (quote_header text) =
      cond-false (length text == 0) Stays (Searches None (start_of command) 0 (quote_header text)) e in
      step_goes files command (state_of old [] (Forced text ∷ waiting)) (state_of new (with_file file []) waiting) refl (
        Silent,
        refl,
        meets.0 [] waiting
            ∙ (ap (λ (t : State). met files command (Searches None (start_of command) 0 (quote_header text)) t) (sym (cond-false (length text == 0) (with_note (start_of command) note.BadInclude [] s) s e))
            ∙ ap (λ (r : Request). met files command r (if length text == 0 then with_note (start_of command) note.BadInclude [] s else s)) (sym asks)),
      )

-- the main file
pub main : (files : Files) (command : Command) (t : Findings) (waiting : List Waiting) (bones : List Bone) → files command.main ≡ Some bones
    → Goes files command (state_of t [] (Main ∷ waiting)) (state_of t (first_frame command.main 0 bones ∷ []) waiting)
main files command t waiting bones e =
    step_goes files command (state_of t [] (Main ∷ waiting)) (state_of t (first_frame command.main 0 bones ∷ []) waiting) refl (
      Silent,
      refl,
      sym (ap (λ (o : Option (List Bone)). entering command.main 0 o (state_of t [] waiting)) e),
    )
