-- What a run answers to its input. No public clause names these words.
use Rattle.std.specs.Prelude.{◌≡◌, ℕ, ◌<◌, ◌≤◌, List, length}
use Rattle.cb_tree.specs.declared.fault.BadSource.{BadSource}
use Rattle.cb_tree.specs.Nodes.{Node}
use Rattle.cb_tree.specs.Sound.{IsRead, Sound, Unsound}
use Rattle.cb_include.specs.declared.command.Command.{Command}
use Rattle.cb_pass.specs.States.{Outcome}
use Rattle.cb_pass.specs.Passes.{IsPass}
use Rattle.codebasin.specs.Specialise.{command_of, only, reached_lines}
use Rattle.codebasin.specs.Texts.{limit_text, malformed_text, numbers_text}

-- the text for the nodes of a sound source: the numbers of the lines that the pass of a command reaches in it (own)
pub record Passes (command : Command) (nodes : List Node) (text : List ℕ) : Type 0 where
  pub end : Outcome
  pub pass : IsPass (only nodes) command end
  pub text_is : text ≡ numbers_text (reached_lines (end.reached command.main) nodes)

-- The status and the text for a source, with these words of -D: its size decides first, then its first fault, then its
-- pass (own).
pub data Answers (words : List (List ℕ)) (source : List ℕ) : ℕ → List ℕ → Type 0 where
  too_long : 4194304 < length source → Answers words source 3 limit_text
  unsound : (fault : BadSource) → length source ≤ 4194304 → IsRead source (Unsound fault)
      → Answers words source 2 (malformed_text fault)
  sound : (nodes : List Node) (text : List ℕ) → IsRead source (Sound nodes)
      → Passes (command_of words) nodes text → Answers words source 0 text
