-- What a run finds, says and leaves. One constructor of `Says` for each of the statuses 0 to 4.
use Rattle.std.specs.Prelude.{◌≡◌, ℕ, ◌<◌, ◌≤◌, List, length, take, Option, IfSome}
use Rattle.std.specs.Io.KnownBytes.{Appends, Consumes, Keeps}
use Rattle.cb_outside.specs.Outside.{Rose}
use Rattle.cb_tree.specs.declared.fault.BadSource.{BadSource}
use Rattle.cb_tree.specs.Nodes.{Node}
use Rattle.cb_tree.specs.Sound.{IsRead, Sound, Unsound}
use Rattle.cb_pass.specs.States.{Outcome}
use Rattle.cb_pass.specs.Passes.{IsPass}
use Rattle.codebasin.specs.Words.{Specialise, Asks, AsksNothing}
use Rattle.codebasin.specs.Specialise.{source_path, command_of, only, reached_lines}
use Rattle.codebasin.specs.Texts.{usage_text, limit_text, read_text, malformed_text, numbers_text}

-- an input or an output: the bytes that are left of it or that it took, where they are told, and how many of its calls
-- failed (own)
pub record Stream : Type 0 where
  pub bytes : Option (List ℕ)
  pub faults : ℕ

-- what a run works on (own)
pub record World : Type 0 where
  pub input : Stream
  pub output : Stream

-- the source was read, and no read failed: all that was left of the input, or one byte more than a source may have
-- (own)
pub record ReadsAll (w w' : World) (source : List ℕ) : Type 0 where
  pub consumed : Consumes w.input.bytes w'.input.bytes source
  pub front : IfSome w.input.bytes (λ left. source ≡ take 4194305 left)
  pub kept : w'.input.faults ≡ w.input.faults

-- a read failed, and what was read before it is lost (own)
pub record Loses (w w' : World) : Type 0 where
  pub lost : List ℕ
  pub within : length lost ≤ 4194305
  pub consumed : Consumes w.input.bytes w'.input.bytes lost
  pub rose : Rose w.input.faults w'.input.faults

-- the status of a run, and the text that it writes (own)
pub data Says (arguments : List (List ℕ)) (w w' : World) : ℕ → List ℕ → Type 0 where
  specialised : (words : List (List ℕ)) (bytes : List ℕ) (nodes : List Node) (end : Outcome)
      → Asks arguments (Specialise words) → ReadsAll w w' bytes → IsRead bytes (Sound nodes) → IsPass (only nodes) (command_of words) end
      → Says arguments w w' 0 (numbers_text (reached_lines (end.reached source_path) nodes))
  usage : AsksNothing arguments → w'.input ≡ w.input → Says arguments w w' 1 usage_text
  malformed : (words : List (List ℕ)) (bytes : List ℕ) (fault : BadSource) → Asks arguments (Specialise words)
      → ReadsAll w w' bytes → length bytes ≤ 4194304 → IsRead bytes (Unsound fault)
      → Says arguments w w' 2 (malformed_text fault)
  too_long : (words : List (List ℕ)) (bytes : List ℕ) → Asks arguments (Specialise words)
      → ReadsAll w w' bytes → 4194304 < length bytes → Says arguments w w' 3 limit_text
  unread : (words : List (List ℕ)) → Asks arguments (Specialise words) → Loses w w' → Says arguments w w' 4 read_text

-- how a run ends: its text was written; or a write failed after a proper part of it; or there was not enough memory,
-- and then nothing was written and no read failed (own)
pub data Ends (arguments : List (List ℕ)) (w w' : World) : ℕ → Type 0 where
  wrote : (status : ℕ) (text : List ℕ) → Says arguments w w' status text → Appends w.output.bytes w'.output.bytes text
      → w'.output.faults ≡ w.output.faults → Ends arguments w w' status
  cut_off : (status : ℕ) (text : List ℕ) (n : ℕ) → Says arguments w w' status text → n < length text
      → Appends w.output.bytes w'.output.bytes (take n text) → Rose w.output.faults w'.output.faults
      → Ends arguments w w' 5
  out_of_memory : Keeps w.output.bytes w'.output.bytes → w'.output.faults ≡ w.output.faults
      → w'.input.faults ≡ w.input.faults → Ends arguments w w' 6
