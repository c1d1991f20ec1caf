-- Small passes, worked by hand.
use Rattle.std.proofs.Common.{◌≡◌, ℕ, true, false, List, [], ◌∷◌, refl}
use Rattle.std.specs.Prelude.{Some, None, codes, if◌then◌else◌}
use Rattle.std.specs.Str.{bytes_eq}
use Prim.Native.Nat.{zero, suc}
use Rattle.cb_paths.specs.declared.language.Language.TheVariants.{C}
use Rattle.cb_paths.specs.Parts.{is_up, is_kept}
use Rattle.cb_paths.specs.Paths.{file_at, folder_holding}
use Rattle.cb_tokens.specs.declared.token.TokenKind.TheVariants.{Identifier, Str, Punct}
use Rattle.cb_tokens.specs.declared.token.Token.{Token}
use Rattle.cb_tree.specs.declared.node.NodeKind.TheVariants.{Text, Ifdef, Else, Endif, Include, Once}
use Rattle.cb_tree.specs.Skeleton.{Bone}
use Rattle.cb_include.specs.declared.command.Command.{Command}
use Rattle.cb_pass.specs.Headers.{header_of}
use Rattle.cb_pass.specs.Notes.{noted}
use Rattle.cb_pass.specs.Answers.{Question, Nothing, Word, Defining, Undefining, Truth, Named, Answer, Silent, named_or_not}
use Rattle.cb_pass.specs.States.{State, Outcome, outcome}
use Rattle.cb_pass.specs.Steps.{question}
use Rattle.cb_pass.specs.Files.{Files, stepped}
use Rattle.cb_pass.specs.Passes.{over, goes, start, IsPass}

-- the answers that ask no macros
plain : Question → Answer
plain Nothing = Silent
plain (Word op) = Silent
plain (Defining tokens) = Silent
plain (Undefining tokens) = Silent
plain (Truth tokens) = Silent
plain (Named tokens) = named_or_not (header_of tokens)

told : Command
told = record {
  main = codes "m.c";
  language = C;
  ops = [];
  work = codes "/";
  quote = [];
  angle = [];
  forced = [];
  root = codes "/";
}

identifier : List ℕ → Token
identifier text = record { kind = Identifier; spaced = false; text = text }

hash : Token
hash = record { kind = Punct; spaced = false; text = codes "#" }

text : Bone
text = record { kind = Text; tokens = [] }

includes : List ℕ → Bone
includes header = record { kind = Include; tokens = hash ∷ identifier (codes "include") ∷ record { kind = Str; spaced = true; text = header } ∷ [] }

-- #include "h.h" twice; h.h is #pragma once and a line
twice : Files
twice path =
    if bytes_eq path (codes "m.c") then Some (includes (codes "\"h.h\"") ∷ includes (codes "\"h.h\"") ∷ [])
    else (if bytes_eq path (codes "h.h") then Some (record { kind = Once; tokens = hash ∷ identifier (codes "pragma") ∷ identifier (codes "once") ∷ [] } ∷ text ∷ []) else None)

next : Files → State → State
next files s = stepped files told (plain (question s)) s

run : Files → ℕ → State → State
run files zero s = s
run files (suc n) s = run files n (next files s)

-- four nodes are reached, and the header is read once
twice_read : (end : Outcome) × IsPass twice told end × (end.count ≡ 4) × (end.probes ≡ codes "m.c" ∷ codes "h.h" ∷ []) × (end.notes ≡ [])
unfolding plain told identifier hash text includes twice next run file_at folder_holding is_up is_kept noted
twice_read = (
  outcome (run twice 7 (start twice told)),
  goes refl Silent refl (goes refl (plain (Named (record { kind = Str; spaced = true; text = codes "\"h.h\"" } ∷ []))) refl
      (goes refl Silent refl (goes refl Silent refl (goes refl Silent refl
      (goes refl (plain (Named (record { kind = Str; spaced = true; text = codes "\"h.h\"" } ∷ []))) refl
      (goes refl Silent refl (over refl refl))))))),
  refl,
  refl,
  refl,
)

-- #ifdef GPU / a(); / #else / b(); / #endif / c();
chosen : Files
chosen path =
    if bytes_eq path (codes "m.c")
    then Some (record { kind = Ifdef; tokens = hash ∷ identifier (codes "ifdef") ∷ identifier (codes "GPU") ∷ [] } ∷ text
    ∷ record { kind = Else; tokens = hash ∷ identifier (codes "else") ∷ [] } ∷ text
    ∷ record { kind = Endif; tokens = hash ∷ identifier (codes "endif") ∷ [] } ∷ text ∷ [])
    else None

before : ℕ → State
before n = run chosen n (start chosen told)

-- all but the first group are reached
chosen_read : (end : Outcome) × IsPass chosen told end × (end.count ≡ 5) × (end.reached (codes "m.c") 2 ≡ false) × (end.reached (codes "m.c") 4 ≡ true)
unfolding plain told identifier hash text chosen next run noted before
chosen_read = (
  outcome (before 8),
  goes {s = before 0} refl Silent refl (goes {s = before 1} refl Silent refl (goes {s = before 2} refl Silent refl
      (goes {s = before 3} refl Silent refl (goes {s = before 4} refl Silent refl (goes {s = before 5} refl Silent refl
      (goes {s = before 6} refl Silent refl (goes {s = before 7} refl Silent refl (over {s = before 8} refl refl)))))))),
  refl,
  refl,
  refl,
)
