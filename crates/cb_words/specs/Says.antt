-- What the words of a command line say.
use Rattle.std.specs.Prelude.{◌≡◌, ℕ, false, true, List, [], ◌∷◌, codes, bytes_eq, Result, Ok, Err}
use Rattle.cb_words.specs.declared.fault.BadWords.{BadWords}
use Rattle.cb_words.specs.declared.fault.BadWords.TheVariants.{NoCommand}
use Rattle.cb_words.specs.declared.job.Job.{Job}
use Rattle.cb_words.specs.declared.job.Job.TheVariants.{Specialise}
use Rattle.cb_words.specs.Faults.{and_then}
use Rattle.cb_words.specs.Specialise.{Defines}
use Rattle.cb_words.specs.Commands.{command_job}

-- The words behind the program's name say a job, or why they are none: the first word is the command, and the words behind
-- it are read from the left. The first of them that is at fault decides, then what the command wants in the order in which
-- its options and its other words are named (own).
pub data Says (here : List ℕ) : List (List ℕ) → Result Job BadWords → Type 0 where
  nothing : Says here [] (Err NoCommand)
  specialise : (command : List ℕ) (words : List (List ℕ)) (found : Result (List (List ℕ)) BadWords)
      → bytes_eq command (codes "specialise") ≡ true → Defines words found
      → Says here (command ∷ words) (and_then found (λ defined. Ok (Specialise defined)))
  other : (command : List ℕ) (words : List (List ℕ)) → bytes_eq command (codes "specialise") ≡ false
      → Says here (command ∷ words) (command_job here command words)
