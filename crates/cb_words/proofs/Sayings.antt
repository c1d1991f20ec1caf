-- What words say, by what the reading of their parts gave.
use Rattle.std.proofs.Common.{◌≡◌, ℕ, false, true, List, ◌∷◌, codes, bytes_eq, Result, Ok, Err, subst}
use Rattle.std.specs.Prelude.{IfOk, IfErr}
use Rattle.cb_words.specs.declared.fault.WordsFault.{WordsFault}
use Rattle.cb_words.specs.declared.fault.WordsFault.TheVariants.{Bad, NoMemory}
use Rattle.cb_words.specs.declared.job.Job.{Job}
use Rattle.cb_words.specs.Faults.{Refuses, HasCause}
use Rattle.cb_words.specs.Specialise.{Defines}
use Rattle.cb_words.specs.Commands.{command_job}
use Rattle.cb_words.specs.Says.{Says, specialise, other}

-- the job of another command
pub other_job : (here command : List ℕ) (words : List (List ℕ)) (r : Result Job WordsFault) → bytes_eq command (codes "specialise") ≡ false
    → IfOk r (λ job. command_job here command words ≡ Ok job) → IfOk r (λ job. Says here (command ∷ words) (Ok job))
other_job here command words (Ok job) not e = subst (λ said. Says here (command ∷ words) said) e (other command words not)
other_job here command words (Err fault) not e = tt

-- the fault of another command
pub other_bad : (here command : List ℕ) (words : List (List ℕ)) (r : Result Job WordsFault) → bytes_eq command (codes "specialise") ≡ false
    → IfErr r (λ e. Refuses e (command_job here command words)) → IfErr r (λ e. HasCause e (λ bad. Says here (command ∷ words) (Err bad)))
other_bad here command words (Ok job) not e = tt
other_bad here command words (Err (Bad bad)) not e = subst (λ said. Says here (command ∷ words) said) e (other command words not)
other_bad here command words (Err NoMemory) not e = tt

-- the fault of the words behind `specialise`
pub specialise_bad : (here command : List ℕ) (words : List (List ℕ)) (fault : WordsFault) → bytes_eq command (codes "specialise") ≡ true
    → HasCause fault (λ bad. Defines words (Err bad)) → HasCause fault (λ bad. Says here (command ∷ words) (Err bad))
specialise_bad here command words (Bad bad) is d = specialise command words (Err bad) is d
specialise_bad here command words NoMemory is d = tt
