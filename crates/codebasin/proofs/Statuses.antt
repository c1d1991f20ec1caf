-- What is said of a source, as what a run says.
use Rattle.std.proofs.Common.{◌≡◌, ℕ, List, Option, Some, None, refl, subst, sym, arith}
use Rattle.std.specs.Io.KnownBytes.{Keeps}
use Rattle.codebasin.specs.Words.{Specialise, Asks}
use Rattle.codebasin.specs.Run.{World, ReadsAll, Says, specialised, malformed}
use Rattle.codebasin.specs.Run as run
use Rattle.codebasin.specs.inner.Answers.{Answers, too_long, unsound, sound}

-- an answer to the source that was read is what a run says
pub says_answer : (arguments words : List (List ℕ)) (w a : World) (bytes : List ℕ) (s : ℕ) (t : List ℕ)
    → Asks arguments (Specialise words) → ReadsAll w a bytes → Answers words bytes s t → Says arguments w a s t
says_answer arguments words w a bytes _ _ asks read (too_long long) = run.too_long words bytes asks read long
says_answer arguments words w a bytes _ _ asks read (unsound fault fits is) = malformed words bytes fault asks read fits is
says_answer arguments words w a bytes _ _ asks read (sound nodes text is passes) =
    subst (Says arguments w a 0) (sym passes.text_is) (specialised words bytes nodes passes.end asks read is passes.pass)

-- known bytes stay as they are
pub keeps_itself : (known : Option (List ℕ)) → Keeps known known
keeps_itself None = tt
keeps_itself (Some bytes) = refl

-- an answer to a source is not that to arguments that are no command
pub answer_status_not_one : (words : List (List ℕ)) (source : List ℕ) (status : ℕ) (text : List ℕ) → Answers words source status text → status ≡ 1 → ⊥
answer_status_not_one words source status text (too_long h) one = omega arith
answer_status_not_one words source status text (unsound fault h r) one = omega arith
answer_status_not_one words source status text (sound nodes t r passes) one = omega arith
