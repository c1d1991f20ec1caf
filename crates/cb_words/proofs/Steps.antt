-- What follows from a value, and from a fault.
use Rattle.std.proofs.Common.{Result, refl}
use Rattle.cb_words.specs.declared.fault.BadWords.{BadWords}
use Rattle.cb_words.specs.declared.fault.WordsFault.{WordsFault}
use Rattle.cb_words.specs.declared.fault.WordsFault.TheVariants.{Bad, NoMemory}
use Rattle.cb_words.specs.Faults.{Refuses, and_then}

-- what is refused stays so
pub refused : {A B : Type 0} (e : WordsFault) (r : Result A BadWords) (next : A → Result B BadWords) → Refuses e r → Refuses e (and_then r next)
refused (Bad bad) r next h = rw h refl
refused NoMemory r next h = tt
