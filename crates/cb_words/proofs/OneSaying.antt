-- Words say one thing.
use Rattle.std.proofs.Common.{◌≡◌, ℕ, Bool, true, false, List, [], ◌∷◌, codes, bytes_eq, Some, None, Result, Ok, Err, refl, ap, sym, subst, ◌∙◌}
use Rattle.std.specs.Prelude.{All, if◌then◌else◌}
use Rattle.cb_words.specs.declared.fault.BadWords.{BadWords}
use Rattle.cb_words.specs.declared.job.Job.{Job}
use Rattle.cb_words.specs.declared.job.Job.TheVariants.{Specialise, Report, Stdio, Serve, Generate}
use Rattle.cb_words.specs.Faults.{and_then}
use Rattle.cb_words.specs.Specialise.{words_in, words_asked, IsDefinition, Defines, stray, unsound, sound}
use Rattle.cb_words.specs.Commands.{command_job}
use Rattle.cb_words.specs.Says.{Says, nothing, specialise, other}

one_found : (words : List (List ℕ)) (a b : Result (List (List ℕ)) BadWords) → Defines words a → Defines words b → a ≡ b
one_found words _ _ (stray n) (stray m) = refl
one_found words _ _ (stray n) (unsound f s bad) = let e : None ≡ Some f = sym n ∙ s in absurd cc
one_found words _ _ (stray n) (sound f s all) = let e : None ≡ Some f = sym n ∙ s in absurd cc
one_found words _ _ (unsound f s bad) (stray n) = let e : None ≡ Some f = sym n ∙ s in absurd cc
one_found words _ _ (unsound f s bad) (unsound g t worse) = refl
one_found words _ _ (unsound f s bad) (sound g t all) =
    let e : Some f ≡ Some g = sym s ∙ t in
    let same : g ≡ f = cc in absurd (bad (subst (All IsDefinition) same all))
one_found words _ _ (sound f s all) (stray n) = let e : None ≡ Some f = sym n ∙ s in absurd cc
one_found words _ _ (sound f s all) (unsound g t bad) =
    let e : Some f ≡ Some g = sym s ∙ t in
    let same : f ≡ g = cc in absurd (bad (subst (All IsDefinition) same all))
one_found words _ _ (sound f s all) (sound g t every) =
    let e : Some f ≡ Some g = sym s ∙ t in
    let same : f ≡ g = cc in ap Ok same

pub one_said : (here : List ℕ) (words : List (List ℕ)) (a b : Result Job BadWords) → Says here words a → Says here words b → a ≡ b
one_said here _ _ _ nothing nothing = refl
one_said here _ _ _ (specialise c ws f is d) (specialise _ _ g is' d') = ap (λ r. and_then r (λ defined. Ok (Specialise defined))) (one_found ws f g d d')
one_said here _ _ _ (specialise c ws f is d) (other _ _ not) = let e : true ≡ false = sym is ∙ not in absurd cc
one_said here _ _ _ (other c ws not) (specialise _ _ g is d) = let e : true ≡ false = sym is ∙ not in absurd cc
one_said here _ _ _ (other c ws not) (other _ _ not') = refl

-- no other command asks for the reached lines
never : {A : Type 0} (r : Result A BadWords) (make : A → Job) (found : List (List ℕ)) → ((a : A) → make a ≡ Specialise found → ⊥)
    → and_then r (λ a. Ok (make a)) ≡ Ok (Specialise found) → ⊥
never (Err bad) make found not e = cc
never (Ok a) make found not e = not a cc

chosen : {A : Type 0} (b : Bool) (x y z : A) → (x ≡ z → ⊥) → (y ≡ z → ⊥) → (if b then x else y) ≡ z → ⊥
chosen true x y z not_x not_y e = not_x e
chosen false x y z not_x not_y e = not_y e

other_command : (here command : List ℕ) (words found : List (List ℕ)) → command_job here command words ≡ Ok (Specialise found) → ⊥
other_command here command words found =
    chosen (bytes_eq command (codes "report")) _ _ _ (never _ Report found (λ a e. cc))
    (chosen (bytes_eq command (codes "stdio")) _ _ _ (never _ Stdio found (λ a e. cc))
    (chosen (bytes_eq command (codes "serve")) _ _ _ (never _ Serve found (λ a e. cc))
    (chosen (bytes_eq command (codes "generate")) _ _ _ (never _ Generate found (λ a e. cc)) (λ e. cc))))

-- what the words behind `specialise` say, where words ask for the reached lines
found_of : (words : List (List ℕ)) (r : Result (List (List ℕ)) BadWords) (found : List (List ℕ)) → Defines words r
    → and_then r (λ defined. Ok (Specialise defined)) ≡ Ok (Specialise found) → (words_in words ≡ Some found) × All IsDefinition found
found_of words _ found (stray n) e = absurd cc
found_of words _ found (unsound f s bad) e = absurd cc
found_of words _ found (sound f s all) e = let same : f ≡ found = cc in (subst (λ g. words_in words ≡ Some g) same s, subst (All IsDefinition) same all)

asked_by : (here : List ℕ) (words found : List (List ℕ)) (r : Result Job BadWords) → Says here words r → r ≡ Ok (Specialise found)
    → (words_asked words ≡ Some found) × All IsDefinition found
asked_by here _ found _ nothing e = absurd cc
asked_by here _ found _ (specialise c ws f is d) e = let h = found_of ws f found d e in (rw is h.0, h.1)
asked_by here _ found _ (other c ws not) e = absurd (other_command here c ws found e)

pub asked : (here : List ℕ) (words found : List (List ℕ)) → Says here words (Ok (Specialise found)) → (words_asked words ≡ Some found) × All IsDefinition found
asked here words found says = asked_by here words found _ says refl

first_is : (b : Bool) (ws found : List (List ℕ)) → (if b then words_in ws else None) ≡ Some found → (b ≡ true) × (words_in ws ≡ Some found)
first_is true ws found e = (refl, e)
first_is false ws found e = absurd cc

pub asks : (here : List ℕ) (words found : List (List ℕ)) → words_asked words ≡ Some found → All IsDefinition found → Says here words (Ok (Specialise found))
asks here [] found e all = absurd cc
asks here (c ∷ ws) found e all = let h = first_is (bytes_eq c (codes "specialise")) ws found e in specialise c ws (Ok found) h.0 (sound found h.1 all)
