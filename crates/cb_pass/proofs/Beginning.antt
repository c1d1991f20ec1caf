-- What waits at the start, one after another.
use Rattle.std.proofs.Common.{◌≡◌, ℕ, ◌+◌, ◌<◌, List, [], ◌∷◌, ◌++◌, length, map, drop, get_or, refl, sym, ap, subst, ◌∙◌, append_assoc, add-one}
use Prim.Native.Nat.{suc}
use Rattle.std.proofs.Math.Seq.{drop-cons}
use Rattle.cb_include.specs.declared.command.Command.{Command}
use Rattle.cb_pass.specs.declared.reading.Reading.{Reading}
use Rattle.cb_pass.specs.declared.reading.Reading.TheVariants.{Whole, Cut}
use Rattle.cb_pass.specs.States.{Waiting, Given, Forced, Main}
use Rattle.cb_pass.specs.Files.{Files}
use Rattle.cb_pass.specs.Passes.{first_waiting}
use Rattle.cb_pass.specs.inner.Trails.{Findings, state_of}
use Rattle.cb_pass.specs.inner.Moves.{Goes}
use Rattle.cb_pass.specs.inner.Readings.{left_of}
use Rattle.cb_pass.proofs.Moves.{goes_on}

at : {X : Type 0} (xs : List X) (i : ℕ) (x : X) → i < length xs → x ≡ get_or xs i x → drop i xs ≡ x ∷ drop (i + 1) xs
at {X} xs i x lt e = rw add-one (drop-cons xs i x lt ∙ ap (λ (y : X). y ∷ drop (suc i) xs) (sym e))

-- one more of some that wait
pub one_more : {X : Type 0} (files : Files) (command : Command) (kind : X → Waiting) (xs : List X) (i : ℕ) (x : X) (begun old new : Findings) (waiting : List Waiting)
    → i < length xs → x ≡ get_or xs i x
    → Goes files command (state_of begun [] (map kind xs ++ waiting)) (state_of old [] (map kind (drop i xs) ++ waiting))
    → ((ws : List Waiting) → Goes files command (state_of old [] (kind x ∷ ws)) (state_of new [] ws))
    → Goes files command (state_of begun [] (map kind xs ++ waiting)) (state_of new [] (map kind (drop (i + 1) xs) ++ waiting))
one_more {X} files command kind xs i x begun old new waiting lt e before one =
    goes_on files command _ _ _ before
    (subst (λ (ys : List X). Goes files command (state_of old [] (map kind ys ++ waiting)) (state_of new [] (map kind (drop (i + 1) xs) ++ waiting))) (sym (at xs i x lt e))
    (one (map kind (drop (i + 1) xs) ++ waiting)))

-- all that waits, up to the main file
pub all : (files : Files) (command : Command) (begun worded forced : Findings)
    → ((waiting : List Waiting) → Goes files command (state_of begun [] (map Given command.ops ++ waiting)) (state_of worded [] waiting))
    → (reading : Reading)
    → ((waiting : List Waiting) → Goes files command (state_of worded [] (map Forced command.forced ++ waiting)) (state_of forced [] (left_of reading waiting)))
    → Goes files command (state_of begun [] (first_waiting command)) (state_of forced [] (left_of reading (Main ∷ [])))
all files command begun worded forced words reading texts =
    subst (λ (ws : List Waiting). Goes files command (state_of begun [] ws) (state_of forced [] (left_of reading (Main ∷ []))))
    (sym (append_assoc (map Given command.ops) (map Forced command.forced) (Main ∷ [])))
    (goes_on files command _ _ _ (words (map Forced command.forced ++ Main ∷ [])) (texts (Main ∷ [])))

-- where nothing waits, nothing is left
pub nothing_left : (reading : Reading) → left_of reading [] ≡ []
nothing_left Whole = refl
nothing_left Cut = refl
