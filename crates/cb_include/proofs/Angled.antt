-- A header between `<` and `>`.
use Rattle.std.proofs.Common.{◌≡◌, ℕ, Bool, true, false, cond, List, [], ◌∷◌, sym, ◌∙◌, Option, Result, Ok, Err, IfOk}
use Rattle.std.specs.List.{find}
use Rattle.cb_paths.specs.Paths.{is_absolute}
use Rattle.cb_include.specs.Candidates.{folders, named_in, candidates}
use Rattle.cb_include.specs.inner.Finding.{Finds}
use Rattle.cb_include.specs.declared.command.Command.{Command}
use Rattle.cb_include.specs.declared.header.Header.{Header}

-- what the -I folders give is what the candidates give
pub first_of_angle : {E : Type 0} (p : List ℕ → Bool) (command : Command) (from : Option (List ℕ)) (header : Header)
    (old new : List (List ℕ)) (r : Result (Option (List ℕ)) E) → is_absolute header.text ≡ false → header.angle ≡ true
    → IfOk r (λ found. Finds p old (named_in command header.text command.angle) found new)
    → IfOk r (λ found. found ≡ find p (candidates command from header))
first_of_angle p command from header old new (Ok found) relative angle f =
    f.first ∙ (λ i. find p (named_in command header.text
    (cond (sym relative i) (command.root ∷ []) (folders command from (sym angle i)))))
first_of_angle p command from header old new (Err e) relative angle f = tt
