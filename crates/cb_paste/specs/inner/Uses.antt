-- Which tokens of arguments are still to be put in.
use Rattle.std.specs.Prelude.{◌≡◌, ℕ, ◌==◌, ◌&&◌, ◌||◌, Bool, true, false, not, List, [], ◌∷◌}
use Rattle.std.specs.List.{list_any}
use Rattle.cb_paste.specs.declared.argument.Argument.{Argument}
use Rattle.cb_paste.specs.declared.part.Part.{Part}
use Rattle.cb_paste.specs.declared.part.Shape.{Shape}
use Rattle.cb_paste.specs.declared.part.Shape.TheVariants.{Fixed, Parameter, Quoted}
use Rattle.cb_paste.specs.Puts.{seen_arguments, given_at, next_glued, AreArgumentsIn}
use Rattle.cb_paste.specs.inner.Given.{tokens_of}

-- both are the tokens as written, or both those after the argument's own expansion (own)
abbrev pub same_form : Bool → Bool → Bool
same_form true raw = raw
same_form false raw = not raw

-- a part, beside ## or not, puts in an argument's tokens as written, or those after its own expansion (6.10.3.1
-- paragraph 1, 6.10.3.2)
abbrev pub takes : Shape → Bool → Bool → ℕ → Bool
takes (Fixed kind text) beside raw i = false
takes (Parameter j) beside raw i = same_form beside raw && (j == i)
takes (Quoted j) beside raw i = raw && (j == i)

-- one of the parts does, where no part behind them is glued (own)
abbrev pub is_used : List Part → Bool → ℕ → Bool
is_used [] raw i = false
is_used (p ∷ ps) raw i = takes p.shape (p.glued || next_glued ps) raw i || is_used ps raw i

-- one of the parts does, where none stands beside ## (own)
abbrev pub is_used_plainly : List Part → Bool → ℕ → Bool
is_used_plainly ps raw i = list_any (λ p. takes p.shape false raw i) ps

-- all tokens but these (own)
abbrev pub is_other : Bool → ℕ → Bool → ℕ → Bool
is_other raw i form j = not (same_form raw form && (j == i))

-- the wanted tokens are as they were, and all have their hide sets in the same arenas (own)
pub record Kept (wanted : Bool → ℕ → Bool) (old new : List Argument) : Type 0 where
  pub same : (sets : List (List ℕ)) (raw : Bool) (i : ℕ) → wanted raw i ≡ true
      → tokens_of raw (given_at (seen_arguments sets new) i) ≡ tokens_of raw (given_at (seen_arguments sets old) i)
  pub within : (count : ℕ) → AreArgumentsIn count old → AreArgumentsIn count new
