-- Numbers of names.
use Rattle.std.specs.Prelude.{◌≡◌, ℕ, ◌<◌, ◌≤◌, List, [], ◌∷◌, Option, Some, unwrap_or}
use Rattle.std.specs.HashMap.{HashMap, get_by}
use Rattle.std.specs.Str.{bytes_eq}
use Rattle.std.specs.Global.{Vec}
use Rattle.cb_measure.specs.declared.row.Row.{Row}

-- the number of a name, where it has one
abbrev pub number_found : {S : Type 0} → HashMap (Vec ℕ) ℕ S → List ℕ → Option ℕ
number_found numbers name = get_by (λ k. bytes_eq name k.items) numbers

-- the number of a name, or 2 ^ 32 - 1 where it has none
abbrev pub number_in : {S : Type 0} → HashMap (Vec ℕ) ℕ S → List ℕ → ℕ
number_in numbers name = unwrap_or (number_found numbers name) 4294967295

-- no two names have one number, and numbers are below a count
pub record AreApart (find : List ℕ → Option ℕ) (count : ℕ) : Type 0 where
  pub apart : (a b : List ℕ) (n : ℕ) → find a ≡ Some n → find b ≡ Some n → a ≡ b
  pub below : (a : List ℕ) (n : ℕ) → find a ≡ Some n → n < count
  pub few : count ≤ 4294967295

-- the names of a row have numbers
pub record IsKnown (number : List ℕ → ℕ) (row : Row) : Type 0 where
  pub problem : number row.problem < 4294967295
  pub platform : number row.platform < 4294967295
  pub application : number row.application < 4294967295

-- the names of rows have numbers
abbrev pub AreKnown : (List ℕ → ℕ) → List Row → Type 0
AreKnown number [] = Unit {0}
AreKnown number (row ∷ rows) = IsKnown number row × AreKnown number rows

-- the names of rows have different numbers
pub record IsNumbering (number : List ℕ → ℕ) (rows : List Row) : Type 0 where
  pub apart : (a b : List ℕ) → number a < 4294967295 → number a ≡ number b → a ≡ b
  pub known : AreKnown number rows
