-- What is kept beside rows, so that figures and names are found without a look at all rows.
use Rattle.std.specs.Prelude.{◌≡◌, ℕ, ◌+◌, ◌≤◌, ◌^◌, ◌&&◌, nat_eq, nat_lt, Bool, true, List, [], length, Option, Some, None, unwrap_or}
use Rattle.std.specs.List.{list_all}
use Rattle.std.specs.BTreeSet.{BTreeSet, keys}
use Rattle.std.specs.HashMap.{HashMap, get}
use Rattle.cb_measure.specs.Metrics.{problems_of, applications_of, platforms_of, figure_on, best_on}
use Rattle.cb_measure.specs.inner.Numbers.{number_in}
use Rattle.cb_measure.specs.declared.row.Row.{Row}
use Rattle.cb_measure.specs.declared.index.Index.{Index}

-- the figure at a key, or 0
abbrev pub figure_at : {K S : Type 0} → (K → K → Bool) → HashMap K ℕ S → K → ℕ
figure_at eq figures key = unwrap_or (get eq figures key) 0

-- the best figure of a problem on a platform, by their numbers
abbrev pub best_at : {S : Type 0} → HashMap (ℕ × ℕ) ℕ S → ℕ → ℕ → ℕ
best_at best problem platform = figure_at (λ x y. nat_eq x.0 y.0 && nat_eq x.1 y.1) best (problem, platform)

-- the figure of a problem, an application and a platform, by their numbers
abbrev pub run_at : {S : Type 0} → HashMap (ℕ × ℕ × ℕ) ℕ S → ℕ → ℕ → ℕ → ℕ
run_at figures problem application platform =
    figure_at (λ x y. nat_eq x.0 y.0 && nat_eq x.1 y.1 && nat_eq x.2 y.2) figures (problem, application, platform)

-- the names of a set, where there is one
abbrev pub names_found : Option (BTreeSet (List ℕ)) → List (List ℕ)
names_found None = []
names_found (Some s) = keys s

-- the names of the set at a number
abbrev pub names_at : {S : Type 0} → HashMap ℕ (BTreeSet (List ℕ)) S → ℕ → List (List ℕ)
names_at sets number = names_found (get nat_eq sets number)

-- the figure of a row is below the greatest one that is read
abbrev pub is_small : Row → Bool
is_small row = nat_lt row.fom (10 ^ 15)

-- what is found is what rows say
pub record IsIndex (rows : List Row) (index : Index) : Type 0 where
  pub best : (p h : List ℕ) → best_at index.best (number_in index.numbers p) (number_in index.numbers h) ≡ best_on rows p h
  pub figure : (p a h : List ℕ) → run_at index.figures (number_in index.numbers p) (number_in index.numbers a) (number_in index.numbers h) ≡ figure_on rows p a h
  pub problems : keys index.problems ≡ problems_of rows
  pub applications : (p : List ℕ) → names_at index.applications (number_in index.numbers p) ≡ applications_of rows p
  pub platforms : (p : List ℕ) → names_at index.platforms (number_in index.numbers p) ≡ platforms_of rows p

-- rows as they are kept: what is found, how many there are, and that figures are small
pub record IsTable (rows : List Row) (index : Index) : Type 0 where
  pub found : IsIndex rows index
  pub few : length rows ≤ 100000
  pub small : list_all is_small rows ≡ true
