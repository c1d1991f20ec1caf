-- The cascade of an application over the platforms of a problem (own, after Pennycook, Sewall and Lee).
use Rattle.std.specs.Prelude.{ℕ, ◌+◌, ◌*◌, ◌==◌, nat_lt, if◌then◌else◌, Bool, true, false, List, [], ◌∷◌, map, take, length, slice_index_or, unwrap_or}
use Rattle.std.specs.List.{fold, range_with_len}
use Rattle.cb_measure.specs.Metrics.{figure_on, best_on, efficiency_of, platforms_of, portability_over}
use Rattle.cb_measure.specs.declared.row.Row.{Row}
use Rattle.cb_measure.specs.declared.step.Step.{Step}

-- an application on a platform is slower than on another one, compared exactly; on a platform where it fails it is slower than where it
-- runs: best / figure < other best / other figure, with 0 / 1 for a failure (own)
unfoldable pub is_slower : List Row → List ℕ → List ℕ → List ℕ → List ℕ → Bool
is_slower rows problem application platform other =
    if figure_on rows problem application other == 0 then false
    else if figure_on rows problem application platform == 0 then true
    else nat_lt (best_on rows problem platform * figure_on rows problem application other) (best_on rows problem other * figure_on rows problem application platform)

-- a platform put behind those on which the application is no slower (own)
unfoldable pub put_platform : List Row → List ℕ → List ℕ → List (List ℕ) → List ℕ → List (List ℕ)
put_platform rows problem application [] platform = platform ∷ []
put_platform rows problem application (first ∷ rest) platform =
    if is_slower rows problem application first platform then platform ∷ first ∷ rest
    else first ∷ put_platform rows problem application rest platform

-- the platforms of a problem by falling exact efficiency, those on which the application fails last, ties by name (own)
unfoldable pub falling : List Row → List ℕ → List ℕ → List (List ℕ)
falling rows problem application = fold (put_platform rows problem application) [] (platforms_of rows problem)

-- the step of a cascade at this place from 0: the platform there, and the portability over it and those before it (own)
unfoldable pub step_at : List Row → List ℕ → List ℕ → List (List ℕ) → ℕ → Step
step_at rows problem application platforms k = record {
  platform = slice_index_or platforms k [];
  efficiency = unwrap_or (efficiency_of rows problem application (slice_index_or platforms k [])) 0;
  portability = portability_over rows problem application (take (k + 1) platforms);
}

-- the cascade of an application over the platforms of a problem (own, after Pennycook, Sewall and Lee)
unfoldable pub cascade_of : List Row → List ℕ → List ℕ → List Step
cascade_of rows problem application =
    map (step_at rows problem application (falling rows problem application)) (range_with_len 0 (length (falling rows problem application)))
