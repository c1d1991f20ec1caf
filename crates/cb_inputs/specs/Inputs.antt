-- The inputs of an analysis as they were put, and what an edit makes of them.
use Rattle.std.specs.Prelude.{ℕ, List, Option, Some}
use Rattle.cb_outside.specs.Tables.{Texts, put, removed}

-- the bytes of the inputs: the analysis, the databases and the sources by their paths, and the measurements (own)
pub record Inputs : Type 0 where
  pub analysis : Option (List ℕ)
  pub databases : Texts
  pub sources : Texts
  pub measurements : Option (List ℕ)

-- an edit puts an input in the place of the one that stood there, or takes one away (own)
pub data Edit : Type 0 where
  PutAnalysis : List ℕ → Edit
  PutMeasurements : List ℕ → Edit
  PutDatabase : List ℕ → List ℕ → Edit
  PutSource : List ℕ → List ℕ → Edit
  RemoveDatabase : List ℕ → Edit
  RemoveSource : List ℕ → Edit

-- the inputs after an edit; a path stands before the bytes at it (own)
abbrev pub after : Edit → Inputs → Inputs
after (PutAnalysis bytes) i = record i { analysis = Some bytes }
after (PutMeasurements bytes) i = record i { measurements = Some bytes }
after (PutDatabase path bytes) i = record i { databases = put path bytes i.databases }
after (PutSource path bytes) i = record i { sources = put path bytes i.sources }
after (RemoveDatabase path) i = record i { databases = removed path i.databases }
after (RemoveSource path) i = record i { sources = removed path i.sources }
