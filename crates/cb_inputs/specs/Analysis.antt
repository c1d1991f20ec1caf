-- The analysis that is kept.
use Rattle.std.specs.Prelude.{◌≡◌, Ok}
use Rattle.cb_analysis.specs.Analyses.{analysis}
use Rattle.cb_inputs.specs.declared.kept_analysis.KeptAnalysis.{KeptAnalysis}

-- the contents are those that the bytes say (own)
pub record IsReadAnalysis (kept : KeptAnalysis) : Type 0 where
  pub says : analysis kept.bytes ≡ Ok kept.contents
