-- The measurements that are kept.
use Rattle.std.specs.Prelude.{◌≡◌, Ok}
use Rattle.cb_measure.specs.Reading.{measurements}
use Rattle.cb_inputs.specs.declared.kept_rows.KeptRows.{KeptRows}

-- the rows are those that the bytes say (own)
pub record AreReadRows (kept : KeptRows) : Type 0 where
  pub says : measurements kept.bytes ≡ Ok kept.rows
