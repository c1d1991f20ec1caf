-- Notes on the use of parameters.
use Rattle.std.specs.Prelude.{Bool, true, false}
use Rattle.cb_macro.specs.declared.uses.Use.{Use}

-- a use beside # or ##, or another one, is noted (own)
abbrev pub used : Bool → Use → Use
used true u = record u { is_raw = true }
used false u = record u { is_shown = true }
