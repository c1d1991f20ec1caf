-- Records that a reader has read.
use Rattle.std.specs.Prelude.{◌≡◌, ℕ, List, Some}
use denote.Ref.{Bor}
use Rattle.csv.specs.Reading.{Reached, Ready, default_config, source_of, strip_bom}
use Rattle.csv.specs.declared.parser.State.TheVariants as st
use Rattle.csv.specs.declared.reader.Reader.{Reader}
use Rattle.csv.specs.declared.reader.Trim.TheVariants as how

-- the reader has read these records of the text
pub record IsBehind (reader : Reader (Bor (List ℕ))) (text : List ℕ) (seen : List (List (List ℕ))) : Type 0 where
  pub trim : reader.trim ≡ how.None
  pub ready : Ready reader
  pub config : reader.config ≡ default_config
  pub left : List ℕ
  pub source : source_of (λ s. Some s.now) reader ≡ Some left
  pub reached : Reached default_config st.StartRecord (strip_bom text) seen reader.state left
