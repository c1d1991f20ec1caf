use Rattle.std.proofs.Common.{◌≡◌, Ok}
use Rattle.cb_tree.specs.Sound.{IsRead, Sound}
use Rattle.cb_analysis.specs.Analyses.{analysis}
use Rattle.cb_compdb.specs.Databases.{IsDatabase}
use Rattle.cb_measure.specs.Reading.{measurements}
use Rattle.cb_inputs.specs.declared.database.Database.{Database}
use Rattle.cb_inputs.specs.declared.kept_analysis.KeptAnalysis.{KeptAnalysis}
use Rattle.cb_inputs.specs.declared.kept_rows.KeptRows.{KeptRows}
use Rattle.cb_inputs.specs.declared.source.Source.{Source}
use Rattle.cb_inputs.specs.Analysis.{IsReadAnalysis}
use Rattle.cb_inputs.specs.Databases.{IsReadDatabase}
use Rattle.cb_inputs.specs.Measurements.{AreReadRows}
use Rattle.cb_inputs.specs.Sources.{IsReadSource}
use Rattle.cb_inputs.proofs.KeptReadings.{each_says, maybe_says}
use Rattle.cb_inputs.proofs.inputs.are_read.Goals as goal

pub returns-clause-known : goal.returns-clause-known
returns-clause-known c = record {
  analysis = maybe_says (λ bytes contents. analysis bytes ≡ Ok contents) IsReadAnalysis (λ (kept : KeptAnalysis). kept.bytes) (λ (kept : KeptAnalysis). kept.contents) (λ kept h. h.says) c.args.analysis.now c.get.ensures.read;
  databases = each_says IsDatabase IsReadDatabase (λ (database : Database). database.bytes) (λ (database : Database). database.entries) (λ database h. h.says) c.args.databases.now c.len.ensures.read;
  sources = each_says (λ bytes nodes. IsRead bytes (Sound nodes)) IsReadSource (λ (source : Source). source.bytes) (λ (source : Source). source.tree) (λ source h. h.says) c.args.sources.now c.len-2.ensures.read;
  measurements = maybe_says (λ bytes rows. measurements bytes ≡ Ok rows) AreReadRows (λ (kept : KeptRows). kept.bytes) (λ (kept : KeptRows). kept.rows) (λ kept h. h.says) c.args.measurements.now c.get-2.ensures.read;
}
