-- The texts of reports.
use Rattle.std.specs.Prelude.{◌≡◌, ℕ, List}
use Rattle.cb_reports.specs.declared.figures.Figures.{Figures}
use Rattle.cb_reports.specs.declared.kind.Kind.{Kind}
use Rattle.cb_reports.specs.declared.kind.Kind.TheVariants.{Summary, Files, Clustering, Duplicates, Efficiency, Cascade, Portability, Navigation, Notes}
use Rattle.cb_reports.specs.declared.run_report.RunReport.TheVariants as of
use Rattle.cb_reports.specs.Summary.{summary_text}
use Rattle.cb_reports.specs.Files.{files_text}
use Rattle.cb_reports.specs.Clustering.{IsClusteringText}
use Rattle.cb_reports.specs.Duplicates.{duplicates_text}
use Rattle.cb_reports.specs.Measurements.{measurements_text}
use Rattle.cb_reports.specs.Notes.{notes_text}

-- the text of a kind of report; it is one (own)
abbrev pub IsReport : Kind → Figures → List ℕ → Type 0
IsReport Summary f text = text ≡ summary_text f.platforms f.setmap f.pairs
IsReport Files f text = text ≡ files_text f.platforms f.files
IsReport Clustering f text = IsClusteringText f.platforms f.pairs text
IsReport Duplicates f text = text ≡ duplicates_text f.groups
IsReport Efficiency f text = text ≡ measurements_text of.Efficiency f.pairs f.rows
IsReport Cascade f text = text ≡ measurements_text of.Cascade f.pairs f.rows
IsReport Portability f text = text ≡ measurements_text of.Portability f.pairs f.rows
IsReport Navigation f text = text ≡ measurements_text of.Navigation f.pairs f.rows
IsReport Notes f text = text ≡ notes_text f.databases f.idle f.notes
