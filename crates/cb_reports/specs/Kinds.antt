-- The kinds of reports.
use Rattle.std.specs.Prelude.{ℕ, List, codes}
use Rattle.cb_reports.specs.declared.kind.Kind.{Kind}
use Rattle.cb_reports.specs.declared.kind.Kind.TheVariants.{Summary, Files, Clustering, Duplicates, Efficiency, Cascade, Portability, Navigation, Notes}

-- the name of a kind (own)
abbrev pub name_of : Kind → List ℕ
name_of Summary = codes "summary"
name_of Files = codes "files"
name_of Clustering = codes "clustering"
name_of Duplicates = codes "duplicates"
name_of Efficiency = codes "efficiency"
name_of Cascade = codes "cascade"
name_of Portability = codes "portability"
name_of Navigation = codes "navigation"
name_of Notes = codes "notes"
