-- What is read from the bytes of a file.
use Rattle.std.proofs.Common.{◌≡◌, ℕ, Bool, true, false, if◌then◌else◌, List, [], Option, Some, None, Result, Ok, Err, map, refl, ◌∙◌, subst, codes, option_and_then}
use Rattle.std.specs.List.{filter_map}
use Rattle.std.specs.Str.{is_utf8, IsUtf8}
use Rattle.std.proofs.lemmas.Str.{IsUtf8-from_is_utf8, is_utf8-from_IsUtf8}
use Rattle.toml.specs.Data.{Data, Members, as_str}
use Rattle.toml.specs.Parse.{parse_document}
use Rattle.toml.specs.Errors.{IsMemory}
use Rattle.toml.specs.declared.de.error.Error.{Error}
use Rattle.cb_analysis.specs.Faults.{first_of, faults_of, platforms_faults, codebase_faults, list_faults, unless, Tells}
use Rattle.cb_analysis.specs.Tables.{is_absent_or, is_table, is_text, at_key, codebase_at, platform_at, entries_in, texts_in}
use Rattle.cb_analysis.specs.Patterns.{pattern_of}
use Rattle.cb_analysis.proofs.Entries.{first_behind, first_next, tells_in_front, tells_behind, tells_first, tells_next}
use Rattle.cb_analysis.specs.Analyses.{Contents, analysis, reading_of, contents_of, platform_of, unless_faulty, Refuses}
use Rattle.cb_analysis.specs.declared.fault.AnalysisKind.TheVariants.{NotToml, WrongType}
use Rattle.cb_analysis.specs.declared.fault.BadAnalysis.{BadAnalysis}
use Rattle.cb_analysis.specs.declared.fault.AnalysisFault.{AnalysisFault}
use Rattle.cb_analysis.specs.declared.fault.AnalysisFault.TheVariants.{Bad, NoMemory}

-- a file with a table
pub with_table : (bytes : List ℕ) (t : Members) → IsUtf8 bytes → parse_document bytes ≡ Some t
    → analysis bytes ≡ unless_faulty (first_of (faults_of t)) (contents_of t)
unfolding analysis
with_table bytes t text parsed = rw (is_utf8-from_IsUtf8 bytes text, parsed) refl

table_case : (bytes : List ℕ) (b : Bool) (document : Option Members) → (b ≡ true → document ≡ None)
    → reading_of (if b then document else None) ≡ Err (record { kind = NotToml; place = [] })
table_case bytes true document h = rw (h refl) refl
table_case bytes false document h = refl

-- a file without one
pub without_table : (bytes : List ℕ) → (IsUtf8 bytes → parse_document bytes ≡ None) → analysis bytes ≡ Err (record { kind = NotToml; place = [] })
unfolding analysis
without_table bytes h = table_case bytes (is_utf8 bytes) (parse_document bytes) (λ e. h (IsUtf8-from_is_utf8 bytes e))

pub refuses : (e : AnalysisFault) (fault : Option BadAnalysis) (contents : Contents) → Tells e fault → Refuses e (unless_faulty fault contents)
refuses (Bad bad) fault contents h = rw h refl
refuses NoMemory fault contents h = h

none_case : (o : Option Members) → ((t : Members) → o ≡ Some t → ⊥) → o ≡ None
none_case None h = refl
none_case (Some t) h = absurd (h t refl)

pub no_table : (bytes : List ℕ) → ((t : Members) → IsUtf8 bytes → parse_document bytes ≡ Some t → ⊥) → analysis bytes ≡ Err (record { kind = NotToml; place = [] })
no_table bytes h = without_table bytes (λ text. none_case (parse_document bytes) (λ t. h t text))

-- what a table with these parts says

abbrev answer : Members → Result Contents BadAnalysis
answer t = unless_faulty (first_of (faults_of t)) (contents_of t)

pub in_platforms : (t : Members) (e : AnalysisFault) → Tells e (first_of (platforms_faults t)) → Refuses e (answer t)
in_platforms t e h = refuses e _ (contents_of t) (tells_in_front e (platforms_faults t) (codebase_faults (codebase_at t)) h)

behind_platforms : (t : Members) (e : AnalysisFault) → first_of (platforms_faults t) ≡ None
    → Tells e (first_of (codebase_faults (codebase_at t))) → Refuses e (answer t)
behind_platforms t e p h = refuses e _ (contents_of t) (tells_behind e (platforms_faults t) (codebase_faults (codebase_at t)) p h)

-- no fault of the table `codebase` itself, of its root, of a list of patterns
abbrev codebase_fault : Option Data → Option BadAnalysis
codebase_fault codebase = unless (is_absent_or is_table codebase) WrongType (codes "codebase")

abbrev root_fault : Option Data → Option BadAnalysis
root_fault root = unless (is_absent_or is_text root) WrongType (codes "codebase.root")

pub in_codebase : (t : Members) (e : AnalysisFault) → first_of (platforms_faults t) ≡ None → Tells e (codebase_fault (codebase_at t)) → Refuses e (answer t)
in_codebase t e p h = behind_platforms t e p (tells_first e (codebase_fault (codebase_at t)) _ h)

pub in_root : (t : Members) (root : Option Data) (e : AnalysisFault) → root ≡ at_key (codes "root") (codebase_at t)
    → first_of (platforms_faults t) ≡ None → codebase_fault (codebase_at t) ≡ None → Tells e (root_fault root) → Refuses e (answer t)
in_root t root e is p c h =
    behind_platforms t e p (tells_next e (codebase_fault (codebase_at t)) _ c
    (tells_first e (root_fault (at_key (codes "root") (codebase_at t))) _ (subst (λ r. Tells e (root_fault r)) is h)))

pub in_exclude : (t : Members) (root exclude : Option Data) (e : AnalysisFault) → root ≡ at_key (codes "root") (codebase_at t)
    → exclude ≡ at_key (codes "exclude") (codebase_at t) → first_of (platforms_faults t) ≡ None → codebase_fault (codebase_at t) ≡ None
    → root_fault root ≡ None → Tells e (first_of (list_faults (codes "codebase.exclude") exclude)) → Refuses e (answer t)
in_exclude t root exclude e is_root is_exclude p c r h =
    behind_platforms t e p (tells_next e (codebase_fault (codebase_at t)) _ c
    (tells_next e (root_fault (at_key (codes "root") (codebase_at t))) _ (subst (λ r. root_fault r ≡ None) is_root r)
    (tells_in_front e (list_faults (codes "codebase.exclude") (at_key (codes "exclude") (codebase_at t))) _
    (subst (λ x. Tells e (first_of (list_faults (codes "codebase.exclude") x))) is_exclude h))))

pub in_skip : (t : Members) (root exclude skip : Option Data) (e : AnalysisFault) → root ≡ at_key (codes "root") (codebase_at t)
    → exclude ≡ at_key (codes "exclude") (codebase_at t) → skip ≡ at_key (codes "skip") (codebase_at t)
    → first_of (platforms_faults t) ≡ None → codebase_fault (codebase_at t) ≡ None
    → root_fault root ≡ None → first_of (list_faults (codes "codebase.exclude") exclude) ≡ None
    → Tells e (first_of (list_faults (codes "codebase.skip") skip)) → Refuses e (answer t)
in_skip t root exclude skip e is_root is_exclude is_skip p c r x h =
    behind_platforms t e p (tells_next e (codebase_fault (codebase_at t)) _ c
    (tells_next e (root_fault (at_key (codes "root") (codebase_at t))) _ (subst (λ r. root_fault r ≡ None) is_root r)
    (tells_behind e (list_faults (codes "codebase.exclude") (at_key (codes "exclude") (codebase_at t))) _
    (subst (λ x. first_of (list_faults (codes "codebase.exclude") x) ≡ None) is_exclude x)
    (subst (λ s. Tells e (first_of (list_faults (codes "codebase.skip") s))) is_skip h))))

pub without_fault : (t : Members) (root exclude skip : Option Data) (contents : Contents) → root ≡ at_key (codes "root") (codebase_at t)
    → exclude ≡ at_key (codes "exclude") (codebase_at t) → skip ≡ at_key (codes "skip") (codebase_at t)
    → first_of (platforms_faults t) ≡ None → codebase_fault (codebase_at t) ≡ None
    → root_fault root ≡ None → first_of (list_faults (codes "codebase.exclude") exclude) ≡ None
    → first_of (list_faults (codes "codebase.skip") skip) ≡ None
    → contents.platforms ≡ filter_map platform_of (entries_in (platform_at t)) → contents.root ≡ option_and_then as_str root
    → contents.exclude ≡ map pattern_of (texts_in exclude) → contents.skip ≡ map pattern_of (texts_in skip)
    → answer t ≡ Ok contents
without_fault t root exclude skip contents is_root is_exclude is_skip p c r x s platforms root' exclude' skip' =
    let none : first_of (faults_of t) ≡ None =
    first_behind (platforms_faults t) (codebase_faults (codebase_at t)) p
    ∙ first_next (codebase_fault (codebase_at t)) _ c
    ∙ first_next (root_fault (at_key (codes "root") (codebase_at t))) _ (subst (λ r. root_fault r ≡ None) is_root r)
    ∙ first_behind (list_faults (codes "codebase.exclude") (at_key (codes "exclude") (codebase_at t))) _ (subst (λ x. first_of (list_faults (codes "codebase.exclude") x) ≡ None) is_exclude x)
    ∙ subst (λ s. first_of (list_faults (codes "codebase.skip") s) ≡ None) is_skip s in
    rw none (rw (← is_root, ← is_exclude, ← is_skip, ← platforms, ← root', ← exclude', ← skip') refl)

-- the crate refuses a file
pub refused : (bytes : List ℕ) (e : AnalysisFault) (error : Error)
    → ((bad : BadAnalysis) → e ≡ Bad bad → (bad ≡ record { kind = NotToml; place = [] }) × ¬ IsMemory error)
    → (¬ IsMemory error → IsUtf8 bytes → parse_document bytes ≡ None) → Refuses e (analysis bytes)
refused bytes (Bad bad) error h k =
    let is = h bad refl in
    rw is.0 (without_table bytes (k is.1))
refused bytes NoMemory error h k = tt
