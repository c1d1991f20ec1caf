-- What comes of a put of a database.
use Rattle.std.proofs.Common.{◌≡◌, ◌⊎◌, ◌∙◌, ℕ, ◌<◌, ◌≤◌, Bool, true, false, List, [], ◌∷◌, ◌++◌, length, Option, Some, None, Result, Ok, Err, OnOk, OnErr, refl, sym, ap, subst, inl, inr}
use Rattle.std.specs.Prelude.{nat_lt, if◌then◌else◌}
use Rattle.std.specs.BTreeMap.{insert_entry}
use Rattle.std.specs.Ordering.{nat_cmp}
use Rattle.std.specs.Cmp.Lexicographic.{slice_cmp}
use Rattle.cb_compdb.specs.declared.entry.Entry.{Entry}
use Rattle.cb_compdb.specs.Databases.{IsDatabase}
use Rattle.cb_outside.specs.Tables.{Texts, put}
use Rattle.cb_inputs.specs.declared.database.Database.{Database}
use Rattle.cb_inputs.specs.declared.kept_analysis.KeptAnalysis.{KeptAnalysis}
use Rattle.cb_inputs.specs.declared.kept_rows.KeptRows.{KeptRows}
use Rattle.cb_inputs.specs.declared.source.Source.{Source}
use Rattle.cb_inputs.specs.declared.refused.BodyFault.{BodyFault}
use Rattle.cb_inputs.specs.declared.refused.LimitName.{LimitName}
use Rattle.cb_inputs.specs.declared.refused.LimitName.TheVariants as limit
use Rattle.cb_inputs.specs.declared.refused.Refused.{Refused}
use Rattle.cb_inputs.specs.declared.refused.Refused.TheVariants.{Body, Absent, Limit, Store, NoMemory}
use Rattle.cb_inputs.specs.Texts.{ByPath, bytes_in, first_over, most, source_amounts, database_amounts}
use Rattle.cb_inputs.specs.Refusals.{IsDatabaseFault}
use Rattle.cb_inputs.specs.Inputs.{Inputs, PutDatabase, after}
use Rattle.cb_inputs.specs.Readings.{Known, IsKnown}
use Rattle.cb_inputs.specs.Commands.{command_count}
use Rattle.cb_inputs.specs.Outcomes.{amounts, Accepts, Denies, IsOutcome, faulty, over, puts}
use Rattle.cb_inputs.specs.inner.Kept.{TellsPut, SaysEntries, known_of}
use Rattle.cb_inputs.proofs.KeptReadings.{next_amount, says_put}
use Rattle.cb_inputs.proofs.FileEdits.{skipped, last_amount}

-- the first amount over its limit stays the first before others
first_kept : (some more : List (LimitName × ℕ)) (told : LimitName × ℕ) → first_over some ≡ Some told → first_over (some ++ more) ≡ Some told
first_kept [] more told h = cc
first_kept ((name, n) ∷ some) more told h = by (nat_lt (most name) n) h (first_kept some more told)
  where
    by : (b : Bool) → (if b then Some (name, n) else first_over some) ≡ Some told → (first_over some ≡ Some told → first_over (some ++ more) ≡ Some told)
        → (if b then Some (name, n) else first_over (some ++ more)) ≡ Some told
    by true h later = h
    by false h later = later h

pub both_within : (texts : Texts) → length texts ≤ 64 → bytes_in texts ≤ 268435456 → first_over (database_amounts texts) ≡ None
both_within texts few within =
    next_amount limit.Databases (length texts) ((limit.DatabaseBytes, bytes_in texts) ∷ []) few ∙ next_amount limit.DatabaseBytes (bytes_in texts) [] within

module _ (i : Inputs) (ours : Known) (known : IsKnown i ours) (few : first_over (source_amounts i.sources) ≡ None) (path bytes : List ℕ) where
  abbrev texts : Texts
  texts = put path bytes i.databases

  abbrev with_database : Inputs
  with_database = after (PutDatabase path bytes) i

  abbrev pub mine : List Entry → Known
  mine entries = record ours { databases = insert_entry (slice_cmp nat_cmp) ours.databases path entries }

  known_then : (entries : List Entry) → IsDatabase bytes entries → IsKnown with_database (mine entries)
  known_then entries says = record {
    analysis = known.analysis;
    databases = says_put IsDatabase path bytes entries says i.databases ours.databases known.databases;
    sources = known.sources;
    measurements = known.measurements;
  }

  -- the sources are within their limits
  first_then : (k : Known) → first_over (amounts with_database k) ≡ first_over (database_amounts texts ++ (limit.Commands, command_count k) ∷ [])
  first_then k = skipped (source_amounts i.sources) (database_amounts texts ++ (limit.Commands, command_count k) ∷ []) few

  -- what a database is refused for before its commands are counted
  pub not_ready : (refused : Refused) → TellsPut (IsDatabaseFault bytes) (database_amounts texts) refused
      → ((name : LimitName) (n : ℕ) → refused ≡ Limit name n → SaysEntries bytes)
      → (refused ≡ NoMemory) ⊎ IsOutcome i (PutDatabase path bytes) (Denies refused)
  not_ready (Body fault) h says = inr (faulty fault h)
  not_ready Absent h says = absurd h
  not_ready (Limit name n) h says =
      let some = says name n refl in
      let k : Known = mine some.0 in
      inr (over k name n (refl, h.0) (known_then some.0 some.1)
      (first_then k ∙ first_kept (database_amounts texts) ((limit.Commands, command_count k) ∷ []) (name, n) h.1))
  not_ready Store h says = absurd h
  not_ready NoMemory h says = inl refl

  -- and what comes of it when they are

  module _ (within : first_over (database_amounts texts) ≡ None) (none : (fault : BodyFault) → IsDatabaseFault bytes fault → ⊥)
      (entries : List Entry) (says : IsDatabase bytes entries) where
    pub accepts : command_count (mine entries) ≤ 20000 → IsOutcome i (PutDatabase path bytes) (Accepts with_database)
    accepts h =
        let commands : List (LimitName × ℕ) = (limit.Commands, command_count (mine entries)) ∷ [] in
        let last : first_over commands ≡ None = next_amount limit.Commands (command_count (mine entries)) [] h in
        puts (mine entries) (refl, none) (known_then entries says) (first_then (mine entries) ∙ (skipped (database_amounts texts) commands within ∙ last))

    pub too_many : (n : ℕ) → n ≡ command_count (mine entries) → 20000 < n → IsOutcome i (PutDatabase path bytes) (Denies (Limit limit.Commands n))
    too_many n e more =
        let commands : List (LimitName × ℕ) = (limit.Commands, command_count (mine entries)) ∷ [] in
        let last : first_over commands ≡ Some (limit.Commands, n) = ap (λ m. first_over ((limit.Commands, m) ∷ [])) (sym e) ∙ last_amount limit.Commands n more in
        over (mine entries) limit.Commands n (refl, none) (known_then entries says) (first_then (mine entries) ∙ (skipped (database_amounts texts) commands within ∙ last))

-- the commands stay within their limit
pub still_few : {T : Type 0} (result : Result T Refused) (old now : ByPath Database) (path : List ℕ) (fresh : Database)
    (analysis : Option KeptAnalysis) (sources : ByPath Source) (measurements : Option KeptRows)
    → command_count (known_of analysis old sources measurements) ≤ 20000
    → command_count (known_of analysis (insert_entry (slice_cmp nat_cmp) old path fresh) sources measurements) ≤ 20000
    → OnOk result (now ≡ insert_entry (slice_cmp nat_cmp) old path fresh) → OnErr result (now ≡ old)
    → command_count (known_of analysis now sources measurements) ≤ 20000
still_few (Ok x) old now path fresh analysis sources measurements few few_then entries same =
    subst (λ (ds : ByPath Database). command_count (known_of analysis ds sources measurements) ≤ 20000) (sym entries) few_then
still_few (Err refused) old now path fresh analysis sources measurements few few_then entries same =
    subst (λ (ds : ByPath Database). command_count (known_of analysis ds sources measurements) ≤ 20000) (sym same) few
