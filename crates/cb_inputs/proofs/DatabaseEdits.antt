-- What comes of an edit of a database.
use Rattle.std.proofs.Common.{◌≡◌, ◌⊎◌, ◌∙◌, ℕ, ◌≤◌, Bool, true, false, List, Option, Some, None, Result, Ok, Err, OnOk, OnErr, IfErr, ◌↔◌, refl, sym, ap, subst, inl, inr, length, arith}
use Rattle.std.specs.Prelude.{option_map, cond}
use Rattle.std.specs.BTreeMap.{is_at}
use Rattle.std.specs.Map.{keys_of, remove_entry}
use Rattle.std.specs.List.Sorted.{IsStrictlySortedBy}
use Rattle.std.specs.Ordering.{nat_cmp}
use Rattle.std.specs.Cmp.Lexicographic.{slice_cmp}
use Rattle.std.proofs.lemmas.Cmp.{nat_list_cmp_total, eq_by_cmp_equiv}
use Rattle.std.proofs.lemmas.List.Sums.{sum_by-le-sum_by}
use Rattle.std.proofs.lemmas.Map.{lookup-remove_entry}
use Rattle.std.proofs.lemmas.Map.Keys.{IsDistinct-from_sorted}
use Rattle.std.proofs.lemmas.Map.Made.{lookup-map_values}
use Rattle.cb_analysis.specs.declared.platform.Platform.{Platform}
use Rattle.cb_outside.specs.Tables.{Texts, removed, text_at}
use Rattle.cb_inputs.specs.declared.database.Database.{Database}
use Rattle.cb_inputs.specs.declared.kept_analysis.KeptAnalysis.{KeptAnalysis}
use Rattle.cb_inputs.specs.declared.kept_rows.KeptRows.{KeptRows}
use Rattle.cb_inputs.specs.declared.source.Source.{Source}
use Rattle.cb_inputs.specs.declared.refused.Refused.{Refused}
use Rattle.cb_inputs.specs.declared.refused.Refused.TheVariants.{Absent}
use Rattle.cb_inputs.specs.Texts.{ByPath, value_at}
use Rattle.cb_inputs.specs.Refusals.{IsOutside}
use Rattle.cb_inputs.specs.Databases.{database_entries, database_texts}
use Rattle.cb_inputs.specs.Inputs.{Inputs, RemoveDatabase}
use Rattle.cb_inputs.specs.Commands.{command_count, entries_at, platforms_of}
use Rattle.cb_inputs.specs.Outcomes.{Accepts, Denies, IsOutcome, absent, removes}
use Rattle.cb_inputs.specs.inner.Kept.{known_of}
use Rattle.cb_inputs.proofs.EntryCounts.{entries_there}

-- without the database at a path no other has more entries

module _ (databases : ByPath Database) (path : List ℕ) (rising : IsStrictlySortedBy (slice_cmp nat_cmp) (keys_of databases)) where
  abbrev rest : ByPath Database
  rest = remove_entry (is_at (slice_cmp nat_cmp path)) databases

  fewer_entries : (q : List ℕ) → length (entries_at (database_entries rest) q) ≤ length (entries_at (database_entries databases) q)
  fewer_entries q =
      let equal = eq_by_cmp_equiv nat_list_cmp_total in
      by (is_at (slice_cmp nat_cmp path) q) (value_at q databases)
      (lookup-remove_entry equal (is_at (slice_cmp nat_cmp path)) (equal.congr path) q databases (IsDistinct-from_sorted (slice_cmp nat_cmp) (keys_of databases) rising))
      refl
    where
      by : (b : Bool) (o : Option Database) → value_at q rest ≡ cond b None o → value_at q databases ≡ o
          → length (entries_at (database_entries rest) q) ≤ length (entries_at (database_entries databases) q)
      by true o gone here =
          let none : length (entries_at (database_entries rest) q) ≡ 0 = ap length (entries_there rest q None gone) in
          omega (arith, none)
      by false o gone here =
          let same = ap length (entries_there rest q o gone ∙ sym (entries_there databases q o here)) in
          omega (arith, same)

  -- so the commands stay within their limit
  pub still_few : {T : Type 0} (result : Result T Refused) (now : ByPath Database) (analysis : Option KeptAnalysis) (sources : ByPath Source) (measurements : Option KeptRows)
      → command_count (known_of analysis databases sources measurements) ≤ 20000 → OnOk result (now ≡ rest) → OnErr result (now ≡ databases)
      → command_count (known_of analysis now sources measurements) ≤ 20000
  still_few (Ok x) now analysis sources measurements few gone same =
      let fewer = sum_by-le-sum_by (λ (platform : Platform). length (entries_at (database_entries rest) platform.commands))
      (λ (platform : Platform). length (entries_at (database_entries databases) platform.commands))
      (platforms_of (option_map (λ (kept : KeptAnalysis). kept.contents) analysis)) (λ platform. fewer_entries platform.commands) in
      subst (λ (ds : ByPath Database). command_count (known_of analysis ds sources measurements) ≤ 20000) (sym gone) (omega (arith, fewer, few))
  still_few (Err refused) now analysis sources measurements few gone same =
      subst (λ (ds : ByPath Database). command_count (known_of analysis ds sources measurements) ≤ 20000) (sym same) few

-- where no database stands, no text stands

no_value : {A B : Type 0} (f : A → B) (o : Option A) → option_map f o ≡ None → o ≡ None
no_value f None e = refl
no_value f (Some x) e = cc

pub absent_text : {P : Type 0} (databases : ByPath Database) (path : List ℕ) → (P ↔ (value_at path databases ≡ None)) → P ↔ (text_at path (database_texts databases) ≡ None)
absent_text databases path h =
    let same = lookup-map_values (λ (database : Database). database.bytes) (is_at (slice_cmp nat_cmp path)) databases in (
      (λ p. same ∙ ap (option_map (λ (database : Database). database.bytes)) (h.0 p)),
      (λ e. h.1 (no_value (λ (database : Database). database.bytes) (value_at path databases) (sym same ∙ e))),
    )

-- what the databases answer to a removal, for the inputs

module _ (i : Inputs) (path : List ℕ) where
  no_error : {T : Type 0} (result : Result T Refused) (x : T) → result ≡ Ok x → result ≡ Err Absent → ⊥
  no_error result x h e = cc

  pub removed_so : {T : Type 0} (result : Result T Refused) (now : Texts) → OnOk result (now ≡ removed path i.databases)
      → ((result ≡ Err Absent) ↔ (text_at path i.databases ≡ None))
      → OnOk result (IsOutcome i (RemoveDatabase path) (Accepts (record i { databases = now })))
  removed_so (Ok x) now same none =
      subst (λ (t : Texts). IsOutcome i (RemoveDatabase path) (Accepts (record i { databases = t }))) (sym same)
      (removes refl (λ h. no_error (Ok x) x refl (none.1 h)))
  removed_so (Err refused) now same none = same

  pub not_removed : {T : Type 0} (result : Result T Refused) → IfErr result (λ refused. IsOutside refused ⊎ (refused ≡ Absent))
      → ((result ≡ Err Absent) ↔ (text_at path i.databases ≡ None))
      → IfErr result (λ refused. IsOutside refused ⊎ IsOutcome i (RemoveDatabase path) (Denies refused))
  not_removed (Ok x) h none = h
  not_removed (Err refused) (inl h) none = inl h
  not_removed (Err refused) (inr e) none =
      inr (subst (λ (r : Refused). IsOutcome i (RemoveDatabase path) (Denies r)) (sym e) (absent (none.0 (ap Err e))))
