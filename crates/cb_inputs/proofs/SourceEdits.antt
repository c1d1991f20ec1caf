-- What comes of an edit of a source.
use Rattle.std.proofs.Common.{◌≡◌, ◌⊎◌, ◌∙◌, ℕ, ◌≤◌, List, [], ◌∷◌, ◌++◌, Option, Some, None, Result, Ok, Err, OnOk, IfErr, ◌↔◌, refl, sym, ap, subst, inl, inr}
use Rattle.std.specs.Prelude.{option_map}
use Rattle.std.specs.BTreeMap.{insert_entry, is_at}
use Rattle.std.specs.Ordering.{nat_cmp}
use Rattle.std.specs.Cmp.Lexicographic.{slice_cmp}
use Rattle.std.proofs.lemmas.Map.Made.{lookup-map_values}
use Rattle.cb_tree.specs.Sound.{IsRead, Sound}
use Rattle.cb_outside.specs.Tables.{Texts, put, removed, text_at}
use Rattle.cb_inputs.specs.declared.refused.LimitName.{LimitName}
use Rattle.cb_inputs.specs.declared.refused.LimitName.TheVariants as limit
use Rattle.cb_inputs.specs.declared.refused.Refused.{Refused}
use Rattle.cb_inputs.specs.declared.refused.Refused.TheVariants.{Body, Absent, Limit, Store, NoMemory}
use Rattle.cb_inputs.specs.Texts.{ByPath, first_over, source_amounts, database_amounts, value_at}
use Rattle.cb_inputs.specs.Refusals.{IsDenied, IsOutside, IsSourceFault}
use Rattle.cb_inputs.specs.declared.source.Source.{Source}
use Rattle.cb_inputs.specs.Sources.{IsSource, source_texts}
use Rattle.cb_inputs.specs.Inputs.{Inputs, PutSource, RemoveSource, after}
use Rattle.cb_inputs.specs.Readings.{Known, IsKnown}
use Rattle.cb_inputs.specs.Commands.{command_count}
use Rattle.cb_inputs.specs.Outcomes.{amounts, Outcome, Accepts, Denies, IsOutcome, absent, removes, faulty, over, puts}
use Rattle.cb_inputs.proofs.KeptReadings.{next_amount, passed_over, says_put}

-- inputs and what they say: one thing, with databases and commands within the limits
pub record Stands (i : Inputs) (ours : Known) : Type 0 where
  pub law : (j : Inputs) (some other : Known) → IsKnown j some → IsKnown j other → some ≡ other
  pub known : IsKnown i ours
  pub within : first_over (database_amounts i.databases) ≡ None
  pub few : command_count ours ≤ 20000

module _ (i : Inputs) (ours : Known) (s : Stands i ours) (path bytes : List ℕ) where
  abbrev texts : Texts
  texts = put path bytes i.sources

  abbrev then : Inputs
  then = after (PutSource path bytes) i

  few_then : (k : Known) → IsKnown then k → command_count k ≤ 20000
  few_then k h =
      let same : Known = record k { analysis = ours.analysis; databases = ours.databases } in
      let is : IsKnown then same = record { analysis = s.known.analysis; databases = s.known.databases; sources = h.sources; measurements = h.measurements } in
      subst (λ n. n ≤ 20000) (sym (ap (λ x. command_count x) (s.law then k same h is))) s.few

  -- of the limits that a source can pass the first decides
  first_same : (k : Known) → IsKnown then k → first_over (amounts then k) ≡ first_over (source_amounts texts)
  first_same k h =
      passed_over (source_amounts texts) (database_amounts i.databases ++ (limit.Commands, command_count k) ∷ [])
      (passed_over (database_amounts i.databases) ((limit.Commands, command_count k) ∷ []) (next_amount limit.Commands (command_count k) [] (few_then k h)) ∙ s.within)

  known_then : IsSource bytes → (k : Known) × IsKnown then k
  known_then source = (
    record ours { sources = insert_entry (slice_cmp nat_cmp) ours.sources path source.0 },
    record {
      analysis = s.known.analysis;
      databases = s.known.databases;
      sources = says_put (λ text nodes. IsRead text (Sound nodes)) path bytes source.0 source.1 i.sources ours.sources s.known.sources;
      measurements = s.known.measurements;
    },
  )

  -- why the sources refuse a put is why the inputs refuse it
  denies : (refused : Refused) → IsDenied (IsSourceFault bytes) (source_amounts texts) refused
      → ((name : LimitName) (n : ℕ) → refused ≡ Limit name n → IsSource bytes) → IsOutcome i (PutSource path bytes) (Denies refused)
  denies (Body fault) h source = faulty fault h
  denies Absent h source = absurd h
  denies (Limit name n) h source =
      let k = known_then (source name n refl) in
      over k.0 name n (refl, h.0) k.1 (first_same k.0 k.1 ∙ h.1)
  denies Store h source = absurd h
  denies NoMemory h source = absurd h

  abbrev IsDeniedSo : Outcome → Type 0
  IsDeniedSo (Denies refused) = IsDenied (IsSourceFault bytes) (source_amounts texts) refused
  IsDeniedSo (Accepts j) = Unit {0}

  -- and why the inputs refuse it is why the sources do
  pub denied : (outcome : Outcome) → IsOutcome i (PutSource path bytes) outcome → IsDeniedSo outcome
  denied _ (absent h) = absurd h
  denied _ (removes p h) = tt
  denied _ (faulty fault h) = h
  denied _ (over k name n good known first) = (good.1, sym (first_same k known) ∙ first)
  denied _ (puts k good known first) = tt

  none_over : (o : Option (LimitName × ℕ)) → first_over (source_amounts texts) ≡ o
      → ((refused : Refused) → IsDenied (IsSourceFault bytes) (source_amounts texts) refused → ⊥) → o ≡ None
  none_over None e none = refl
  none_over (Some passed) e none = absurd (none (Limit passed.0 passed.1) ((λ fault h. none (Body fault) h), e))

  accepts : IsSource bytes → ((refused : Refused) → IsDenied (IsSourceFault bytes) (source_amounts texts) refused → ⊥)
      → IsOutcome i (PutSource path bytes) (Accepts then)
  accepts source none =
      let k = known_then source in
      puts k.0 (refl, λ fault h. none (Body fault) h) k.1 (first_same k.0 k.1 ∙ none_over (first_over (source_amounts texts)) refl none)

  -- what the sources answer, for the inputs

  not_both : {T : Type 0} (result : Result T Refused) (x : T) → result ≡ Ok x → (refused : Refused) → (result ≡ Err refused) ⊎ (result ≡ Err NoMemory) → ⊥
  not_both result x h refused (inl e) = cc
  not_both result x h refused (inr e) = cc

  pub accepted : {T : Type 0} (result : Result T Refused) (now : Texts) → OnOk result (now ≡ texts) → OnOk result (IsSource bytes)
      → ((refused : Refused) → IsDenied (IsSourceFault bytes) (source_amounts texts) refused → (result ≡ Err refused) ⊎ (result ≡ Err NoMemory))
      → OnOk result (IsOutcome i (PutSource path bytes) (Accepts (record i { sources = now })))
  accepted (Ok x) now same source every =
      subst (λ (t : Texts). IsOutcome i (PutSource path bytes) (Accepts (record i { sources = t }))) (sym same)
      (accepts source (λ refused h. not_both (Ok x) x refl refused (every refused h)))
  accepted (Err refused) now same source every = same

  pub cause : {T : Type 0} (result : Result T Refused)
      → IfErr result (λ refused. IsOutside refused ⊎ IsDenied (IsSourceFault bytes) (source_amounts texts) refused)
      → ((name : LimitName) (n : ℕ) → result ≡ Err (Limit name n) → IsSource bytes)
      → IfErr result (λ refused. IsOutside refused ⊎ IsOutcome i (PutSource path bytes) (Denies refused))
  cause (Ok x) h source = h
  cause (Err refused) (inl h) source = inl h
  cause (Err refused) (inr h) source = inr (denies refused h (λ name n e. source name n (ap Err e)))

-- where no source stands, no text stands

no_value : {A B : Type 0} (f : A → B) (o : Option A) → option_map f o ≡ None → o ≡ None
no_value f None e = refl
no_value f (Some x) e = cc

pub absent_text : {P : Type 0} (sources : ByPath Source) (path : List ℕ) → (P ↔ (value_at path sources ≡ None)) → P ↔ (text_at path (source_texts sources) ≡ None)
absent_text sources path h =
    let same = lookup-map_values (λ (source : Source). source.bytes) (is_at (slice_cmp nat_cmp path)) sources in (
      (λ p. same ∙ ap (option_map (λ (source : Source). source.bytes)) (h.0 p)),
      (λ e. h.1 (no_value (λ (source : Source). source.bytes) (value_at path sources) (sym same ∙ e))),
    )

-- what the sources answer to a removal, for the inputs

module _ (i : Inputs) (path : List ℕ) where
  no_error : {T : Type 0} (result : Result T Refused) (x : T) → result ≡ Ok x → result ≡ Err Absent → ⊥
  no_error result x h e = cc

  pub removed_so : {T : Type 0} (result : Result T Refused) (now : Texts) → OnOk result (now ≡ removed path i.sources)
      → ((result ≡ Err Absent) ↔ (text_at path i.sources ≡ None))
      → OnOk result (IsOutcome i (RemoveSource path) (Accepts (record i { sources = now })))
  removed_so (Ok x) now same none =
      subst (λ (t : Texts). IsOutcome i (RemoveSource path) (Accepts (record i { sources = t }))) (sym same)
      (removes refl (λ h. no_error (Ok x) x refl (none.1 h)))
  removed_so (Err refused) now same none = same

  pub not_removed : {T : Type 0} (result : Result T Refused) → IfErr result (λ refused. IsOutside refused ⊎ (refused ≡ Absent))
      → ((result ≡ Err Absent) ↔ (text_at path i.sources ≡ None))
      → IfErr result (λ refused. IsOutside refused ⊎ IsOutcome i (RemoveSource path) (Denies refused))
  not_removed (Ok x) h none = h
  not_removed (Err refused) (inl h) none = inl h
  not_removed (Err refused) (inr e) none =
      inr (subst (λ (r : Refused). IsOutcome i (RemoveSource path) (Denies r)) (sym e) (absent (none.0 (ap Err e))))
