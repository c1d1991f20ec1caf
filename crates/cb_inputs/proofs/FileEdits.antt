-- What comes of an edit of the measurements or of the analysis.
use Rattle.std.proofs.Common.{◌≡◌, ◌⊎◌, ◌∙◌, ℕ, ◌<◌, ◌≤◌, Bool, true, false, List, [], ◌∷◌, ◌++◌, Option, Some, None, Result, Ok, Err, OnOk, IfErr, refl, sym, ap, subst, inl, inr, lt-ltb}
use Rattle.std.specs.Prelude.{nat_lt, if◌then◌else◌}
use Rattle.cb_analysis.specs.Analyses.{Contents, analysis}
use Rattle.cb_measure.specs.declared.row.Row.{Row}
use Rattle.cb_measure.specs.declared.bad_csv.BadCsv.{BadCsv}
use Rattle.cb_measure.specs.Reading.{measurements}
use Rattle.cb_inputs.specs.declared.refused.BodyFault.TheVariants as body
use Rattle.cb_inputs.specs.declared.refused.LimitName.{LimitName}
use Rattle.cb_inputs.specs.declared.refused.LimitName.TheVariants as limit
use Rattle.cb_inputs.specs.declared.refused.Refused.{Refused}
use Rattle.cb_inputs.specs.declared.refused.Refused.TheVariants.{Body, Absent, Limit, Store, NoMemory}
use Rattle.cb_inputs.specs.Texts.{first_over, most, source_amounts, database_amounts}
use Rattle.cb_inputs.specs.Refusals.{IsDenied, IsOutside, IsAnalysisFault, IsMeasurementsFault}
use Rattle.cb_inputs.specs.Inputs.{Inputs, PutAnalysis, PutMeasurements, after}
use Rattle.cb_inputs.specs.Readings.{Known, IsKnown}
use Rattle.cb_inputs.specs.Commands.{command_count}
use Rattle.cb_inputs.specs.Outcomes.{amounts, Outcome, Accepts, Denies, IsOutcome, absent, removes, faulty, over, puts}
use Rattle.cb_inputs.specs.inner.Kept.{TellsPut}
use Rattle.cb_inputs.proofs.AnalysisFaults.{contents_have_none}
use Rattle.cb_inputs.proofs.KeptReadings.{next_amount, passed_over}
use Rattle.cb_inputs.proofs.SourceEdits.{Stands}

-- sources and databases within their limits leave the limit on commands
pub only_commands : (i : Inputs) (k : Known) → first_over (source_amounts i.sources) ≡ None → first_over (database_amounts i.databases) ≡ None → command_count k ≤ 20000
    → first_over (amounts i k) ≡ None
only_commands i k sources databases few =
    let commands : List (LimitName × ℕ) = (limit.Commands, command_count k) ∷ [] in
    let last = next_amount limit.Commands (command_count k) [] few in
    passed_over (source_amounts i.sources) (database_amounts i.databases ++ commands) (passed_over (database_amounts i.databases) commands last ∙ databases) ∙ sources

module _ (i : Inputs) (ours : Known) (s : Stands i ours) (few : first_over (source_amounts i.sources) ≡ None) (bytes : List ℕ) where
  abbrev put_inputs : Inputs
  put_inputs = after (PutMeasurements bytes) i

  within_put : (k : Known) → IsKnown put_inputs k → first_over (amounts put_inputs k) ≡ None
  within_put k h =
      let same : Known = record k { analysis = ours.analysis; databases = ours.databases } in
      let is : IsKnown put_inputs same = record { analysis = s.known.analysis; databases = s.known.databases; sources = h.sources; measurements = h.measurements } in
      only_commands put_inputs k few s.within (subst (λ n. n ≤ 20000) (sym (ap (λ x. command_count x) (s.law put_inputs k same h is))) s.few)

  denies : (refused : Refused) → IsDenied (IsMeasurementsFault bytes) [] refused → IsOutcome i (PutMeasurements bytes) (Denies refused)
  denies (Body fault) h = faulty fault h
  denies Absent h = absurd h
  denies (Limit name n) h = let first : first_over [] ≡ Some (name, n) = h.1 in cc
  denies Store h = absurd h
  denies NoMemory h = absurd h

  abbrev IsDeniedSo : Outcome → Type 0
  IsDeniedSo (Denies refused) = IsDenied (IsMeasurementsFault bytes) [] refused
  IsDeniedSo (Accepts j) = Unit {0}

  -- why the inputs refuse measurements is why the file does
  pub denied : (outcome : Outcome) → IsOutcome i (PutMeasurements bytes) outcome → IsDeniedSo outcome
  denied _ (absent h) = absurd h
  denied _ (removes p h) = tt
  denied _ (faulty fault h) = h
  denied _ (over k name n good known first) = let none : first_over (amounts put_inputs k) ≡ None = within_put k known in cc
  denied _ (puts k good known first) = tt

  none_faulty : ((refused : Refused) → IsDenied (IsMeasurementsFault bytes) [] refused → ⊥) → (read : Result (List Row) BadCsv) → measurements bytes ≡ read
      → IsOutcome i (PutMeasurements bytes) (Accepts put_inputs)
  none_faulty none (Ok rows) e =
      let k : Known = record ours { measurements = Some rows } in
      let known : IsKnown put_inputs k = record { analysis = s.known.analysis; databases = s.known.databases; sources = s.known.sources; measurements = e } in
      puts k (refl, λ fault h. none (Body fault) h) known (within_put k known)
  none_faulty none (Err bad) e = absurd (none (Body (body.Csv bad)) e)

  not_both : {T : Type 0} (result : Result T Refused) (x : T) → result ≡ Ok x → (refused : Refused) → (result ≡ Err refused) ⊎ (result ≡ Err NoMemory) → ⊥
  not_both result x h refused (inl e) = cc
  not_both result x h refused (inr e) = cc

  -- what the file answers, for the inputs

  pub accepted : {T : Type 0} (result : Result T Refused) (now : Option (List ℕ)) → OnOk result (now ≡ Some bytes)
      → ((refused : Refused) → IsDenied (IsMeasurementsFault bytes) [] refused → (result ≡ Err refused) ⊎ (result ≡ Err NoMemory))
      → OnOk result (IsOutcome i (PutMeasurements bytes) (Accepts (record i { measurements = now })))
  accepted (Ok x) now same every =
      subst (λ (o : Option (List ℕ)). IsOutcome i (PutMeasurements bytes) (Accepts (record i { measurements = o }))) (sym same)
      (none_faulty (λ refused h. not_both (Ok x) x refl refused (every refused h)) (measurements bytes) refl)
  accepted (Err refused) now same every = same

  pub cause : {T : Type 0} (result : Result T Refused)
      → IfErr result (λ refused. IsOutside refused ⊎ IsDenied (IsMeasurementsFault bytes) [] refused)
      → IfErr result (λ refused. IsOutside refused ⊎ IsOutcome i (PutMeasurements bytes) (Denies refused))
  cause (Ok x) h = h
  cause (Err refused) (inl h) = inl h
  cause (Err refused) (inr h) = inr (denies refused h)

-- of amounts the first within their limits, the others decide
pub skipped : (some more : List (LimitName × ℕ)) → first_over some ≡ None → first_over (some ++ more) ≡ first_over more
skipped [] more h = refl
skipped ((name, n) ∷ some) more h = by (nat_lt (most name) n) h (skipped some more)
  where
    by : (b : Bool) → (if b then Some (name, n) else first_over some) ≡ None → (first_over some ≡ None → first_over (some ++ more) ≡ first_over more)
        → (if b then Some (name, n) else first_over (some ++ more)) ≡ first_over more
    by true h later = cc
    by false h later = later h

pub last_amount : (name : LimitName) (n : ℕ) → most name < n → first_over ((name, n) ∷ []) ≡ Some (name, n)
last_amount name n h = ap (λ b. if b then Some (name, n) else None) (lt-ltb (most name) n h)

module _ (i : Inputs) (ours : Known) (bytes : List ℕ) where
  abbrev with_analysis : Inputs
  with_analysis = after (PutAnalysis bytes) i

  -- what an analysis is refused for before its commands are counted
  pub not_read : (refused : Refused) → TellsPut (IsAnalysisFault bytes) [] refused → (refused ≡ NoMemory) ⊎ IsOutcome i (PutAnalysis bytes) (Denies refused)
  not_read (Body fault) h = inr (faulty fault h)
  not_read Absent h = absurd h
  not_read (Limit name n) h = let first : first_over [] ≡ Some (name, n) = h.1 in cc
  not_read Store h = absurd h
  not_read NoMemory h = inl refl

  module _ (known : IsKnown i ours) (few : first_over (source_amounts i.sources) ≡ None) (within : first_over (database_amounts i.databases) ≡ None)
      (contents : Contents) (says : analysis bytes ≡ Ok contents) where
    abbrev mine : Known
    mine = record ours { analysis = Some contents }

    known_mine : IsKnown with_analysis mine
    known_mine = record { analysis = says; databases = known.databases; sources = known.sources; measurements = known.measurements }

    pub accepts : command_count mine ≤ 20000 → IsOutcome i (PutAnalysis bytes) (Accepts with_analysis)
    accepts h = puts mine (refl, contents_have_none bytes contents says) known_mine (only_commands with_analysis mine few within h)

    pub too_many : (n : ℕ) → n ≡ command_count mine → 20000 < n → IsOutcome i (PutAnalysis bytes) (Denies (Limit limit.Commands n))
    too_many n e more =
        let commands : List (LimitName × ℕ) = (limit.Commands, command_count mine) ∷ [] in
        let first : first_over (amounts with_analysis mine) ≡ first_over commands = skipped (source_amounts i.sources) (database_amounts i.databases ++ commands) few ∙ skipped (database_amounts i.databases) commands within in
        over mine limit.Commands n (refl, contents_have_none bytes contents says) known_mine
        (first ∙ ap (λ m. first_over ((limit.Commands, m) ∷ [])) (sym e) ∙ last_amount limit.Commands n more)
