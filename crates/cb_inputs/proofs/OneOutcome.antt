-- One thing comes of an edit.
use Rattle.std.proofs.Common.{◌≡◌, ◌∙◌, ℕ, true, false, List, Some, None, refl, sym, ap}
use Rattle.cb_tree.specs.Sound.{IsRead, Reading}
use Rattle.cb_compdb.specs.declared.fault.BadDatabase.{BadDatabase}
use Rattle.cb_compdb.specs.Databases.{HasFault}
use Rattle.cb_inputs.specs.declared.refused.BodyFault.{BodyFault}
use Rattle.cb_inputs.specs.declared.refused.LimitName.{LimitName}
use Rattle.cb_inputs.specs.declared.refused.Refused.TheVariants as refused
use Rattle.cb_inputs.specs.Texts.{first_over}
use Rattle.cb_inputs.specs.Inputs.{Inputs, Edit, PutAnalysis, PutMeasurements, PutDatabase, PutSource, RemoveDatabase, RemoveSource, after}
use Rattle.cb_inputs.specs.Readings.{Known, IsKnown}
use Rattle.cb_inputs.specs.Outcomes.{HasBodyFault, is_put, RemovesNothing, amounts, Outcome, Denies, IsOutcome, absent, removes, faulty, over, puts}
use Rattle.cb_inputs.proofs.Denials.{told_of}
use Rattle.cb_inputs.proofs.AnalysisFaults as analysis
use Rattle.cb_inputs.proofs.DatabaseFaults as database
use Rattle.cb_inputs.proofs.MeasurementFaults as measurements
use Rattle.cb_inputs.proofs.SourceFaults as source

-- what lower crates say: a source and a database have one first fault, and inputs say one thing
pub record Laws : Type 0 where
  pub reading : (bytes : List ℕ) (a b : Reading) → IsRead bytes a → IsRead bytes b → a ≡ b
  pub fault : (bytes : List ℕ) (bad other : BadDatabase) → HasFault bytes bad → HasFault bytes other → bad ≡ other
  pub known : (i : Inputs) (some other : Known) → IsKnown i some → IsKnown i other → some ≡ other

one_fault : Laws → (edit : Edit) (fault other : BodyFault) → HasBodyFault edit fault → HasBodyFault edit other → fault ≡ other
one_fault L (PutAnalysis bytes) fault other h k = analysis.only_body bytes fault other h k
one_fault L (PutMeasurements bytes) fault other h k = measurements.only_body bytes fault other h k
one_fault L (PutDatabase path bytes) fault other h k = database.only_body L.fault bytes fault other h k
one_fault L (PutSource path bytes) fault other h k = source.only_body L.reading bytes fault other h k
one_fault L (RemoveDatabase path) fault other h k = absurd h
one_fault L (RemoveSource path) fault other h k = absurd h

-- only puts have faults, and only removals remove nothing

faulty_puts : (edit : Edit) (fault : BodyFault) → HasBodyFault edit fault → is_put edit ≡ true
faulty_puts (PutAnalysis bytes) fault h = refl
faulty_puts (PutMeasurements bytes) fault h = refl
faulty_puts (PutDatabase path bytes) fault h = refl
faulty_puts (PutSource path bytes) fault h = refl
faulty_puts (RemoveDatabase path) fault h = absurd h
faulty_puts (RemoveSource path) fault h = absurd h

absent_removes : (edit : Edit) (i : Inputs) → RemovesNothing edit i → is_put edit ≡ false
absent_removes (PutAnalysis bytes) i h = absurd h
absent_removes (PutMeasurements bytes) i h = absurd h
absent_removes (PutDatabase path bytes) i h = absurd h
absent_removes (PutSource path bytes) i h = absurd h
absent_removes (RemoveDatabase path) i h = refl
absent_removes (RemoveSource path) i h = refl

not_both : (edit : Edit) → is_put edit ≡ true → is_put edit ≡ false → ⊥
not_both edit h k = cc

one_limit : Laws → (i : Inputs) (k l : Known) (name other : LimitName) (n m : ℕ) → IsKnown i k → IsKnown i l
    → first_over (amounts i k) ≡ Some (name, n) → first_over (amounts i l) ≡ Some (other, m) → refused.Limit name n ≡ refused.Limit other m
one_limit L i k l name other n m x y p q =
    let e : first_over (amounts i k) ≡ first_over (amounts i l) = ap (λ j. first_over (amounts i j)) (L.known i k l x y) in
    ap told_of (sym p ∙ (e ∙ q))

some_or_none : {A : Type 0} {x : A} → Some x ≡ None → ⊥
some_or_none h = cc

over_or_within : Laws → (i : Inputs) (k l : Known) (name : LimitName) (n : ℕ) → IsKnown i k → IsKnown i l
    → first_over (amounts i k) ≡ Some (name, n) → first_over (amounts i l) ≡ None → ⊥
over_or_within L i k l name n x y p q =
    let e : first_over (amounts i k) ≡ first_over (amounts i l) = ap (λ j. first_over (amounts i j)) (L.known i k l x y) in
    some_or_none (sym p ∙ (e ∙ q))

pub one_outcome : Laws → (i : Inputs) (edit : Edit) (some other : Outcome) → IsOutcome i edit some → IsOutcome i edit other → some ≡ other
one_outcome L i edit _ _ (absent a) (absent b) = refl
one_outcome L i edit _ _ (absent a) (removes p b) = absurd (b a)
one_outcome L i edit _ _ (absent a) (faulty f h) = absurd (not_both edit (faulty_puts edit f h) (absent_removes edit i a))
one_outcome L i edit _ _ (absent a) (over k name n g x e) = absurd (not_both edit g.0 (absent_removes edit i a))
one_outcome L i edit _ _ (absent a) (puts k g x e) = absurd (not_both edit g.0 (absent_removes edit i a))
one_outcome L i edit _ _ (removes p a) (absent b) = absurd (a b)
one_outcome L i edit _ _ (removes p a) (removes q b) = refl
one_outcome L i edit _ _ (removes p a) (faulty f h) = absurd (not_both edit (faulty_puts edit f h) p)
one_outcome L i edit _ _ (removes p a) (over k name n g x e) = absurd (not_both edit g.0 p)
one_outcome L i edit _ _ (removes p a) (puts k g x e) = refl
one_outcome L i edit _ _ (faulty f h) (absent b) = absurd (not_both edit (faulty_puts edit f h) (absent_removes edit i b))
one_outcome L i edit _ _ (faulty f h) (removes q b) = absurd (not_both edit (faulty_puts edit f h) q)
one_outcome L i edit _ _ (faulty f h) (faulty f' h') = ap (λ x. Denies (refused.Body x)) (one_fault L edit f f' h h')
one_outcome L i edit _ _ (faulty f h) (over k name n g x e) = absurd (g.1 f h)
one_outcome L i edit _ _ (faulty f h) (puts k g x e) = absurd (g.1 f h)
one_outcome L i edit _ _ (over k name n g x e) (absent b) = absurd (not_both edit g.0 (absent_removes edit i b))
one_outcome L i edit _ _ (over k name n g x e) (removes q b) = absurd (not_both edit g.0 q)
one_outcome L i edit _ _ (over k name n g x e) (faulty f h) = absurd (g.1 f h)
one_outcome L i edit _ _ (over k name n g x e) (over k' name' n' g' x' e') = ap Denies (one_limit L (after edit i) k k' name name' n n' x x' e e')
one_outcome L i edit _ _ (over k name n g x e) (puts k' g' x' e') = absurd (over_or_within L (after edit i) k k' name n x x' e e')
one_outcome L i edit _ _ (puts k g x e) (absent b) = absurd (not_both edit g.0 (absent_removes edit i b))
one_outcome L i edit _ _ (puts k g x e) (removes q b) = refl
one_outcome L i edit _ _ (puts k g x e) (faulty f h) = absurd (g.1 f h)
one_outcome L i edit _ _ (puts k g x e) (over k' name' n' g' x' e') = absurd (over_or_within L (after edit i) k' k name' n' x' x e' e)
one_outcome L i edit _ _ (puts k g x e) (puts k' g' x' e') = refl
