-- Entries put one after another make the tables that they are of.
use Rattle.std.proofs.Common.{◌≡◌, ℕ, ◌+◌, List, [], ◌∷◌, ◌++◌, length, refl, ap, sym, ◌∙◌, subst, append_assoc, length-append, arith}
use Rattle.std.proofs.lemmas.List.{length-map, append-nil}
use Rattle.std.specs.declared.result.Result.{Result}
use Rattle.std.specs.declared.result.Result.TheVariants.{Ok, Err}
use Rattle.std.specs.Result.{OnOk}
use Rattle.std.specs.declared.cmp.Ordering.TheVariants.{Less, Greater}
use Rattle.std.specs.Ordering.{match_ordering, ordering_reverse, nat_cmp}
use Rattle.std.specs.Cmp.Lexicographic.{slice_cmp, nat_list_cmp_total}
use Rattle.std.specs.List.{AllByRecursion}
use Rattle.std.specs.List.Sorted.{IsStrictlySortedBy}
use Rattle.std.specs.Map.{keys_of}
use Rattle.cb_outside.specs.declared.kept.Kept.{Kept}
use Rattle.cb_outside.specs.declared.kept.Table.{Table}
use Rattle.cb_outside.specs.declared.kept.Table.TheVariants.{Analysis, Databases, Sources, Measurements}
use Rattle.cb_outside.specs.Tables.{Texts, Rise, put, Tables, no_tables, changed, with_entries, AreEntries, entries_in, entries_of}
use Rattle.cb_outside.specs.inner.Maps.{AllRise}

-- texts put one after another
abbrev put_all : Texts → Texts → Texts
put_all [] held = held
put_all (e ∷ es) held = put_all es (put e.0 e.1 held)

-- what holds of all keys holds of one of them
at_key : (P : List ℕ → Type 0) (ds : Texts) (e : List ℕ × List ℕ) (es : Texts) → AllByRecursion P (keys_of (ds ++ e ∷ es)) → P e.0
at_key P [] e es all = all.0
at_key P (d ∷ ds) e es all = at_key P ds e es all.1

-- a text whose key is above all goes last
put_last : (ds : Texts) (e : List ℕ × List ℕ) (es : Texts) → Rise (ds ++ e ∷ es) → put e.0 e.1 ds ≡ ds ++ e ∷ []
unfolding IsStrictlySortedBy
put_last [] e es rise = refl
put_last (d ∷ ds) e es rise =
    let above : slice_cmp nat_cmp e.0 d.0 ≡ Greater = nat_list_cmp_total.antisymm e.0 d.0 ∙ ap ordering_reverse (at_key (λ k. slice_cmp nat_cmp d.0 k ≡ Less) ds e es rise.0) in
    ap (λ o. match_ordering o (e ∷ d ∷ ds) ((d.0, e.1) ∷ ds) (d ∷ put e.0 e.1 ds)) above ∙ ap (λ l. d ∷ l) (put_last ds e es rise.1)

-- texts in the order of their keys are those that putting them makes
put_rising : (es ds : Texts) → Rise (ds ++ es) → put_all es ds ≡ ds ++ es
put_rising [] ds rise = sym (append-nil ds)
put_rising (e ∷ es) ds rise =
    let again : (ds ++ e ∷ []) ++ es ≡ ds ++ e ∷ es = append_assoc ds (e ∷ []) es in
    ap (put_all es) (put_last ds e es rise) ∙ put_rising es (ds ++ e ∷ []) (subst Rise (sym again) rise) ∙ again

-- two changes of one table are one
changed_twice : (table : Table) (f g : Texts → Texts) (t : Tables) → changed table g (changed table f t) ≡ changed table (λ texts. g (f texts)) t
changed_twice Analysis f g t = refl
changed_twice Databases f g t = refl
changed_twice Sources f g t = refl
changed_twice Measurements f g t = refl

changed_not : (table : Table) (t : Tables) → t ≡ changed table (λ texts. texts) t
changed_not Analysis t = refl
changed_not Databases t = refl
changed_not Sources t = refl
changed_not Measurements t = refl

-- the entries of one table change that table
with_table : (table : Table) (es : Texts) (t : Tables) → with_entries (entries_in table es) t ≡ changed table (put_all es) t
with_table table [] t = changed_not table t
with_table table (e ∷ es) t = with_table table es (changed table (put e.0 e.1) t) ∙ changed_twice table (put e.0 e.1) (put_all es) t

with_both : (es fs : List Kept) (t : Tables) → with_entries (es ++ fs) t ≡ with_entries fs (with_entries es t)
with_both [] fs t = refl
with_both (e ∷ es) fs t = with_both es fs (changed e.table (put e.key e.bytes) t)

made : (a d s m : Texts) → with_entries (entries_in Analysis a ++ (entries_in Databases d ++ (entries_in Sources s ++ entries_in Measurements m))) no_tables
    ≡ record { analysis = put_all a []; databases = put_all d []; sources = put_all s []; measurements = put_all m [] }
made a d s m =
    with_both (entries_in Analysis a) (entries_in Databases d ++ (entries_in Sources s ++ entries_in Measurements m)) no_tables
    ∙ ap (with_entries (entries_in Databases d ++ (entries_in Sources s ++ entries_in Measurements m))) (with_table Analysis a no_tables)
    ∙ with_both (entries_in Databases d) (entries_in Sources s ++ entries_in Measurements m) _
    ∙ ap (with_entries (entries_in Sources s ++ entries_in Measurements m)) (with_table Databases d _)
    ∙ with_both (entries_in Sources s) (entries_in Measurements m) _
    ∙ ap (with_entries (entries_in Measurements m)) (with_table Sources s _)
    ∙ with_table Measurements m _

-- the entries of all tables are as many as those of each
counted : (a d s m : Texts) → length (entries_in Analysis a ++ (entries_in Databases d ++ (entries_in Sources s ++ entries_in Measurements m))) ≡ length a + length d + length s + length m
counted a d s m =
    let a_same : length (entries_in Analysis a) ≡ length a = length-map a _ in
    let d_same : length (entries_in Databases d) ≡ length d = length-map d _ in
    let s_same : length (entries_in Sources s) ≡ length s = length-map s _ in
    let m_same : length (entries_in Measurements m) ≡ length m = length-map m _ in
    let rest : List Kept = entries_in Sources s ++ entries_in Measurements m in
    omega (
      arith,
      a_same,
      d_same,
      s_same,
      m_same,
      length-append (entries_in Sources s) (entries_in Measurements m),
      length-append (entries_in Databases d) rest,
      length-append (entries_in Analysis a) (entries_in Databases d ++ rest),
    )

-- the entries of tables, each of them in the order of its keys, are entries of these tables
pub entries_make : (t : Tables) → AllRise t → AreEntries (entries_of t) t
entries_make t rise = record {
  make = made t.analysis t.databases t.sources t.measurements
      ∙ ap (λ a. record { analysis = a; databases = put_all t.databases []; sources = put_all t.sources []; measurements = put_all t.measurements [] }) (put_rising t.analysis [] rise.analysis)
      ∙ ap (λ d. record { analysis = t.analysis; databases = d; sources = put_all t.sources []; measurements = put_all t.measurements [] }) (put_rising t.databases [] rise.databases)
      ∙ ap (λ s. record { analysis = t.analysis; databases = t.databases; sources = s; measurements = put_all t.measurements [] }) (put_rising t.sources [] rise.sources)
      ∙ ap (λ m. record { analysis = t.analysis; databases = t.databases; sources = t.sources; measurements = m }) (put_rising t.measurements [] rise.measurements);
  each_once = counted t.analysis t.databases t.sources t.measurements;
}

-- what holds anyway holds of an answer
pub anyway : {T E P : Type 0} (r : Result T E) → P → OnOk r P
anyway (Ok x) p = p
anyway (Err e) p = tt
