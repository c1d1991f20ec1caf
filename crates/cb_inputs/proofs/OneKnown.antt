-- Inputs say one thing.
use Rattle.std.proofs.Common.{◌≡◌, ◌∙◌, ℕ, List, [], ◌∷◌, Option, Some, None, Ok, refl, sym, ap}
use Rattle.cb_outside.specs.Tables.{Texts}
use Rattle.cb_tree.specs.Sound.{IsRead, Reading, Sound}
use Rattle.cb_tree.specs.Nodes.{Node}
use Rattle.cb_analysis.specs.Analyses.{Contents, analysis}
use Rattle.cb_compdb.specs.declared.entry.Entry.{Entry}
use Rattle.cb_compdb.specs.Databases.{IsDatabase}
use Rattle.cb_measure.specs.declared.row.Row.{Row}
use Rattle.cb_measure.specs.Reading.{measurements}
use Rattle.cb_inputs.specs.Texts.{ByPath}
use Rattle.cb_inputs.specs.Inputs.{Inputs}
use Rattle.cb_inputs.specs.Readings.{Known, IsMaybe, AreAt, IsKnown}

module _ {A : Type 0} (R : List ℕ → A → Type 0) (one : (bytes : List ℕ) (some other : A) → R bytes some → R bytes other → some ≡ other) where
  one_maybe : (o : Option (List ℕ)) (some other : Option A) → IsMaybe R o some → IsMaybe R o other → some ≡ other
  one_maybe None None None h k = refl
  one_maybe None (Some x) other h k = absurd h
  one_maybe None None (Some y) h k = absurd k
  one_maybe (Some bytes) None other h k = absurd h
  one_maybe (Some bytes) (Some x) None h k = absurd k
  one_maybe (Some bytes) (Some x) (Some y) h k = ap Some (one bytes x y h k)

  one_at : (texts : Texts) (some other : ByPath A) → AreAt R texts some → AreAt R texts other → some ≡ other
  one_at [] [] [] h k = refl
  one_at [] (x ∷ xs) other h k = absurd h
  one_at [] [] (y ∷ ys) h k = absurd k
  one_at (t ∷ ts) [] other h k = absurd h
  one_at (t ∷ ts) (x ∷ xs) [] h k = absurd k
  one_at (t ∷ ts) (x ∷ xs) (y ∷ ys) h k =
      let keys : x.0 ≡ y.0 = sym h.0.0 ∙ k.0.0 in
      let values : x.1 ≡ y.1 = one t.1 x.1 y.1 h.0.1 k.0.1 in
      let rest : xs ≡ ys = one_at ts xs ys h.1 k.1 in
      ap (λ q. (q, x.1) ∷ xs) keys ∙ (ap (λ v. (y.0, v) ∷ xs) values ∙ ap (λ l. y ∷ l) rest)

one_contents : (bytes : List ℕ) (some other : Contents) → analysis bytes ≡ Ok some → analysis bytes ≡ Ok other → some ≡ other
one_contents bytes some other h k = cc

one_rows : (bytes : List ℕ) (some other : List Row) → measurements bytes ≡ Ok some → measurements bytes ≡ Ok other → some ≡ other
one_rows bytes some other h k = cc

module _ (reading : (bytes : List ℕ) (a b : Reading) → IsRead bytes a → IsRead bytes b → a ≡ b)
    (database : (bytes : List ℕ) (entries others : List Entry) → IsDatabase bytes entries → IsDatabase bytes others → entries ≡ others) where
  one_nodes : (bytes : List ℕ) (some other : List Node) → IsRead bytes (Sound some) → IsRead bytes (Sound other) → some ≡ other
  one_nodes bytes some other h k = let e : Sound some ≡ Sound other = reading bytes (Sound some) (Sound other) h k in cc

  pub one_known : (i : Inputs) (some other : Known) → IsKnown i some → IsKnown i other → some ≡ other
  one_known i some other h k =
      let a = one_maybe (λ bytes contents. analysis bytes ≡ Ok contents) one_contents i.analysis some.analysis other.analysis h.analysis k.analysis in
      let d = one_at IsDatabase database i.databases some.databases other.databases h.databases k.databases in
      let s = one_at (λ bytes nodes. IsRead bytes (Sound nodes)) one_nodes i.sources some.sources other.sources h.sources k.sources in
      let m = one_maybe (λ bytes rows. measurements bytes ≡ Ok rows) one_rows i.measurements some.measurements other.measurements h.measurements k.measurements in
      ap (λ x. record some { analysis = x }) a
      ∙ (ap (λ x. record some { analysis = other.analysis; databases = x }) d
      ∙ (ap (λ x. record some { analysis = other.analysis; databases = other.databases; sources = x }) s
      ∙ ap (λ x. record other { measurements = x }) m))
