-- What stands at paths after a put, and how many entries.
use Rattle.std.proofs.Common.{◌≡◌, ◌∙◌, ℕ, Bool, true, false, List, [], ◌∷◌, length, Some, refl, sym, ap, Less, Equal, Greater}
use Rattle.std.specs.Prelude.{cond, bytes_eq}
use Rattle.std.specs.BTreeMap.{insert_entry, is_at}
use Rattle.std.specs.Ordering.{nat_cmp, match_ordering, is_eq}
use Rattle.std.specs.declared.cmp.Ordering.{Ordering}
use Rattle.std.specs.Cmp.Lexicographic.{slice_cmp, texts_ties}
use Rattle.std.proofs.lemmas.Cmp.{nat_list_cmp_total, alike_right}
use Rattle.cb_inputs.specs.declared.database.Database.{Database}
use Rattle.cb_inputs.specs.Texts.{ByPath, value_at}
use Rattle.cb_inputs.specs.Databases.{database_entries}
use Rattle.cb_inputs.specs.Commands.{entries_at}
use Rattle.cb_inputs.proofs.EntryCounts.{entries_there}

tie : (o : Ordering) → is_eq o ≡ true → o ≡ Equal
tie Less h = cc
tie Equal h = refl
tie Greater h = cc

-- a value at another place may be looked for first
swap : {A : Type 0} (a b : Bool) (x y z : A) → (a ≡ true → b ≡ true → ⊥) → cond a x (cond b y z) ≡ cond b y (cond a x z)
swap true true x y z n = absurd (n refl refl)
swap true false x y z n = refl
swap false true x y z n = refl
swap false false x y z n = refl

twice : {A : Type 0} (b : Bool) (x y z : A) → cond b x z ≡ cond b x (cond b y z)
twice true x y z = refl
twice false x y z = refl

module _ {A : Type 0} (k : List ℕ) (v : A) (q : List ℕ) where
  -- two places are not one
  apart : (r : List ℕ) → slice_cmp nat_cmp k r ≡ Greater → is_eq (slice_cmp nat_cmp q r) ≡ true → is_eq (slice_cmp nat_cmp q k) ≡ true → ⊥
  apart r more h here =
      let same : slice_cmp nat_cmp q r ≡ Greater = nat_list_cmp_total.congr q k r (tie (slice_cmp nat_cmp q k) here) ∙ more in
      let none : is_eq (slice_cmp nat_cmp q r) ≡ false = ap is_eq same in
      cc

  -- at the path stands what was put there, elsewhere what stood there
  pub value_put : (es : ByPath A) → value_at q (insert_entry (slice_cmp nat_cmp) es k v) ≡ cond (is_at (slice_cmp nat_cmp q) k) (Some v) (value_at q es)
  value_put [] = refl
  value_put (e ∷ es) = by (slice_cmp nat_cmp k e.0) refl (value_put es)
    where
      by : (r : Ordering) → slice_cmp nat_cmp k e.0 ≡ r
          → value_at q (insert_entry (slice_cmp nat_cmp) es k v) ≡ cond (is_at (slice_cmp nat_cmp q) k) (Some v) (value_at q es)
          → value_at q (match_ordering r ((k, v) ∷ e ∷ es) ((e.0, v) ∷ es) (e ∷ insert_entry (slice_cmp nat_cmp) es k v))
          ≡ cond (is_at (slice_cmp nat_cmp q) k) (Some v) (cond (is_at (slice_cmp nat_cmp q) e.0) (Some e.1) (value_at q es))
      by Less p later = refl
      by Equal p later =
          twice (is_eq (slice_cmp nat_cmp q e.0)) (Some v) (Some e.1) (value_at q es)
          ∙ ap (λ o. cond (is_eq o) (Some v) (cond (is_eq (slice_cmp nat_cmp q e.0)) (Some e.1) (value_at q es))) (sym (alike_right nat_list_cmp_total k e.0 q p))
      by Greater p later =
          ap (λ o. cond (is_eq (slice_cmp nat_cmp q e.0)) (Some e.1) o) later
          ∙ swap (is_eq (slice_cmp nat_cmp q e.0)) (is_eq (slice_cmp nat_cmp q k)) (Some e.1) (Some v) (value_at q es) (apart e.0 p)

-- how many entries there are at a path, where a database is put at one

module _ (databases : ByPath Database) (k : List ℕ) (fresh : Database) (q : List ℕ) where
  abbrev now : ByPath Database
  now = insert_entry (slice_cmp nat_cmp) databases k fresh

  at_key : (b : Bool) → bytes_eq q k ≡ b → value_at q now ≡ cond b (Some fresh) (value_at q databases)
  at_key b h = value_put k fresh q databases ∙ ap (λ t. cond t (Some fresh) (value_at q databases)) (sym (texts_ties q k) ∙ h)

  pub entries_here : bytes_eq q k ≡ true → length (entries_at (database_entries now) q) ≡ length fresh.entries
  entries_here h = ap length (entries_there now q (Some fresh) (at_key true h))

  pub entries_elsewhere : bytes_eq q k ≡ false → length (entries_at (database_entries now) q) ≡ length (entries_at (database_entries databases) q)
  entries_elsewhere h = ap length (entries_there now q (value_at q databases) (at_key false h) ∙ sym (entries_there databases q (value_at q databases) refl))
