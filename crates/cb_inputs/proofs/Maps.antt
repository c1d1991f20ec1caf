-- Maps by paths, what is read from their values, and how much texts are.
use Rattle.std.proofs.Common.{◌≡◌, ◌∙◌, ℕ, ◌+◌, Bool, true, false, List, [], ◌∷◌, length, Option, Some, None, Result, Ok, Err, OnOk, refl, ap, arith, Less, Equal, Greater, sum_by}
use Rattle.std.specs.Prelude.{cond}
use Rattle.std.specs.BTreeMap.{insert_entry, is_at}
use Rattle.std.specs.Map.{keys_of, values_of, remove_entry}
use Rattle.std.specs.List.Sorted.{IsStrictlySortedBy}
use Rattle.std.specs.Ordering.{nat_cmp, match_ordering, is_eq}
use Rattle.std.specs.declared.cmp.Ordering.{Ordering}
use Rattle.std.specs.Cmp.Lexicographic.{slice_cmp}
use Rattle.std.specs.Result.{is_ok}
use Rattle.std.specs.Option.{option_map}
use Rattle.std.proofs.lemmas.List.{length-map}
use Rattle.std.proofs.lemmas.Cmp.{nat_list_cmp_total, tied_itself}
use Rattle.std.proofs.lemmas.List.Sums.{sum_by-cons}
use Rattle.std.proofs.lemmas.Map.Entries.{sum_by-insert_entry, sum_by-remove_entry}
use Rattle.std.proofs.lemmas.Map.Made.{keys_of-map_values, lookup-map_values}
use Rattle.cb_outside.specs.Tables.{Texts, put, removed, text_at}
use Rattle.cb_inputs.specs.Texts.{ByPath, each_read, bytes_in, value_at}

-- a clause of what was answered
pub ok_holds : {T E P : Type 0} → (result : Result T E) → is_ok result ≡ true → OnOk result P → P
ok_holds (Ok x) e h = h
ok_holds (Err x) e h = cc

pub ok_maps : {T E P Q : Type 0} → (result : Result T E) → (P → Q) → OnOk result P → OnOk result Q
ok_maps (Ok x) f h = f h
ok_maps (Err x) f h = h

-- what is read from the values, with one more and with one less

module _ {A B : Type 0} (read : A → B) where
  pub read_inserted : (es : ByPath A) (k : List ℕ) (v : A)
      → each_read read (insert_entry (slice_cmp nat_cmp) es k v) ≡ insert_entry (slice_cmp nat_cmp) (each_read read es) k (read v)
  read_inserted [] k v = refl
  read_inserted (e ∷ es) k v = by (slice_cmp nat_cmp k e.0) (read_inserted es k v)
    where
      by : (r : Ordering) → each_read read (insert_entry (slice_cmp nat_cmp) es k v) ≡ insert_entry (slice_cmp nat_cmp) (each_read read es) k (read v)
          → each_read read (match_ordering r ((k, v) ∷ e ∷ es) ((e.0, v) ∷ es) (e ∷ insert_entry (slice_cmp nat_cmp) es k v))
          ≡ match_ordering r ((k, read v) ∷ each_read read (e ∷ es)) ((e.0, read v) ∷ each_read read es) ((e.0, read e.1) ∷ insert_entry (slice_cmp nat_cmp) (each_read read es) k (read v))
      by Less h = refl
      by Equal h = refl
      by Greater h = ap (λ l. (e.0, read e.1) ∷ l) h

  pub read_removed : (test : List ℕ → Bool) (es : ByPath A) → each_read read (remove_entry test es) ≡ remove_entry test (each_read read es)
  read_removed test [] = refl
  read_removed test (e ∷ es) = by (test e.0) (read_removed test es)
    where
      by : (b : Bool) → each_read read (remove_entry test es) ≡ remove_entry test (each_read read es)
          → each_read read (cond b es (e ∷ remove_entry test es)) ≡ cond b (each_read read es) ((e.0, read e.1) ∷ remove_entry test (each_read read es))
      by true h = refl
      by false h = ap (λ l. (e.0, read e.1) ∷ l) h

-- what was put where nothing stood, and is taken away again

module _ {A : Type 0} (k : List ℕ) (v : A) where
  pub undone : (es : ByPath A) → value_at k es ≡ None → remove_entry (is_at (slice_cmp nat_cmp k)) (insert_entry (slice_cmp nat_cmp) es k v) ≡ es
  undone [] h = rw (tied_itself nat_list_cmp_total k) refl
  undone (e ∷ es) h = by (slice_cmp nat_cmp k e.0) refl h (undone es)
    where
      by : (r : Ordering) → slice_cmp nat_cmp k e.0 ≡ r → cond (is_eq r) (Some e.1) (value_at k es) ≡ None
          → (value_at k es ≡ None → remove_entry (is_at (slice_cmp nat_cmp k)) (insert_entry (slice_cmp nat_cmp) es k v) ≡ es)
          → remove_entry (is_at (slice_cmp nat_cmp k)) (match_ordering r ((k, v) ∷ e ∷ es) ((e.0, v) ∷ es) (e ∷ insert_entry (slice_cmp nat_cmp) es k v)) ≡ e ∷ es
      by Less p n later = rw (tied_itself nat_list_cmp_total k) refl
      by Equal p n later = cc
      by Greater p n later = rw p (ap (λ l. e ∷ l) (later n))

-- how much texts are, with one more and with one less

each_one : {A : Type 0} (xs : List A) → sum_by (λ _. 1) xs ≡ length xs
each_one [] = refl
each_one (x ∷ xs) = omega (arith, sum_by-cons (λ _. 1) x xs, each_one xs)

-- the texts of values, and with the bytes at a path put or taken away

module _ {A : Type 0} (read : A → List ℕ) (es : ByPath A) (k : List ℕ) where
  found : (o : Option A) → value_at k es ≡ o → text_at k (each_read read es) ≡ option_map read o
  found o h = lookup-map_values read (is_at (slice_cmp nat_cmp k)) es ∙ ap (option_map read) h

  -- where something stands at the path, how much there is with other bytes
  pub sized_over : (bytes : List ℕ) (old : A) → IsStrictlySortedBy (slice_cmp nat_cmp) (keys_of es) → value_at k es ≡ Some old
      → (length (put k bytes (each_read read es)) ≡ length es)
      × (bytes_in (put k bytes (each_read read es)) + length (read old) ≡ bytes_in (each_read read es) + length bytes)
  sized_over bytes old rising h =
      let texts : Texts = each_read read es in
      let there : text_at k texts ≡ Some (read old) = found (Some old) h in
      let sorted : IsStrictlySortedBy (slice_cmp nat_cmp) (keys_of texts) = rw (keys_of-map_values read es) rising in
      let counts = rw there at (sum_by-insert_entry (λ _. 1) nat_list_cmp_total texts k bytes sorted) in
      let sums = rw there at (sum_by-insert_entry (λ b. length b) nat_list_cmp_total texts k bytes sorted) in
      (omega (arith, counts, each_one (values_of (put k bytes texts)), each_one (values_of texts), length-map {B = List ℕ} (put k bytes texts) (λ e. e.1), length-map {B = List ℕ} texts (λ e. e.1), length-map {B = List ℕ × List ℕ} es (λ (e : List ℕ × A). (e.0, read e.1))), sums)

  -- where nothing stands at the path, how much there is with bytes there
  pub sized_new : (bytes : List ℕ) → IsStrictlySortedBy (slice_cmp nat_cmp) (keys_of es) → value_at k es ≡ None
      → (length (put k bytes (each_read read es)) ≡ length es + 1)
      × (bytes_in (put k bytes (each_read read es)) ≡ bytes_in (each_read read es) + length bytes)
  sized_new bytes rising h =
      let texts : Texts = each_read read es in
      let there : text_at k texts ≡ None = found None h in
      let sorted : IsStrictlySortedBy (slice_cmp nat_cmp) (keys_of texts) = rw (keys_of-map_values read es) rising in
      let counts = rw there at (sum_by-insert_entry (λ _. 1) nat_list_cmp_total texts k bytes sorted) in
      let sums = rw there at (sum_by-insert_entry (λ b. length b) nat_list_cmp_total texts k bytes sorted) in (
        omega (arith, counts, each_one (values_of (put k bytes texts)), each_one (values_of texts), length-map {B = List ℕ} (put k bytes texts) (λ e. e.1), length-map {B = List ℕ} texts (λ e. e.1), length-map {B = List ℕ × List ℕ} es (λ (e : List ℕ × A). (e.0, read e.1))),
        omega (arith, sums),
      )

  -- where something stands at the path, how much there is without it
  pub sized_without : (old : A) → value_at k es ≡ Some old
      → (length (removed k (each_read read es)) + 1 ≡ length es)
      × (bytes_in (removed k (each_read read es)) + length (read old) ≡ bytes_in (each_read read es))
  sized_without old h =
      let texts : Texts = each_read read es in
      let there : text_at k texts ≡ Some (read old) = found (Some old) h in
      let counts = rw there at (sum_by-remove_entry (λ _. 1) (is_at (slice_cmp nat_cmp k)) texts) in
      let sums = rw there at (sum_by-remove_entry (λ b. length b) (is_at (slice_cmp nat_cmp k)) texts) in
      (omega (arith, counts, each_one (values_of (removed k texts)), each_one (values_of texts), length-map {B = List ℕ} (removed k texts) (λ e. e.1), length-map {B = List ℕ} texts (λ e. e.1), length-map {B = List ℕ × List ℕ} es (λ (e : List ℕ × A). (e.0, read e.1))), sums)
