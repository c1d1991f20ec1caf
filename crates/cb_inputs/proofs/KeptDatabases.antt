-- Databases that are put and taken away.
use Rattle.std.proofs.Common.{◌≡◌, ◌∙◌, ℕ, ◌-◌, ◌≤◌, List, length, Some, sym, ap, arith}
use Rattle.std.specs.BTreeMap.{insert_entry, is_at}
use Rattle.std.specs.Map.{remove_entry}
use Rattle.std.specs.Ordering.{nat_cmp}
use Rattle.std.specs.Cmp.Lexicographic.{slice_cmp}
use Rattle.std.proofs.lemmas.List.{length-map}
use Rattle.std.proofs.lemmas.Map.Views.{All-values-insert_entry, All-map-remove_entry}
use Rattle.cb_outside.specs.Tables.{put}
use Rattle.cb_inputs.specs.declared.database.Database.{Database}
use Rattle.cb_inputs.specs.Texts.{ByPath, bytes_in, value_at}
use Rattle.cb_inputs.specs.Databases.{database_texts, IsReadDatabase}
use Rattle.cb_inputs.specs.inner.Kept.{AreDatabases}
use Rattle.cb_inputs.proofs.Maps.{read_inserted, read_removed, sized_without}

-- entries are as many as their texts
as_many : (es : ByPath Database) → length (database_texts es) ≡ length es
as_many es = length-map es (λ (e : List ℕ × Database). (e.0, e.1.bytes))

pub texts_put : (es now : ByPath Database) (k bytes : List ℕ) (database : Database) → es ≡ now → database.bytes ≡ bytes
    → database_texts (insert_entry (slice_cmp nat_cmp) es k database) ≡ put k bytes (database_texts now)
texts_put es now k bytes database e b =
    read_inserted (λ (d : Database). d.bytes) es k database ∙ (ap (λ x. put k x (database_texts es)) b ∙ ap (λ l. put k bytes (database_texts l)) e)

pub kept_put : (es now : ByPath Database) (total sum : ℕ) (k bytes : List ℕ) (database : Database) → es ≡ now → database.bytes ≡ bytes
    → AreDatabases es total → IsReadDatabase database → length (put k bytes (database_texts now)) ≤ 64
    → sum ≡ bytes_in (put k bytes (database_texts now)) → bytes_in (put k bytes (database_texts now)) ≤ 268435456
    → AreDatabases (insert_entry (slice_cmp nat_cmp) es k database) sum
kept_put es now total sum k bytes database e b kept read few counted within =
    let texts = texts_put es now k bytes database e b in
    record {
      few = omega (arith, as_many (insert_entry (slice_cmp nat_cmp) es k database), ap length texts, few);
      counted = counted ∙ sym (ap bytes_in texts);
      within = omega (arith, counted, within);
      read = All-values-insert_entry (slice_cmp nat_cmp) k database IsReadDatabase es kept.read read;
    }

pub kept_removed : (es : ByPath Database) (total len : ℕ) (k : List ℕ) (old : Database) → AreDatabases es total → value_at k es ≡ Some old
    → len ≡ length old.bytes → AreDatabases (remove_entry (is_at (slice_cmp nat_cmp k)) es) (total - len)
kept_removed es total len k old kept h e =
    let less = sized_without (λ (d : Database). d.bytes) es k old h in
    let texts = read_removed (λ (d : Database). d.bytes) (is_at (slice_cmp nat_cmp k)) es in
    let now = remove_entry (is_at (slice_cmp nat_cmp k)) es in
    record {
      few = omega (arith, as_many now, ap length texts, less.0, kept.few);
      counted = omega (arith, ap bytes_in texts, less.1, kept.counted, e);
      within = omega (arith, kept.within);
      read = All-map-remove_entry (is_at (slice_cmp nat_cmp k)) (λ x. x.1) IsReadDatabase es kept.read;
    }
