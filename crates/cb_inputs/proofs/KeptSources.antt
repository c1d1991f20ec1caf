-- Sources that are put and taken away.
use Rattle.std.proofs.Common.{◌≡◌, ◌∙◌, ℕ, ◌-◌, ◌≤◌, List, length, Some, sym, ap, arith}
use Rattle.std.specs.BTreeMap.{insert_entry, is_at}
use Rattle.std.specs.Map.{remove_entry}
use Rattle.std.specs.Ordering.{nat_cmp}
use Rattle.std.specs.Cmp.Lexicographic.{slice_cmp}
use Rattle.std.proofs.lemmas.List.{length-map}
use Rattle.std.proofs.lemmas.Map.Views.{All-values-insert_entry, All-map-remove_entry}
use Rattle.cb_outside.specs.Tables.{put}
use Rattle.cb_inputs.specs.declared.source.Source.{Source}
use Rattle.cb_inputs.specs.Texts.{ByPath, bytes_in, value_at}
use Rattle.cb_inputs.specs.Sources.{source_texts, IsReadSource}
use Rattle.cb_inputs.specs.inner.Kept.{AreSources}
use Rattle.cb_inputs.proofs.Maps.{read_inserted, read_removed, sized_without}

-- entries are as many as their texts
as_many : (es : ByPath Source) → length (source_texts es) ≡ length es
as_many es = length-map es (λ (e : List ℕ × Source). (e.0, e.1.bytes))

pub texts_put : (es now : ByPath Source) (k bytes : List ℕ) (source : Source) → es ≡ now → source.bytes ≡ bytes
    → source_texts (insert_entry (slice_cmp nat_cmp) es k source) ≡ put k bytes (source_texts now)
texts_put es now k bytes source e b =
    read_inserted (λ (d : Source). d.bytes) es k source ∙ (ap (λ x. put k x (source_texts es)) b ∙ ap (λ l. put k bytes (source_texts l)) e)

pub kept_put : (es now : ByPath Source) (total sum : ℕ) (k bytes : List ℕ) (source : Source) → es ≡ now → source.bytes ≡ bytes
    → AreSources es total → IsReadSource source → length (put k bytes (source_texts now)) ≤ 20000
    → sum ≡ bytes_in (put k bytes (source_texts now)) → bytes_in (put k bytes (source_texts now)) ≤ 268435456
    → AreSources (insert_entry (slice_cmp nat_cmp) es k source) sum
kept_put es now total sum k bytes source e b kept read few counted within =
    let texts = texts_put es now k bytes source e b in
    record {
      few = omega (arith, as_many (insert_entry (slice_cmp nat_cmp) es k source), ap length texts, few);
      counted = counted ∙ sym (ap bytes_in texts);
      within = omega (arith, counted, within);
      read = All-values-insert_entry (slice_cmp nat_cmp) k source IsReadSource es kept.read read;
    }

pub kept_removed : (es : ByPath Source) (total len : ℕ) (k : List ℕ) (old : Source) → AreSources es total → value_at k es ≡ Some old
    → len ≡ length old.bytes → AreSources (remove_entry (is_at (slice_cmp nat_cmp k)) es) (total - len)
kept_removed es total len k old kept h e =
    let less = sized_without (λ (d : Source). d.bytes) es k old h in
    let texts = read_removed (λ (d : Source). d.bytes) (is_at (slice_cmp nat_cmp k)) es in
    let now = remove_entry (is_at (slice_cmp nat_cmp k)) es in
    record {
      few = omega (arith, as_many now, ap length texts, less.0, kept.few);
      counted = omega (arith, ap bytes_in texts, less.1, kept.counted, e);
      within = omega (arith, kept.within);
      read = All-map-remove_entry (is_at (slice_cmp nat_cmp k)) (λ x. x.1) IsReadSource es kept.read;
    }
