-- The kind of report that a name has.
use Rattle.std.proofs.Common.{◌≡◌, ℕ, Bool, true, false, List, [], ◌∷◌, bytes_eq, Option, Some, None, refl, sym, cond}
use Rattle.std.specs.Prelude.{IfSome, IfNone}
use Rattle.std.specs.List.{find}
use Rattle.cb_reports.specs.declared.kind.Kind.{Kind}
use Rattle.cb_reports.specs.declared.kind.Kind.TheVariants.{Summary, Files, Clustering, Duplicates, Efficiency, Cascade, Portability, Navigation, Notes}
use Rattle.cb_reports.specs.Kinds.{name_of}
use Rattle.cb_words.specs.Values.{kind_named, all_kinds}
use Rattle.cb_words.proofs.EqualTexts.{is_equal}

-- the kind is found by its name
pub found_by_name : (kind : Kind) → kind_named (name_of kind) ≡ Some kind
unfolding kind_named
found_by_name Summary = refl
found_by_name Files = refl
found_by_name Clustering = refl
found_by_name Duplicates = refl
found_by_name Efficiency = refl
found_by_name Cascade = refl
found_by_name Portability = refl
found_by_name Navigation = refl
found_by_name Notes = refl

none_step : (b : Bool) (kind : Kind) (rest : Option Kind) → rest ≡ None → (b ≡ true → ⊥) → cond b (Some kind) rest ≡ None
none_step true kind rest e not = absurd (not refl)
none_step false kind rest e not = e

none_found : (name : List ℕ) (kinds : List Kind) → ((kind : Kind) → name ≡ name_of kind → ⊥) → find (λ kind. bytes_eq (name_of kind) name) kinds ≡ None
none_found name [] other = refl
none_found name (kind ∷ kinds) other =
    none_step (bytes_eq (name_of kind) name) kind _ (none_found name kinds other) (λ e. other kind (sym (is_equal _ _ e)))

-- what was found by a name that a kind has, and otherwise nothing
pub named : (name : List ℕ) (found : Option Kind) → IfSome found (λ kind. name ≡ name_of kind) → IfNone found ((kind : Kind) → name ≡ name_of kind → ⊥)
    → found ≡ kind_named name
unfolding kind_named
named name (Some kind) known unknown = rw known (sym (found_by_name kind))
named name None known unknown = sym (none_found name all_kinds unknown)
