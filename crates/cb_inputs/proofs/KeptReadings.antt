-- What is read of what is kept, and limits that are not passed.
use Rattle.std.proofs.Common.{◌≡◌, ℕ, ◌≤◌, Bool, true, false, List, [], ◌∷◌, ◌++◌, Option, Some, None, All, IfSome, refl, ap, subst, le-ltb, Less, Equal, Greater}
use Rattle.std.specs.Prelude.{nat_lt, if◌then◌else◌, option_map}
use Rattle.std.specs.BTreeMap.{insert_entry}
use Rattle.std.specs.Map.{values_of}
use Rattle.std.specs.Ordering.{nat_cmp, match_ordering}
use Rattle.std.specs.declared.cmp.Ordering.{Ordering}
use Rattle.std.specs.Cmp.Lexicographic.{slice_cmp}
use Rattle.std.proofs.lemmas.List.Elements.{All-head, All-tail}
use Rattle.cb_outside.specs.Tables.{Texts, put}
use Rattle.cb_inputs.specs.declared.refused.LimitName.{LimitName}
use Rattle.cb_inputs.specs.Texts.{ByPath, each_read, first_over, most}
use Rattle.cb_inputs.specs.Readings.{AreAt, IsMaybe}

-- what is read of each of the values is what its bytes say
module _ {A B : Type 0} (R : List ℕ → B → Type 0) (P : A → Type 0) (bytes : A → List ℕ) (value : A → B) (says : (x : A) → P x → R (bytes x) (value x)) where
  pub each_says : (es : ByPath A) → All P (values_of es) → AreAt R (each_read bytes es) (each_read value es)
  each_says [] h = tt
  each_says (e ∷ es) h = ((refl, says e.1 (All-head P e.1 (values_of es) h)), each_says es (All-tail P e.1 (values_of es) h))

  pub maybe_says : (o : Option A) → IfSome o P → IsMaybe R (option_map bytes o) (option_map value o)
  maybe_says None h = tt
  maybe_says (Some x) h = says x h

-- the same with one more
module _ {B : Type 0} (R : List ℕ → B → Type 0) (k bytes : List ℕ) (value : B) (says : R bytes value) where
  pub says_put : (texts : Texts) (values : ByPath B) → AreAt R texts values → AreAt R (put k bytes texts) (insert_entry (slice_cmp nat_cmp) values k value)
  says_put [] [] h = ((refl, says), tt)
  says_put [] (v ∷ vs) h = absurd h
  says_put (t ∷ ts) [] h = absurd h
  says_put (t ∷ ts) (v ∷ vs) h =
      subst (λ q. AreAt R (put k bytes (t ∷ ts)) (match_ordering q ((k, value) ∷ v ∷ vs) ((v.0, value) ∷ vs) (v ∷ insert_entry (slice_cmp nat_cmp) vs k value)))
      (ap (slice_cmp nat_cmp k) h.0.0) (by (slice_cmp nat_cmp k t.0) (says_put ts vs h.1))
    where
      by : (r : Ordering) → AreAt R (put k bytes ts) (insert_entry (slice_cmp nat_cmp) vs k value)
          → AreAt R (match_ordering r ((k, bytes) ∷ t ∷ ts) ((t.0, bytes) ∷ ts) (t ∷ put k bytes ts))
          (match_ordering r ((k, value) ∷ v ∷ vs) ((v.0, value) ∷ vs) (v ∷ insert_entry (slice_cmp nat_cmp) vs k value))
      by Less later = ((refl, says), h)
      by Equal later = ((h.0.0, says), h.1)
      by Greater later = (h.0, later)

-- an amount within its limit is passed over
pub next_amount : (name : LimitName) (n : ℕ) (amounts : List (LimitName × ℕ)) → n ≤ most name → first_over ((name, n) ∷ amounts) ≡ first_over amounts
next_amount name n amounts h = ap (λ b. if b then Some (name, n) else first_over amounts) (le-ltb (most name) n h)

-- amounts within their limits, behind others, are passed over
pub passed_over : (some more : List (LimitName × ℕ)) → first_over more ≡ None → first_over (some ++ more) ≡ first_over some
passed_over [] more h = h
passed_over ((name, n) ∷ some) more h = by (nat_lt (most name) n) (passed_over some more h)
  where
    by : (b : Bool) → first_over (some ++ more) ≡ first_over some → (if b then Some (name, n) else first_over (some ++ more)) ≡ (if b then Some (name, n) else first_over some)
    by true later = refl
    by false later = later
