-- A search over candidates and then over others.
use Rattle.std.proofs.Common.{◌≡◌, ℕ, Bool, true, false, cond, List, [], ◌∷◌, ◌++◌, refl, sym, ap, ◌∙◌, Option, None, Some, suc, ◌+◌, ◌<◌, length, get_or, drop, drop-cons, add-one, Result, IfOk}
use Rattle.std.specs.List.{find, filter_map, cons_option}
use Rattle.std.specs.Option.{option_or, option_to_list}
use Rattle.std.proofs.lemmas.List.Folds.{find-append}
use Rattle.std.proofs.lemmas.Result.{IfOk-weaker}
use Rattle.std.proofs.lemmas.List.Elements.{filter_map-append}
use Rattle.cb_include.specs.Seen.{with_path, with_paths, up_to}
use Rattle.cb_include.specs.inner.Finding.{Finds}

pub with_paths-append : (old xs ys : List (List ℕ)) → with_paths old (xs ++ ys) ≡ with_paths (with_paths old xs) ys
with_paths-append old [] ys = refl
with_paths-append old (x ∷ xs) ys = with_paths-append (with_path old x) xs ys

-- a choice that gives nothing
none_chosen : (b : Bool) (x : List ℕ) (o : Option (List ℕ)) → cond b (Some x) o ≡ None → (b ≡ false) × (o ≡ None)
none_chosen true x o e = absurd (cc)
none_chosen false x o e = (refl, e)

-- the items up to a first that is not among the first ones
up_to-none : (p : List ℕ → Bool) (xs ys : List (List ℕ)) → find p xs ≡ None → up_to p (xs ++ ys) ≡ up_to p xs ++ up_to p ys
up_to-none p [] ys e = refl
up_to-none p (x ∷ xs) ys e =
    let fails = none_chosen (p x) x (find p xs) e in
    rw fails.0 (ap (λ (l : List (List ℕ)). x ∷ l) (up_to-none p xs ys fails.1))

-- the same where the first item passes, and where it does not
chosen : (b : Bool) (x y : List ℕ) (o : Option (List ℕ)) (some other : List (List ℕ)) → (o ≡ Some x → some ≡ other)
    → cond b (Some y) o ≡ Some x → cond b (y ∷ []) (y ∷ some) ≡ cond b (y ∷ []) (y ∷ other)
chosen true x y o some other same e = refl
chosen false x y o some other same e = ap (λ (l : List (List ℕ)). y ∷ l) (same e)

-- and to one that is
up_to-some : (p : List ℕ → Bool) (x : List ℕ) (xs ys : List (List ℕ)) → find p xs ≡ Some x → up_to p (xs ++ ys) ≡ up_to p xs
up_to-some p x [] ys e = absurd (cc)
up_to-some p x (y ∷ xs) ys e =
    chosen (p y) x y (find p xs) (up_to p (xs ++ ys)) (up_to p xs) (up_to-some p x xs ys) e

-- nothing is found among the first candidates, and the others are looked at
goes_on : (p : List ℕ → Bool) (old mid new xs ys : List (List ℕ)) (o found : Option (List ℕ))
    → Finds p old xs o mid → o ≡ None → Finds p mid ys found new → Finds p old (xs ++ ys) found new
goes_on p old mid new xs ys o found f e g =
    let none : find p xs ≡ None = sym f.first ∙ e in
    record {
      first = g.first ∙ sym (find-append p xs ys ∙ ap (λ r. option_or r (find p ys)) none);
      added = g.added ∙ ap (λ l. with_paths l (up_to p ys)) f.added
          ∙ sym (with_paths-append old (up_to p xs) (up_to p ys))
          ∙ ap (with_paths old) (sym (up_to-none p xs ys none));
    }

-- what is found among the first candidates is the answer
ends_there : (p : List ℕ → Bool) (old new xs ys : List (List ℕ)) (o : Option (List ℕ)) (x : List ℕ)
    → Finds p old xs o new → o ≡ Some x → Finds p old (xs ++ ys) (Some x) new
ends_there p old new xs ys o x f e =
    let some : find p xs ≡ Some x = sym f.first ∙ e in
    record {
      first = sym (find-append p xs ys ∙ ap (λ r. option_or r (find p ys)) some);
      added = f.added ∙ ap (with_paths old) (sym (up_to-some p x xs ys some));
    }

-- the same over the candidates in folders and then in others
module _ (p : List ℕ → Bool) (named : List ℕ → Option (List ℕ)) (folders others : List (List ℕ)) where
  pub goes_on_in : (old mid new : List (List ℕ)) (o found : Option (List ℕ)) → Finds p old (filter_map named folders) o mid
      → o ≡ None → Finds p mid (filter_map named others) found new → Finds p old (filter_map named (folders ++ others)) found new
  goes_on_in old mid new o found f e g =
      rw filter_map-append (goes_on p old mid new (filter_map named folders) (filter_map named others) o found f e g)

  pub all_go_on_in : {E : Type 0} (old mid new : List (List ℕ)) (o : Option (List ℕ)) (r : Result (Option (List ℕ)) E)
      → Finds p old (filter_map named folders) o mid → o ≡ None
      → IfOk r (λ found. Finds p mid (filter_map named others) found new)
      → IfOk r (λ found. Finds p old (filter_map named (folders ++ others)) found new)
  all_go_on_in old mid new o r f e =
      IfOk-weaker r (λ found. Finds p mid (filter_map named others) found new) _
      (λ found. goes_on_in old mid new o found f e)

  pub ends_in : (old new : List (List ℕ)) (o : Option (List ℕ)) (x : List ℕ) → Finds p old (filter_map named folders) o new
      → o ≡ Some x → Finds p old (filter_map named (folders ++ others)) (Some x) new
  ends_in old new o x f e =
      rw filter_map-append (ends_there p old new (filter_map named folders) (filter_map named others) o x f e)

-- the same over the next of the folders that are left and then the others
module _ (p : List ℕ → Bool) (named : List ℕ → Option (List ℕ)) (folders : List (List ℕ)) (i : ℕ) (folder : List ℕ)
    (within : i < length folders) (is : folder ≡ get_or folders i folder) where
  joined : (o : Option (List ℕ)) (paths : List (List ℕ)) → cons_option o paths ≡ option_to_list o ++ paths
  joined None paths = refl
  joined (Some path) paths = refl

  left : filter_map named (drop i folders) ≡ option_to_list (named folder) ++ filter_map named (drop (i + 1) folders)
  left = ap (filter_map named) (drop-cons folders i folder within)
      ∙ rw (← is, add-one) (joined (named folder) (filter_map named (drop (suc i) folders)))

  pub next_goes_on : (old mid new : List (List ℕ)) (o found : Option (List ℕ)) → Finds p old (option_to_list (named folder)) o mid
      → o ≡ None → Finds p mid (filter_map named (drop (i + 1) folders)) found new → Finds p old (filter_map named (drop i folders)) found new
  next_goes_on old mid new o found f e g =
      rw left (goes_on p old mid new (option_to_list (named folder)) (filter_map named (drop (i + 1) folders)) o found f e g)

  pub next_ends : (old new : List (List ℕ)) (o : Option (List ℕ)) (x : List ℕ) → Finds p old (option_to_list (named folder)) o new
      → o ≡ Some x → Finds p old (filter_map named (drop i folders)) (Some x) new
  next_ends old new o x f e =
      rw left (ends_there p old new (option_to_list (named folder)) (filter_map named (drop (i + 1) folders)) o x f e)
