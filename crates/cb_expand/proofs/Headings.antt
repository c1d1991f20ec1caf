-- What the token that is read next is.
use Rattle.std.proofs.Common.{◌≡◌, ℕ, ◌+◌, ◌-◌, ◌≤◌, ◌<◌, Bool, true, false, List, [], ◌∷◌, length, get_or, refl, ap, sym, ◌∙◌, subst, arith, Option, Some, None}
use Rattle.std.specs.Prelude.{◌==◌, ◌&&◌, ◌||◌, if◌then◌else◌, is_some, slice_get, IsSomeAnd, IfSome, MatchOption, codes}
use Rattle.std.specs.Str.{bytes_eq}
use Rattle.cb_tokens.specs.Kinds.{is_identifier_kind}
use Rattle.cb_macro.specs.Definitions.{Definition, all_parameters}
use Rattle.cb_macro.specs.Maps.{found_at}
use Rattle.cb_macro.specs.Parts.{parts, is_shown, is_raw}
use Rattle.cb_paste.specs.declared.work_token.WorkToken.{WorkToken}
use Rattle.cb_paste.specs.Sets.{hides}
use Rattle.cb_paste.specs.Shades.{Shaded, seen}
use Rattle.cb_expand.specs.declared.mode.Mode.{Mode}
use Rattle.cb_expand.specs.declared.mode.Mode.TheVariants.{Plain, Condition}
use Rattle.cb_expand.specs.declared.sign.Sign.{Sign}
use Rattle.cb_expand.specs.declared.work.Work.{Work}
use Rattle.cb_expand.specs.Arguments.{is_open, gather}
use Rattle.cb_expand.specs.Heads.{Named, Head, Stands, Calls, head, asked, asked_of, asking, named, called, gathered, object_call, only}
use Rattle.cb_expand.specs.inner.Gathers.{last_of, IsGathered}
use Rattle.cb_expand.specs.inner.Rows.{between, signs}
use Rattle.cb_expand.specs.inner.Works.{seen_all, row_of}
use Rattle.cb_expand.specs.inner.Readings.{rest_of, named_call, inside, written_at, IsEnded, IsOpened, IsCalled}
use Rattle.cb_expand.proofs.Heights.{between_more}
use Rattle.cb_expand.proofs.ByEnds.{sign_is, no_token}
use Rattle.cb_expand.proofs.Putting.{parts_are}
use Rattle.cb_expand.proofs.Resuming.{length_row}

-- a token that asks for a name, or for none
pub head_by : (ms : Named) (mode : Mode) (t : Shaded) (ts : List Shaded) (o : Option (List ℕ × List Shaded)) → asked mode t ts ≡ o → head ms mode t ts ≡ asking ms o t ts
unfolding head
head_by ms mode t ts o e = ap (λ o. asking ms o t ts) e

pub asked_by_kind : (mode : Mode) (t : Shaded) (ts : List Shaded) → is_identifier_kind t.kind ≡ false → asked mode t ts ≡ None
unfolding asked
asked_by_kind Plain t ts e = refl
asked_by_kind Condition t ts e = ap (λ b. if b && bytes_eq t.text (codes "defined") then asked_of ts else None) e

none_by : (b : Bool) (ts : List Shaded) → (if b && false then asked_of ts else None) ≡ None
none_by true ts = refl
none_by false ts = refl

pub asked_by_text : (mode : Mode) (t : Shaded) (ts : List Shaded) → bytes_eq t.text (codes "defined") ≡ false → asked mode t ts ≡ None
unfolding asked
asked_by_text Plain t ts e = refl
asked_by_text Condition t ts e = ap (λ b. if is_identifier_kind t.kind && b then asked_of ts else None) e ∙ none_by (is_identifier_kind t.kind) ts

pub asked_in_plain : (t : Shaded) (ts : List Shaded) → asked Plain t ts ≡ None
unfolding asked
asked_in_plain t ts = refl

-- a token that asks for none
module _ (ms : Named) (t : Shaded) (ts : List Shaded) where
  pub no_name : is_identifier_kind t.kind ≡ false → asking ms None t ts ≡ Stands t ts
  no_name e = ap (λ b. if b then named (found_at ms t.text) t ts else Stands t ts) e

  pub a_name : is_identifier_kind t.kind ≡ true → (o : Option (ℕ × Definition)) → found_at ms t.text ≡ o → asking ms None t ts ≡ named o t ts
  a_name e o f = ap (λ b. if b then named (found_at ms t.text) t ts else Stands t ts) e ∙ ap (λ o. named o t ts) f

  pub no_macro : is_identifier_kind t.kind ≡ true → found_at ms t.text ≡ None → asking ms None t ts ≡ Stands t ts
  no_macro e f = a_name e None f

  module _ (place : ℕ) (d : Definition) (e : is_identifier_kind t.kind ≡ true) (f : found_at ms t.text ≡ Some (place, d)) where
    by_hides : (b : Bool) → t.hides place ≡ b → asking ms None t ts ≡ (if b then Stands t ts else (if d.is_function then called place d t ts (gathered d ts) else object_call place d t ts))
    by_hides b h =
        a_name e (Some (place, d)) f
        ∙ ap (λ b. if b then Stands t ts else (if d.is_function then called place d t ts (gathered d ts) else object_call place d t ts)) h

    pub hidden : t.hides place ≡ true → asking ms None t ts ≡ Stands t ts
    hidden h = by_hides true h

    pub function_named : t.hides place ≡ false → d.is_function ≡ true → asking ms None t ts ≡ called place d t ts (gathered d ts)
    function_named h g = by_hides false h ∙ ap (λ b. if b then called place d t ts (gathered d ts) else object_call place d t ts) g

    pub object_named : t.hides place ≡ false → d.is_function ≡ false → asking ms None t ts ≡ object_call place d t ts
    object_named h g = by_hides false h ∙ ap (λ b. if b then called place d t ts (gathered d ts) else object_call place d t ts) g

-- the macro in the place of a name
pub found_by : (o : Option (List ℕ × Definition)) (f : Option (ℕ × Definition)) (place : ℕ) (d : Definition)
    → IsSomeAnd o (λ e. f ≡ Some (place, e.1)) → IsSomeAnd o (λ e. e.1 ≡ d) → f ≡ Some (place, d)
found_by None f place d h k = absurd h
found_by (Some e) f place d h k = h ∙ ap (λ d. Some (place, d)) k

pub some_by : (ms : Named) (r : Option ℕ) (f : Option (ℕ × Definition))
    → MatchOption r (f ≡ None) (λ place. IsSomeAnd (slice_get ms place) (λ e. f ≡ Some (place, e.1))) → is_some r ≡ is_some f
some_by ms None f h = sym (ap is_some h)
some_by ms (Some place) f h = some_at (slice_get ms place) h
  where
    some_at : (o : Option (List ℕ × Definition)) → IsSomeAnd o (λ e. f ≡ Some (place, e.1)) → true ≡ is_some f
    some_at None h = absurd h
    some_at (Some e) h = sym (ap is_some h)

pub object_is : (ms : Named) (w : Work) (t : WorkToken) (place : ℕ) (d : Definition) → IsSomeAnd (slice_get ms place) (λ e. e.1 ≡ d)
    → object_call place d (seen w.arena t) (rest_of w) ≡ named_call ms w t place
object_is ms w t place d i =
    ap (λ ps. Calls (record { parts = ps; spaced = t.spaced; hides = λ n. (n == place) || hides w.arena t.hides n; written = [] }) [] (rest_of w))
    (sym (parts_are (slice_get ms place) d (parts d) i refl))

-- what stands behind the name of a function-like macro
pub nothing_behind : (place : ℕ) (d : Definition) (t : Shaded) (ts : List Shaded) → ts ≡ [] → called place d t ts (gathered d ts) ≡ Stands t ts
unfolding gathered
nothing_behind place d t ts e = ap (λ us. called place d t ts (gathered d us)) e

module _ (w : Work) (d : Definition) (g : Sign) (a : w.floor < length w.row.tokens.items) (s : (other : Sign) → get_or (signs w.row.tokens.items) (inside w) other ≡ g) where
  top : rest_of w ≡ get_or (row_of w) (inside w) no_token ∷ between w.floor (inside w) (row_of w)
  top =
      let k = length_row w in
      let m : inside w + 1 ≡ length (row_of w) = omega (arith, k) in
      ap (λ n. between w.floor n (row_of w)) (sym m) ∙ between_more w.floor (inside w) (row_of w) no_token (omega arith) (omega (arith, k))

  by_open : (b : Bool) → is_open g ≡ b → gathered d (rest_of w) ≡ (if b then gather d.is_variadic (length (all_parameters d)) (between w.floor (inside w) (row_of w)) else None)
  unfolding gathered
  by_open b e =
      ap (gathered d) top
      ∙ ap (λ b. if b then gather d.is_variadic (length (all_parameters d)) (between w.floor (inside w) (row_of w)) else None)
      (ap is_open (sign_is w.arena w.row.tokens.items (inside w) no_token g (omega arith) (s g)) ∙ e)

  pub shut : is_open g ≡ false → (place : ℕ) (t : Shaded) → called place d t (rest_of w) (gathered d (rest_of w)) ≡ Stands t (rest_of w)
  shut e place t = ap (called place d t (rest_of w)) (by_open false e)

  pub opened : is_open g ≡ true → gathered d (rest_of w) ≡ gather d.is_variadic (length (all_parameters d)) (between w.floor (inside w) (row_of w))
  opened e = by_open true e

-- the name behind which a parenthesis opens
pub is_opened : (ms : Named) (w : Work) (t : WorkToken) (place : ℕ) (d : Definition) → place < length ms → IsSomeAnd (slice_get ms place) (λ e. e.1 ≡ d) → w.floor < length w.row.tokens.items
    → gathered d (rest_of w) ≡ gather d.is_variadic (length (all_parameters d)) (between w.floor (inside w) (row_of w))
    → IsOpened ms w t place (called place d (seen w.arena t) (rest_of w) (gathered d (rest_of w)))
is_opened ms w t place d p i a o = record { placed = p; some = a; is = opened_at (slice_get ms place) i }
  where
    opened_at : (x : Option (List ℕ × Definition)) → IsSomeAnd x (λ e. e.1 ≡ d)
        → IsSomeAnd x (λ e. called place d (seen w.arena t) (rest_of w) (gathered d (rest_of w)) ≡ called place e.1 (seen w.arena t) (rest_of w) (gather e.1.is_variadic (length (all_parameters e.1)) (between w.floor (inside w) (row_of w))))
    opened_at None h = absurd h
    opened_at (Some e) h =
        ap (called place d (seen w.arena t) (rest_of w)) o
        ∙ ap (λ (d : Definition). called place d (seen w.arena t) (rest_of w) (gather d.is_variadic (length (all_parameters d)) (between w.floor (inside w) (row_of w)))) (sym h)

-- what was found, told otherwise
pub match_more : {X : Type 0} {A B : Type 0} {P Q : X → Type 0} (o : Option X) → (A → B) → ((x : X) → P x → Q x) → MatchOption o A P → MatchOption o B Q
match_more None f g h = f h
match_more (Some x) f g h = g x h

pub some_more : {X : Type 0} (A : Type 0) {P Q : X → Type 0} (o : Option X) → ((x : X) → P x → Q x) → MatchOption o A P → IfSome o Q
some_more A None g h = tt
some_more A (Some x) g h = g x h

-- what it is by the definition in its place
pub opened_by : (x : Option (List ℕ × Definition)) (d : Definition) (f : Definition → Head) (h : Head) → IsSomeAnd x (λ e. h ≡ f e.1) → IsSomeAnd x (λ e. e.1 ≡ d) → h ≡ f d
opened_by None d f h a b = absurd a
opened_by (Some e) d f h a b = a ∙ ap f b

-- its ends lie in the row
module _ (ms : Named) (w : Work) (place : ℕ) (d : Definition) (p : place < length ms) (i : IsSomeAnd (slice_get ms place) (λ e. e.1 ≡ d)) (ends : List ℕ) (lacks : Bool)
    (a : 0 < length w.row.tokens.items)
    (g : IsGathered (gather d.is_variadic (length (all_parameters d)) (between w.floor (inside w) (row_of w))) (row_of w) (length (all_parameters d)) w.floor (inside w) ends lacks) where
  few_by : (o : Option (List ℕ × Definition)) → IsSomeAnd o (λ e. e.1 ≡ d) → IsSomeAnd o (λ e. length ends ≤ length (all_parameters e.1))
  few_by None h = absurd h
  few_by (Some e) h = subst (λ (d : Definition). length ends ≤ length (all_parameters d)) (sym h) g.few

  pub is_ended : IsEnded ms w place ends
  is_ended = record { placed = p; some = a; descending = g.descending; above = g.above; within = g.within; few = few_by (slice_get ms place) i }

-- the call that it is
pub is_called : (ms : Named) (w : Work) (t : WorkToken) (place : ℕ) (d : Definition) → IsSomeAnd (slice_get ms place) (λ e. e.1 ≡ d) → (ends : List ℕ) (lacks : Bool) (h : Head)
    → h ≡ called place d (seen w.arena t) (rest_of w) (gather d.is_variadic (length (all_parameters d)) (between w.floor (inside w) (row_of w)))
    → IsGathered (gather d.is_variadic (length (all_parameters d)) (between w.floor (inside w) (row_of w))) (row_of w) (length (all_parameters d)) w.floor (inside w) ends lacks
    → IsCalled ms w t place ends lacks h
is_called ms w t place d i ends lacks h o g = record {
  close = g.close;
  at = g.at;
  is = o ∙ (ap (called place d (seen w.arena t) (rest_of w)) g.is
      ∙ ap (λ ps. Calls
      (record { parts = ps; spaced = t.spaced; hides = λ n. (n == place) || (hides w.arena t.hides n && g.close.hides n); written = only (λ i. is_raw i ps) 0 (written_at w ends lacks) })
      (only (λ i. is_shown i ps) 0 (written_at w ends lacks))
      (between w.floor (last_of (inside w) ends - 1) (row_of w))) (sym (parts_are (slice_get ms place) d (parts d) i refl)));
}

-- the arguments that were looked for
pub gather_is : (w : Work) (v u : Bool) (m n height : ℕ) → v ≡ u → m ≡ n → height ≡ inside w
    → gather v m (between w.floor height (row_of w)) ≡ gather u n (between w.floor (inside w) (row_of w))
gather_is w v u m n height e f g =
    ap (λ v. gather v m (between w.floor height (row_of w))) e
    ∙ (ap (λ m. gather u m (between w.floor height (row_of w))) f ∙ ap (λ h. gather u n (between w.floor h (row_of w))) g)

pub gathered_is : (w : Work) (v u : Bool) (m n height : ℕ) (ends : List ℕ) (lacks : Bool) → v ≡ u → m ≡ n → height ≡ inside w
    → IsGathered (gather v m (between w.floor height (row_of w))) (row_of w) m w.floor height ends lacks
    → IsGathered (gather u n (between w.floor (inside w) (row_of w))) (row_of w) n w.floor (inside w) ends lacks
gathered_is w v u m n height ends lacks e f g h =
    subst (λ k. IsGathered (gather u n (between w.floor k (row_of w))) (row_of w) n w.floor k ends lacks) g
    (subst (λ k. IsGathered (gather u k (between w.floor height (row_of w))) (row_of w) k w.floor height ends lacks) f
    (subst (λ v. IsGathered (gather v m (between w.floor height (row_of w))) (row_of w) m w.floor height ends lacks) e h))

pub none_of : (f : Option (ℕ × Definition)) → is_some f ≡ false → f ≡ None
none_of None h = refl
none_of (Some x) h = cc

pub slice_rest : (w : Work) (ts : List WorkToken) → ts ≡ w.row.tokens.items → rest_of w ≡ between w.floor (length ts) (seen_all w.arena ts)
slice_rest w ts e =
    ap (λ n. between w.floor n (row_of w)) (length_row w) ∙ ap (λ (xs : List WorkToken). between w.floor (length xs) (seen_all w.arena xs)) (sym e)
