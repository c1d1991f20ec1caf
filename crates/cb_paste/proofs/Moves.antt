-- Arguments that are taken, and those that stay.
use Rattle.std.proofs.Common.{◌≡◌, ℕ, zero, suc, ◌+◌, ◌<◌, ◌==◌, ◌&&◌, ◌||◌, Bool, true, false, not, List, [], ◌∷◌, length, map, drop, set, get_or, refl, sym, ◌∙◌, ap, arith}
use Rattle.std.proofs.lemmas.Bool.{and_parts, eqb-true, eq-eqb, or_right, true_from_ne_false, not-true, not-false, both_ways}
use Rattle.std.proofs.lemmas.List.{drop_more, map-set, get_or-set_other}
use Rattle.cb_paste.specs.declared.argument.Argument.{Argument}
use Rattle.cb_paste.specs.declared.part.Part.{Part}
use Rattle.cb_paste.specs.declared.part.Shape.{Shape}
use Rattle.cb_paste.specs.declared.part.Shape.TheVariants.{Fixed, Parameter, Quoted}
use Rattle.cb_tokens.specs.declared.token.TokenKind.TheVariants.{Str}
use Rattle.cb_paste.specs.Sets.{Extends}
use Rattle.cb_paste.specs.Shades.{seen, AreIn, first_spaced}
use Rattle.cb_paste.specs.Strings.{quoted}
use Rattle.cb_paste.specs.Joins.{Real}
use Rattle.cb_paste.specs.Puts.{Given, seen_argument, given_at, AreArgumentsIn, own_token, as_operand, shape_puts, next_glued}
use Rattle.cb_paste.specs.inner.Given.{tokens_of}
use Rattle.cb_paste.specs.inner.Uses.{same_form, takes, is_used, is_other, Kept}
use Rattle.cb_paste.proofs.Copies.{arguments_kept}

pub kept_self : (wanted : Bool → ℕ → Bool) (xs : List Argument) → Kept wanted xs xs
kept_self wanted xs = record { same = λ sets raw i w. refl; within = λ count o. o }

pub kept_trans : (all few : Bool → ℕ → Bool) (a b c : List Argument) → ((raw : Bool) (i : ℕ) → few raw i ≡ true → all raw i ≡ true) → Kept all a b → Kept few b c → Kept few a c
kept_trans all few a b c fewer k l = record {
  same = λ sets raw i w. l.same sets raw i w ∙ k.same sets raw i (fewer raw i w);
  within = λ count o. l.within count (k.within count o);
}

-- the parts from a place on use what the one there uses, and what those behind it use
pub used_at : (ps : List Part) (at : ℕ) (p : Part) → at < length ps → p ≡ get_or ps at p → (raw : Bool) (i : ℕ) → is_used (drop at ps) raw i ≡ (takes p.shape (next_glued (drop at ps) || next_glued (drop (at + 1) ps)) raw i || is_used (drop (at + 1) ps) raw i)
used_at ps at p h e raw i =
    let d = drop_more ps at p h in
    ap (λ l. is_used l raw i) d
    ∙ (ap (λ q. takes q.shape (q.glued || next_glued (drop (at + 1) ps)) raw i || is_used (drop (at + 1) ps) raw i) (sym e)
    ∙ ap (λ b. takes p.shape (b || next_glued (drop (at + 1) ps)) raw i || is_used (drop (at + 1) ps) raw i) (sym (ap next_glued d ∙ ap (λ q. q.glued) (sym e))))

-- what the parts behind the next one use
pub used_more : (ps : List Part) (at : ℕ) (p : Part) → at < length ps → p ≡ get_or ps at p → (raw : Bool) (i : ℕ) → is_used (drop (at + 1) ps) raw i ≡ true → is_used (drop at ps) raw i ≡ true
used_more ps at p h e raw i u =
    used_at ps at p h e raw i
    ∙ or_right (takes p.shape (next_glued (drop at ps) || next_glued (drop (at + 1) ps)) raw i) (is_used (drop (at + 1) ps) raw i) u

-- what the next part uses
pub used_next : (ps : List Part) (at : ℕ) (p : Part) → at < length ps → p ≡ get_or ps at p → (raw : Bool) (i : ℕ) → takes p.shape (next_glued (drop at ps) || next_glued (drop (at + 1) ps)) raw i ≡ true → is_used (drop at ps) raw i ≡ true
used_next ps at p h e raw i u =
    used_at ps at p h e raw i ∙ ap (λ b. b || is_used (drop (at + 1) ps) raw i) u

-- a part puts in the same where the tokens that it takes are the same
pub shape_kept : (gs hs : List Given) (beside spaced : Bool) (s : Shape) → ((raw : Bool) (i : ℕ) → takes s beside raw i ≡ true → tokens_of raw (given_at gs i) ≡ tokens_of raw (given_at hs i)) → shape_puts gs beside spaced s ≡ shape_puts hs beside spaced s
shape_kept gs hs beside spaced (Fixed kind text) k = refl
shape_kept gs hs true spaced (Parameter j) k = ap (λ ts. as_operand spaced ts) (k true j (eq-eqb j j refl))
shape_kept gs hs false spaced (Parameter j) k = ap (λ ts. map Real (first_spaced spaced ts)) (k false j (eq-eqb j j refl))
shape_kept gs hs beside spaced (Quoted j) k = ap (λ ts. Real (own_token Str spaced (quoted ts)) ∷ []) (k true j (eq-eqb j j refl))

form_is : (raw form : Bool) → same_form raw form ≡ true → form ≡ raw
form_is true form h = h
form_is false form h = not-true form h

-- all others stay where tokens are taken that are not wanted
pub kept_unused : (wanted : Bool → ℕ → Bool) (raw : Bool) (i : ℕ) (a b : List Argument) → wanted raw i ≡ false → Kept (is_other raw i) a b → Kept wanted a b
kept_unused wanted raw i a b u k = record {
  same = λ sets form j w. k.same sets form j (true_from_ne_false _ (λ n.
      let both = and_parts (same_form raw form) (j == i) (not-false (same_form raw form && (j == i)) n) in
      both_ways (wanted form j) (ap (λ f. wanted f j) (form_is raw form both.0) ∙ (ap (λ l. wanted raw l) (eqb-true j i both.1) ∙ u)) w));
  within = k.within;
}

given_is : (sets : List (List ℕ)) (args : List Argument) (i : ℕ) (y : Argument) → i < length args → y ≡ get_or args i y → given_at (map (seen_argument sets) args) i ≡ seen_argument sets y
given_is sets [] i y h e = absurd (omega arith)
given_is sets (a ∷ rest) zero y h e = ap (seen_argument sets) (sym e)
given_is sets (a ∷ rest) (suc i) y h e = given_is sets rest i y (omega arith) e

set_is : (sets : List (List ℕ)) (args : List Argument) (i : ℕ) (x : Argument) → i < length args → given_at (map (seen_argument sets) (set args i x)) i ≡ seen_argument sets x
set_is sets [] i x h = absurd (omega arith)
set_is sets (a ∷ rest) zero x h = refl
set_is sets (a ∷ rest) (suc i) x h = set_is sets rest i x (omega arith)

set_other : (sets : List (List ℕ)) (args : List Argument) (i j : ℕ) (x : Argument) → (j ≡ i → ⊥) → given_at (map (seen_argument sets) (set args i x)) j ≡ given_at (map (seen_argument sets) args) j
set_other sets args i j x ne =
    ap (λ l. given_at l j) (map-set (seen_argument sets) args i x)
    ∙ get_or-set_other (map (seen_argument sets) args) i j (seen_argument sets x) (record { raw = []; expanded = [] }) ne

set_within : (count : ℕ) (args : List Argument) (i : ℕ) (x : Argument) → AreIn count x.raw.items → AreIn count x.expanded.items → AreArgumentsIn count args → AreArgumentsIn count (set args i x)
set_within count [] i x r e o = tt
set_within count (a ∷ rest) zero x r e o = (r, e, o.2)
set_within count (a ∷ rest) (suc i) x r e o = (o.0, o.1, set_within count rest i x r e o.2)

and_true : (b : Bool) → (b && true) ≡ b
and_true true = refl
and_true false = refl

-- the other tokens of an argument, and those of all others
set_same : (sets : List (List ℕ)) (args : List Argument) (i : ℕ) (y x : Argument) (raw form : Bool) (j : ℕ) → i < length args → y ≡ get_or args i y → (same_form raw form ≡ false → tokens_of form (seen_argument sets x) ≡ tokens_of form (seen_argument sets y)) → (b : Bool) → (j == i) ≡ b → not (same_form raw form && b) ≡ true → tokens_of form (given_at (map (seen_argument sets) (set args i x)) j) ≡ tokens_of form (given_at (map (seen_argument sets) args) j)
set_same sets args i y x raw form j h e rest true is w =
    let at : j ≡ i = eqb-true j i is in
    ap (λ k. tokens_of form (given_at (map (seen_argument sets) (set args i x)) k)) at
    ∙ (ap (λ g. tokens_of form g) (set_is sets args i x h)
    ∙ (rest (sym (and_true (same_form raw form)) ∙ not-true (same_form raw form && true) w)
    ∙ (ap (λ g. tokens_of form g) (sym (given_is sets args i y h e))
    ∙ ap (λ k. tokens_of form (given_at (map (seen_argument sets) args) k)) (sym at))))
set_same sets args i y x raw form j h e rest false is w =
    ap (λ g. tokens_of form g) (set_other sets args i j x (λ q. both_ways (j == i) is (eq-eqb j i q)))

-- the tokens after its own expansion stay where those as written are taken
pub raw_taken : (sets : List (List ℕ)) (form : Bool) (x y : Argument) → x.expanded.items ≡ y.expanded.items → same_form true form ≡ false → tokens_of form (seen_argument sets x) ≡ tokens_of form (seen_argument sets y)
raw_taken sets true x y e h = absurd (both_ways true h refl)
raw_taken sets false x y e h = ap (λ ts. map (seen sets) ts) e

-- the tokens as written stay where those after its own expansion are taken
pub expanded_taken : (sets : List (List ℕ)) (form : Bool) (x y : Argument) → x.raw.items ≡ y.raw.items → same_form false form ≡ false → tokens_of form (seen_argument sets x) ≡ tokens_of form (seen_argument sets y)
expanded_taken sets true x y e h = ap (λ ts. map (seen sets) ts) e
expanded_taken sets false x y e h = absurd (both_ways true h refl)

-- another argument in the place of one, with the same tokens but for those that are taken
pub set_kept : (args : List Argument) (i : ℕ) (y x : Argument) (raw : Bool) → i < length args → y ≡ get_or args i y → ((sets : List (List ℕ)) (form : Bool) → same_form raw form ≡ false → tokens_of form (seen_argument sets x) ≡ tokens_of form (seen_argument sets y)) → ((count : ℕ) → AreArgumentsIn count args → AreIn count x.raw.items × AreIn count x.expanded.items) → Kept (is_other raw i) args (set args i x)
set_kept args i y x raw h e rest new = record {
  same = λ sets form j w. set_same sets args i y x raw form j h e (rest sets form) (j == i) refl w;
  within = λ count o. set_within count args i x (new count o).0 (new count o).1 o;
}

-- the next part puts in the same in an arena that has grown, with what is left of the arguments
pub part_kept : {a b : List (List ℕ)} → Extends a b → (old now : List Argument) (ps : List Part) (at : ℕ) (p : Part) (beside : Bool) → at < length ps → p ≡ get_or ps at p → beside ≡ (next_glued (drop at ps) || next_glued (drop (at + 1) ps)) → AreArgumentsIn (length a) old → Kept (is_used (drop at ps)) old now → shape_puts (map (seen_argument b) now) beside p.spaced p.shape ≡ shape_puts (map (seen_argument a) old) beside p.spaced p.shape
part_kept {a} {b} e old now ps at p beside h is by o k =
    shape_kept (map (seen_argument b) now) (map (seen_argument b) old) beside p.spaced p.shape (λ raw i u. k.same b raw i (used_next ps at p h is raw i (ap (λ c. takes p.shape c raw i) (sym by) ∙ u)))
    ∙ ap (λ gs. shape_puts gs beside p.spaced p.shape) (arguments_kept e old o)
