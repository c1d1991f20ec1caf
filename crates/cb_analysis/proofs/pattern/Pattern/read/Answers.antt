use Rattle.std.proofs.Common.{◌≡◌, ◌∙◌, Bool, true, false, Some, None, if◌then◌else◌, not, sym, refl, ◌||◌, nat_lt, length}
use Rattle.std.specs.List.{list_all, list_any}
use Rattle.cb_paths.specs.Paths.{is_absolute}
use Rattle.cb_analysis.specs.Fits.{is_empty}
use Rattle.cb_analysis.specs.Patterns.{unrooted, ends_with_slash, is_pattern, pattern_of, is_refused, parts_of, body}
use Rattle.cb_analysis.proofs.pattern.Pattern.read.Goals as goal

pub returns-then-has_refused : goal.returns-then-has_refused
unfolding is_pattern
returns-then-has_refused c =
    let refused : list_any is_refused c.args.text.now ≡ true = sym c.has_refused.ensures ∙ c.if-has_refused.true in
    rw refused refl

none_where_false : {X : Type 0} (b : Bool) (x : X) → None ≡ (if b then Some x else None) → b ≡ false
none_where_false true x h = cc
none_where_false false x h = refl

some_where_true : {X : Type 0} (b : Bool) (x y : X) → Some y ≡ (if b then Some x else None) → (b ≡ true) × (y ≡ x)
some_where_true true x y h = (refl, cc)
some_where_true false x y h = cc

pub returns-in_default : goal.returns-in_default
unfolding is_pattern
returns-in_default c =
    let fine : list_any is_refused c.args.text.now ≡ false = sym c.has_refused.ensures ∙ c.if-has_refused.false in
    let told = rw (c.without_end.ensures, c.unrooted-unrooted.ensures) at c.in_ok-parts.ensures in
    let empty : list_all (λ part. not (is_empty part)) (parts_of (body c.args.text.now)) ≡ false = none_where_false _ _ (sym c.in_default.is ∙ told) in
    rw (fine, empty) refl

pub returns : goal.returns
unfolding is_pattern pattern_of
returns c =
    let text = c.args.text.now in
    let fine : list_any is_refused text ≡ false = sym c.has_refused.ensures ∙ c.if-has_refused.false in
    let told = rw (c.without_end.ensures, c.unrooted-unrooted.ensures) at c.in_ok-parts.ensures in
    let full : (list_all (λ part. not (is_empty part)) (parts_of (body text)) ≡ true) × (c.in-Some.parts ≡ parts_of (body text)) =
    some_where_true _ _ _ (sym c.in-Some.is ∙ told) in
    let anchored : c.is_anchored.result ≡ (is_absolute text || nat_lt 1 (length (parts_of (body text)))) = rw full.1 at c.is_anchored.ensures in
    let folder : c.ends_with_slash.result ≡ ends_with_slash (unrooted text) = rw c.unrooted-unrooted.ensures at c.ends_with_slash.ensures in
    rw (fine, full.0, anchored, folder, full.1) refl
