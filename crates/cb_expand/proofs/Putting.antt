-- What is put in on a row.
use Rattle.std.proofs.Common.{◌≡◌, ℕ, Bool, List, [], ◌∷◌, ◌++◌, length, map, refl, ap, sym, ◌∙◌, Option, Some, None}
use Rattle.std.specs.Prelude.{reverse, slice_get, IsSomeAnd}
use Rattle.std.proofs.lemmas.List.{reverse-append, reverse-reverse, length-map, map-append}
use Rattle.cb_paste.specs.declared.work_token.WorkToken.{WorkToken}
use Rattle.cb_paste.specs.declared.argument.Argument.{Argument}
use Rattle.cb_paste.specs.declared.part.Part.{Part}
use Rattle.cb_paste.specs.Shades.{Shaded, waiting, all_shaded, shaded}
use Rattle.cb_paste.specs.Sets.{hides}
use Rattle.cb_paste.specs.Puts.{seen_argument, puts}
use Rattle.cb_expand.specs.Arguments.{sign, sign_of_token}
use Rattle.cb_macro.specs.Definitions.{Definition}
use Rattle.cb_macro.specs.Parts.{parts}
use Rattle.cb_expand.specs.Heads.{Named, givens, put}
use Rattle.cb_expand.specs.inner.Rows.{signs}
use Rattle.cb_expand.specs.inner.Works.{parts_of, seen_all, raws, became, put_of}

pub givens_are : (sets : List (List ℕ)) (args : List Argument) → givens (raws sets args) (became sets args) ≡ map (seen_argument sets) args
givens_are sets [] = refl
givens_are sets (a ∷ args) = ap (λ gs. seen_argument sets a ∷ gs) (givens_are sets args)

pub parts_are : (o : Option (List ℕ × Definition)) (d : Definition) (ps : List Part) → IsSomeAnd o (λ e. e.1 ≡ d) → ps ≡ parts d → parts_of o ≡ ps
parts_are None d ps h e = absurd h
parts_are (Some x) d ps h e = ap parts h ∙ sym e

pub put_is : (ms : Named) (sets : List (List ℕ)) (place : ℕ) (spaced : Bool) (extra : ℕ) (args : List Argument) (ps : List Part) → parts_of (slice_get ms place) ≡ ps
    → put_of ms sets place spaced extra args ≡ all_shaded (hides sets extra) (puts (map (seen_argument sets) args) spaced ps)
unfolding put
put_is ms sets place spaced extra args ps e =
    ap (λ gs. all_shaded (hides sets extra) (puts gs spaced (parts_of (slice_get ms place)))) (givens_are sets args)
    ∙ ap (λ ps. all_shaded (hides sets extra) (puts (map (seen_argument sets) args) spaced ps)) e

pub length_put : (ms : Named) (sets : List (List ℕ)) (place : ℕ) (spaced : Bool) (extra : ℕ) (args : List Argument) (ps : List Part) → parts_of (slice_get ms place) ≡ ps
    → length (put_of ms sets place spaced extra args) ≡ length (puts (map (seen_argument sets) args) spaced ps)
length_put ms sets place spaced extra args ps e =
    ap length (put_is ms sets place spaced extra args ps e) ∙ length-map (puts (map (seen_argument sets) args) spaced ps) (shaded (hides sets extra))

-- the row under what is put in
pub rows_grow : (old new : List (List ℕ)) (ts us : List WorkToken) (added : List Shaded) → waiting new us ≡ added ++ waiting old ts
    → seen_all new us ≡ seen_all old ts ++ reverse added
rows_grow old new ts us added e =
    sym (reverse-reverse (seen_all new us)) ∙ (ap reverse e ∙ (reverse-append added (reverse (seen_all old ts)) ∙ ap (λ xs. xs ++ reverse added) (reverse-reverse (seen_all old ts))))

pub signs_are : (sets : List (List ℕ)) (ts : List WorkToken) → map sign_of_token (seen_all sets ts) ≡ signs ts
signs_are sets [] = refl
signs_are sets (t ∷ ts) = ap (λ ss. sign t.kind t.text ∷ ss) (signs_are sets ts)

pub signs_grow : (old new : List (List ℕ)) (ts us : List WorkToken) (added : List Shaded) → seen_all new us ≡ seen_all old ts ++ added
    → signs us ≡ signs ts ++ map sign_of_token added
signs_grow old new ts us added e =
    sym (signs_are new us) ∙ (ap (map sign_of_token) e ∙ (map-append sign_of_token (seen_all old ts) added ∙ ap (λ ss. ss ++ map sign_of_token added) (signs_are old ts)))
