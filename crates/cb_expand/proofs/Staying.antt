-- Tokens among which nothing is to be replaced stay as they are.
use Rattle.std.proofs.Common.{◌≡◌, ℕ, Bool, true, false, List, [], ◌∷◌, refl, ◌∙◌, arith, Option, Some, None}
use Rattle.std.specs.Prelude.{◌&&◌, ◌||◌, not, is_some, map}
use Rattle.cb_tokens.specs.Kinds.{is_identifier_kind}
use Rattle.cb_tokens.specs.declared.token.Token.{Token}
use Rattle.cb_macro.specs.Definitions.{Definition}
use Rattle.cb_macro.specs.Maps.{found_at}
use Rattle.cb_paste.specs.Shades.{Shaded}
use Rattle.cb_expand.specs.declared.mode.Mode.{Mode}
use Rattle.cb_expand.specs.declared.mode.Mode.TheVariants.{Plain, Condition}
use Rattle.cb_expand.specs.Heads.{Named, Stands, head, asked}
use Rattle.cb_expand.specs.Expansion.{Expands, ends, stands, bare, IsReplacement}
use Rattle.cb_expand.specs.Untouched.{asks, is_untouched, are_untouched}
use Rattle.cb_expand.proofs.Headings.{head_by, asked_by_kind, asked_by_text, asked_in_plain, no_name, no_macro}
use Rattle.cb_expand.proofs.Runs.{plain_bare}

left_true : (a b : Bool) → (a && b) ≡ true → a ≡ true
left_true true b e = refl
left_true false b e = absurd cc

right_true : (a b : Bool) → (a && b) ≡ true → b ≡ true
right_true true b e = e
right_true false b e = absurd cc

not_asked : (mode : Mode) (t : Token) (ts : List Shaded) → asks mode t.text ≡ false → asked mode (bare t) ts ≡ None
not_asked Plain t ts e = asked_in_plain (bare t) ts
not_asked Condition t ts e = asked_by_text Condition (bare t) ts e

-- a token that stays
pub stays_alone : (ms : Named) (mode : Mode) (t : Token) (ts : List Shaded) → is_untouched ms mode t ≡ true → head ms mode (bare t) ts ≡ Stands (bare t) ts
stays_alone ms mode t ts h = by_kind (is_identifier_kind t.kind) refl h
  where
    by_name : (f : Option (ℕ × Definition)) (a : Bool) → is_identifier_kind t.kind ≡ true → found_at ms t.text ≡ f → asks mode t.text ≡ a
        → not (is_some f || a) ≡ true → head ms mode (bare t) ts ≡ Stands (bare t) ts
    by_name None false k f a h = head_by ms mode (bare t) ts None (not_asked mode t ts a) ∙ no_macro ms (bare t) ts k f
    by_name None true k f a h = absurd cc
    by_name (Some m) a k f b h = absurd cc

    by_kind : (k : Bool) → is_identifier_kind t.kind ≡ k → not (k && (is_some (found_at ms t.text) || asks mode t.text)) ≡ true
        → head ms mode (bare t) ts ≡ Stands (bare t) ts
    by_kind false k h = head_by ms mode (bare t) ts None (asked_by_kind mode (bare t) ts k) ∙ no_name ms (bare t) ts k
    by_kind true k h = by_name (found_at ms t.text) (asks mode t.text) k refl refl h

stay_all : (ms : Named) (mode : Mode) (ts : List Token) → are_untouched ms mode ts ≡ true → Expands ms mode (map bare ts) (map bare ts) 0
stay_all ms mode [] h = ends
stay_all ms mode (t ∷ ts) h =
    stands (stays_alone ms mode t (map bare ts) (left_true (is_untouched ms mode t) (are_untouched ms mode ts) h))
    (stay_all ms mode ts (right_true (is_untouched ms mode t) (are_untouched ms mode ts) h))

pub replaced_by_themselves : (ms : Named) (mode : Mode) (ts : List Token) → are_untouched ms mode ts ≡ true → IsReplacement ms mode ts ts
replaced_by_themselves ms mode ts h = (0, (map bare ts, stay_all ms mode ts h, plain_bare ts), omega arith)
