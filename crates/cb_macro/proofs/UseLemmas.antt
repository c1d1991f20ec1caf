-- What one more part in front makes of the uses of parameters.
use Rattle.std.proofs.Common.{◌≡◌, ◌<◌, ◌+◌, ℕ, Bool, true, false, not, ◌&&◌, ◌||◌, List, [], ◌∷◌, ◌++◌, length, drop, get_or, refl, sym, ap, ◌∙◌, ◌-◌, arith, length-append}
use Rattle.std.specs.Prelude.{if◌then◌else◌, ◌==◌}
use Rattle.cb_tokens.specs.declared.token.TokenKind.{TokenKind}
use Rattle.cb_paste.specs.declared.part.Part.{Part}
use Rattle.cb_paste.specs.declared.part.Shape.TheVariants.{Fixed, Parameter, Quoted}
use Rattle.cb_paste.specs.Puts.{next_glued}
use Rattle.cb_macro.specs.declared.uses.Use.{Use}
use Rattle.cb_macro.specs.Parts.{is_shown, is_raw, use_of, parts, glues, items}
use Rattle.cb_macro.specs.declared.item.Before.TheVariants.{Nothing}
use Rattle.cb_macro.specs.Definitions.{Definition, all_parameters}
use Rattle.cb_macro.specs.inner.Kept.{AreUsesOf, AreKeptOf}
use Rattle.cb_tokens.specs.declared.token.Token.{Token}
use Rattle.std.proofs.Math.Nat.{sub_self}
use borrow.Author.Count.{below_more}
use Rattle.std.proofs.lemmas.List.{drop_more, get_or_append_left, get_or-append_right}
use Rattle.cb_macro.specs.inner.Uses.{used}

-- a use by tests of it
a_use : Bool → Bool → Use
a_use shown raw = record { is_shown = shown; is_raw = raw }

-- a token makes no use
pub use-fixed : (i : ℕ) (p : Part) (ps : List Part) (kind : TokenKind) (text : List ℕ) → p.shape ≡ Fixed kind text → use_of i (p ∷ ps) ≡ use_of i ps
unfolding use_of is_shown is_raw
use-fixed i p ps kind text e = rw e

noted_parameter : (same beside shown raw : Bool)
    → a_use ((same && not beside) || shown) (false || ((same && beside) || raw)) ≡ (if same then used beside (a_use shown raw) else a_use shown raw)
unfolding a_use
noted_parameter true true shown raw = refl
noted_parameter true false shown raw = refl
noted_parameter false beside shown raw = refl

-- a parameter is used beside ## or elsewhere
pub use-parameter : (i k : ℕ) (p : Part) (ps : List Part) → p.shape ≡ Parameter k
    → use_of i (p ∷ ps) ≡ (if i == k then used (p.glued || next_glued ps) (use_of i ps) else use_of i ps)
unfolding use_of is_shown is_raw a_use
use-parameter i k p ps e = rw e (noted_parameter (i == k) (p.glued || next_glued ps) (is_shown i ps) (is_raw i ps))

noted_quoted : (same shown raw : Bool) → a_use (false || shown) ((same || false) || raw) ≡ (if same then used true (a_use shown raw) else a_use shown raw)
unfolding a_use
noted_quoted true shown raw = refl
noted_quoted false shown raw = refl

-- # uses its parameter
pub use-quoted : (i k : ℕ) (p : Part) (ps : List Part) → p.shape ≡ Quoted k
    → use_of i (p ∷ ps) ≡ (if i == k then used true (use_of i ps) else use_of i ps)
unfolding use_of is_shown is_raw a_use
use-quoted i k p ps e = rw e (noted_quoted (i == k) (is_shown i ps) (is_raw i ps))

-- what is noted of a parameter
pub noted-parameter : (uses new : List Use) (parts : List Part) (at k : ℕ) (p : Part) (beside : Bool)
    → at < length parts → p ≡ get_or parts at p → p.shape ≡ Parameter k → beside ≡ ((get_or parts at p).glued || next_glued (drop (at + 1) parts))
    → ((i : ℕ) (other : Use) → i < length uses → get_or new i other ≡ (if i == k then used beside (get_or uses i other) else get_or uses i other))
    → length new ≡ length uses → AreUsesOf uses (drop (at + 1) parts) → AreUsesOf new (drop at parts)
noted-parameter uses new parts at k p beside h is shape b set len noted = λ i other within.
    let within' : i < length uses = omega (arith, within, len) in
    let b' : beside ≡ (p.glued || next_glued (drop (at + 1) parts)) = b ∙ ap (λ (q : Part). q.glued || next_glued (drop (at + 1) parts)) (sym is) in
    rw (drop_more parts at p h, ← is, use-parameter i k p (drop (at + 1) parts) shape, ← b', ← noted i other within') (set i other within')

-- what is noted of # with a parameter
pub noted-quoted : (uses new : List Use) (parts : List Part) (at k : ℕ) (p : Part)
    → at < length parts → p ≡ get_or parts at p → p.shape ≡ Quoted k
    → ((i : ℕ) (other : Use) → i < length uses → get_or new i other ≡ (if i == k then used true (get_or uses i other) else get_or uses i other))
    → length new ≡ length uses → AreUsesOf uses (drop (at + 1) parts) → AreUsesOf new (drop at parts)
noted-quoted uses new parts at k p h is shape set len noted = λ i other within.
    let within' : i < length uses = omega (arith, within, len) in
    rw (drop_more parts at p h, ← is, use-quoted i k p (drop (at + 1) parts) shape, ← noted i other within') (set i other within')

-- without parts there is no use
pub use-none : (i : ℕ) → use_of i [] ≡ record { is_shown = false; is_raw = false }
unfolding use_of is_shown is_raw
use-none i = refl

-- one more parameter without a use
pub unused_more : (uses : List Use) (new : Use) → AreUsesOf uses [] → new ≡ record { is_shown = false; is_raw = false } → AreUsesOf (uses ++ new ∷ []) []
unused_more uses new noted e = λ i other h.
    below_more (λ k. get_or (uses ++ new ∷ []) k other ≡ use_of k []) (length uses)
    (λ k below. get_or_append_left uses (new ∷ []) other k below ∙ noted k other below)
    (rw (get_or-append_right uses (new ∷ []) (length uses) (length uses) other refl (omega arith), use-none (length uses)) (at_front (length uses) other ∙ e))
    i (omega (arith, h, length-append uses (new ∷ [])))
  where
    at_front : (n : ℕ) (other : Use) → get_or (new ∷ []) (n - n) other ≡ new
    at_front n other = rw (sub_self n)

-- the fields of a use
pub shown_of : (i : ℕ) (ps : List Part) → (use_of i ps).is_shown ≡ is_shown i ps
unfolding use_of
shown_of i ps = refl

pub raw_of : (i : ℕ) (ps : List Part) → (use_of i ps).is_raw ≡ is_raw i ps
unfolding use_of
raw_of i ps = refl

-- a use that is kept is that of the parameter in the parts of the definition
pub kept_use : (d seen : Definition) (ps : List Part) (uses : List Use) (place : ℕ) (u : Use)
    → d ≡ seen → AreKeptOf d ps uses → place < length (all_parameters seen) → u ≡ get_or uses place u → u ≡ use_of place (parts seen)
kept_use d seen ps uses place u same kept h is =
    let h' = rw (← same) at h in
    rw (← same, ← kept.all_parts) (is ∙ kept.all_uses place u (omega (arith, h', kept.count)))

-- the parts of a definition by its tokens and the names of its parameters
pub parts_of : (d : Definition) (names : List (List ℕ)) (ts : List Token) → names ≡ all_parameters d → ts ≡ d.replacement
    → glues Nothing (items d.is_function names ts) ≡ parts d
unfolding parts
parts_of d names ts n r = rw (n, r)
