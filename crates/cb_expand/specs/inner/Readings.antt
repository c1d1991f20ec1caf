-- Reading the next token of the innermost list.
use Rattle.std.specs.Prelude.{◌≡◌, ℕ, ◌+◌, ◌-◌, ◌==◌, ◌&&◌, ◌||◌, ◌<◌, ◌≤◌, Bool, false, List, [], ◌∷◌, ◌++◌, length, Option, slice_get, slice_index_or, IsSomeAnd, MatchOption}
use Rattle.cb_tokens.specs.Kinds.{is_identifier_kind}
use Rattle.cb_paste.specs.declared.work_token.WorkToken.{WorkToken}
use Rattle.cb_paste.specs.Shades.{Shaded, seen}
use Rattle.cb_paste.specs.Sets.{hides}
use Rattle.cb_expand.specs.declared.mode.Mode.{Mode}
use Rattle.cb_expand.specs.declared.work.Call.{Call}
use Rattle.cb_expand.specs.declared.work.Work.{Work}
use Rattle.cb_macro.specs.Definitions.{all_parameters}
use Rattle.cb_macro.specs.Parts.{is_shown, is_raw}
use Rattle.cb_expand.specs.declared.gathering.Gathered.{Gathered}
use Rattle.cb_expand.specs.declared.heading.Heading.{Heading}
use Rattle.cb_expand.specs.declared.heading.Heading.TheVariants as headings
use Rattle.cb_expand.specs.Arguments.{gather}
use Rattle.cb_expand.specs.Heads.{Named, Head, Stands, Calls, head, only, answer_token, called}
use Rattle.cb_expand.specs.inner.Gathers.{pieces, last_of, AreDescending}
use Rattle.cb_expand.specs.inner.Machine.{State, At}
use Rattle.cb_expand.specs.inner.Rows.{between}
use Rattle.cb_expand.specs.inner.Works.{parts_of, seen_all, row_of, outer_of, state_of, lacking, IsWork, Goes, weight}

-- what is left of the innermost list (own)
abbrev pub rest_of : Work → List Shaded
rest_of w = between w.floor (length (row_of w)) (row_of w)

-- the state where a token was taken from the row to be read (own)
abbrev pub reading : Named → Work → WorkToken → State
reading ms w t = At (outer_of ms w) (seen w.arena t ∷ rest_of w) (seen_all w.arena w.done.items)

-- what the token is (own)
abbrev pub head_of : Named → Mode → Work → WorkToken → Head
head_of ms mode w t = head ms mode (seen w.arena t) (rest_of w)

-- the next token of the innermost list is no identifier (own)
abbrev pub IsPlainNext : Work → Type 0
IsPlainNext w =
    (w.floor < length w.row.tokens.items)
    × ((t : WorkToken) (ts : List WorkToken) → w.row.tokens.items ≡ ts ++ t ∷ [] → is_identifier_kind t.kind ≡ false)

-- the token that was read is dealt with (own)
pub record Taken (ms : Named) (mode : Mode) (old : Work) (t : WorkToken) (new : Work) (behind : Option Call) : Type 0 where
  pub goes : Goes ms mode (reading ms old t) old.used (state_of ms new behind) new.used
  pub kept : IsWork (length ms) new behind
  pub smaller : weight new < weight old + 2

-- the call that the name of an object-like macro is (own)
abbrev pub named_call : Named → Work → WorkToken → ℕ → Head
named_call ms w t place =
    Calls (record { parts = parts_of (slice_get ms place); spaced = t.spaced; hides = λ n. (n == place) || hides w.arena t.hides n; written = [] }) [] (rest_of w)

-- how many tokens stand below the opening parenthesis on top of the row (own)
abbrev pub inside : Work → ℕ
inside w = length w.row.tokens.items - 1

-- the arguments in the row between their ends (own)
abbrev pub written_at : Work → List ℕ → Bool → List (List Shaded)
written_at w ends lacks = pieces (row_of w) (inside w) ends ++ lacking lacks

-- the call that the name of a function-like macro is, where its arguments end so, with this closing parenthesis (own)
abbrev pub function_at : Named → Work → WorkToken → ℕ → List ℕ → Bool → Shaded → Head
function_at ms w t place ends lacks close =
    Calls
    (record {
      parts = parts_of (slice_get ms place);
      spaced = t.spaced;
      hides = λ n. (n == place) || (hides w.arena t.hides n && close.hides n);
      written = only (λ i. is_raw i (parts_of (slice_get ms place))) 0 (written_at w ends lacks);
    })
    (only (λ i. is_shown i (parts_of (slice_get ms place))) 0 (written_at w ends lacks))
    (between w.floor (last_of (inside w) ends - 1) (row_of w))

-- the ends of the arguments of a call lie in the row, and are no more than its macro has parameters (own)
pub record IsEnded (ms : Named) (w : Work) (place : ℕ) (ends : List ℕ) : Type 0 where
  pub placed : place < length ms
  pub some : 0 < length w.row.tokens.items
  pub descending : AreDescending (inside w) w.floor ends
  pub above : w.floor < last_of (inside w) ends
  pub within : last_of (inside w) ends ≤ inside w
  pub few : IsSomeAnd (slice_get ms place) (λ e. length ends ≤ length (all_parameters e.1))

-- a head is the call whose arguments end so (own)
pub record IsCalled (ms : Named) (w : Work) (t : WorkToken) (place : ℕ) (ends : List ℕ) (lacks : Bool) (h : Head) : Type 0 where
  pub close : Shaded
  pub at : (other : Shaded) → slice_index_or (row_of w) (last_of (inside w) ends - 1) other ≡ close
  pub is : h ≡ function_at ms w t place ends lacks close

-- a head is that of a name of a function-like macro, behind which a parenthesis opens on top of the row (own)
pub record IsOpened (ms : Named) (w : Work) (t : WorkToken) (place : ℕ) (h : Head) : Type 0 where
  pub placed : place < length ms
  pub some : w.floor < length w.row.tokens.items
  pub is : IsSomeAnd (slice_get ms place) (λ e. h ≡ called place e.1 (seen w.arena t) (rest_of w) (gather e.1.is_variadic (length (all_parameters e.1)) (between w.floor (inside w) (row_of w))))

-- a head is the call whose arguments were found, or else a name that stands (own)
abbrev pub IsCalledBy : Named → Work → WorkToken → ℕ → Head → Option Gathered → Type 0
IsCalledBy ms w t place h o =
    MatchOption o (h ≡ Stands (seen w.arena t) (rest_of w))
    (λ g. IsCalled ms w t place g.ends.items g.lacks_rest h)

-- a head is what was found (own)
abbrev pub IsHeading : Named → Work → WorkToken → Head → Heading → Type 0
IsHeading ms w t h headings.Stands = h ≡ Stands (seen w.arena t) (rest_of w)
IsHeading ms w t h (headings.Asks is_defined height) =
    (w.floor ≤ height) × (height ≤ length w.row.tokens.items)
    × (h ≡ Stands (answer_token (seen w.arena t) is_defined) (between w.floor height (row_of w)))
IsHeading ms w t h (headings.Object place) = (place < length ms) × (h ≡ named_call ms w t place)
IsHeading ms w t h (headings.Function place) = IsOpened ms w t place h
