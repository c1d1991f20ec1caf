-- Tokens with their hide sets.
use Rattle.std.specs.Prelude.{ℕ, ◌||◌, ◌≤◌, Bool, List, [], ◌∷◌, map, reverse}
use Rattle.cb_tokens.specs.declared.token.TokenKind.{TokenKind}
use Rattle.cb_paste.specs.declared.work_token.WorkToken.{WorkToken}
use Rattle.cb_paste.specs.Sets.{hides}

-- a token, and the test of its hide set (Prosser's algorithm)
pub record Shaded : Type 0 where
  pub kind : TokenKind
  pub spaced : Bool
  pub text : List ℕ
  pub hides : ℕ → Bool

-- a token whose hide set stands in an arena (own)
abbrev pub seen : List (List ℕ) → WorkToken → Shaded
seen sets t = record { kind = t.kind; spaced = t.spaced; text = t.text; hides = hides sets t.hides }

-- the tokens of a stack in the order in which they are read, the last one first (own)
abbrev pub waiting : List (List ℕ) → List WorkToken → List Shaded
waiting sets ts = reverse (map (seen sets) ts)

-- the hide sets of the tokens stand in an arena of so many (own)
abbrev pub AreIn : ℕ → List WorkToken → Type 0
AreIn count [] = Unit {0}
AreIn count (t ∷ ts) = (t.hides ≤ count) × AreIn count ts

-- a token with such white space before it (own)
abbrev pub spaced_as : Bool → Shaded → Shaded
spaced_as spaced t = record t { spaced = spaced }

-- tokens, the first of them with such white space before it (own)
abbrev pub first_spaced : Bool → List Shaded → List Shaded
first_spaced spaced [] = []
first_spaced spaced (t ∷ ts) = spaced_as spaced t ∷ ts

-- a token whose hide set is joined with another one (Prosser's algorithm, "hsadd")
abbrev pub shaded : (ℕ → Bool) → Shaded → Shaded
shaded extra t = record t { hides = λ place. extra place || t.hides place }

-- all of the tokens so (Prosser's algorithm, "hsadd")
abbrev pub all_shaded : (ℕ → Bool) → List Shaded → List Shaded
all_shaded extra ts = map (shaded extra) ts
