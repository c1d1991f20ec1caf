-- A machine that expands tokens with a stack of calls in place of recursion.
use Rattle.std.specs.Prelude.{◌≡◌, ℕ, ◌+◌, ◌<◌, List, [], ◌∷◌, ◌++◌, length}
use Rattle.cb_expand.specs.declared.mode.Mode.{Mode}
use Rattle.cb_paste.specs.Shades.{Shaded}
use Rattle.cb_expand.specs.Heads.{Named, Insertion, put}
use Rattle.cb_expand.specs.Expansion.{Expands, ExpandAll}

-- a call whose arguments are being expanded: what replaces it, and what stands behind it; what became of the first arguments, and
-- those that are left; and what stood before the call (own)
pub record Pending : Type 0 where
  pub insertion : Insertion
  pub rest : List Shaded
  pub outs : List (List Shaded)
  pub left : List (List Shaded)
  pub out : List Shaded

-- where the machine is: at tokens that are left of the innermost list, behind those that stand; or between two arguments of the
-- innermost call (own)
pub data State : Type 0 where
  At : List Pending → List Shaded → List Shaded → State
  Between : Pending → List Pending → State

-- a call where another argument has become these tokens (own)
abbrev pub with_out : Pending → List Shaded → Pending
with_out p out = record p { outs = p.outs ++ out ∷ [] }

-- a call where these arguments are left (own)
abbrev pub with_left : Pending → List (List Shaded) → Pending
with_left p left = record p { left = left }

mutual
  -- how the machine ends from tokens that are left: what stands at the end, and the cost from here on (own)
  pub data Ends (ms : Named) (mode : Mode) : List Pending → List Shaded → List Shaded → List Shaded → ℕ → Type 0 where
    whole : {rest out o final : List Shaded} {n : ℕ}
        → Expands ms mode rest o n → final ≡ out ++ o → Ends ms mode [] rest out final n
    within : {p : Pending} {ps : List Pending} {rest out o final : List Shaded} {k m n : ℕ}
        → Expands ms mode rest o k → EndsBetween ms mode (with_out p (out ++ o)) ps final m → n ≡ k + m
        → Ends ms mode (p ∷ ps) rest out final n

  -- how it ends from between two arguments (own)
  pub data EndsBetween (ms : Named) (mode : Mode) : Pending → List Pending → List Shaded → ℕ → Type 0 where
    resumed : {p : Pending} {ps : List Pending} {final : List Shaded} {outs : List (List Shaded)} {k m n : ℕ}
        → ExpandAll ms mode p.left outs k
        → Ends ms mode ps (put p.insertion (p.outs ++ outs) ++ p.rest) p.out final m
        → n ≡ k + (1 + length (put p.insertion (p.outs ++ outs))) + m
        → EndsBetween ms mode p ps final n

-- how it ends from a state (own)
abbrev pub Completes : Named → Mode → State → List Shaded → ℕ → Type 0
Completes ms mode (At ps rest out) final n = Ends ms mode ps rest out final n
Completes ms mode (Between p ps) final n = EndsBetween ms mode p ps final n

-- from one state it ends as from another, at a cost of so much more (own)
pub record Steps (ms : Named) (mode : Mode) (s t : State) (cost : ℕ) : Type 0 where
  pub forth : (final : List Shaded) (n : ℕ) → Completes ms mode s final n → (m : ℕ) × Completes ms mode t final m × (n ≡ cost + m)
  pub back : (final : List Shaded) (m : ℕ) → Completes ms mode t final m → Completes ms mode s final (cost + m)

-- what was read to here (own)
abbrev pub start : List Shaded → State
start ts = At [] ts []

-- no end costs so little (own)
abbrev pub IsOver : Named → Mode → List Shaded → ℕ → Type 0
IsOver ms mode ts limit = (out : List Shaded) (n : ℕ) → Expands ms mode ts out n → limit < n
