-- How the code reads a condition from the left: a list of frames, the innermost first (own; no public clause rests on it).
use Rattle.std.specs.Prelude.{◌==◌, ℕ, ◌%◌, ◌^◌, nat_le, Bool, false, if◌then◌else◌, List, [], ◌∷◌, drop, Option, Some, None}
use Rattle.cb_cond.specs.declared.symbol.Operator.TheVariants.{Add, Subtract}
use Rattle.cb_cond.specs.declared.symbol.Prefix.{Prefix}
use Rattle.cb_cond.specs.declared.symbol.Prefix.TheVariants.{Not, Complement, Plus, Minus}
use Rattle.cb_cond.specs.declared.symbol.Symbol.{Symbol}
use Rattle.cb_cond.specs.declared.symbol.Symbol.TheVariants.{Number, Between, Exclamation, Tilde, OpenParenthesis, CloseParenthesis, Question, Colon, WideInteger, Stray}
use Rattle.cb_cond.specs.declared.meaning.Value.TheVariants.{Bits}
use Rattle.cb_cond.specs.declared.meaning.Meaning.{Meaning}
use Rattle.cb_cond.specs.declared.prefixes.Prefixes.{Prefixes}
use Rattle.cb_cond.specs.declared.prefixes.Prefixes.TheVariants.{Linear}
use Rattle.cb_cond.specs.declared.frames.Frame.{Frame}
use Rattle.cb_cond.specs.declared.frames.Frame.TheVariants.{Left, Inside, Asked, Answered}
use Rattle.cb_cond.specs.declared.frames.Held.{Held}
use Rattle.cb_cond.specs.declared.frames.Held.TheVariants.{Awaits, Has}
use Rattle.cb_cond.specs.declared.frames.Position.{Position}
use Rattle.cb_cond.specs.Grammar.{level}
use Rattle.cb_cond.specs.Values.{binary, choose}
use Rattle.cb_cond.specs.inner.Prefixes.{extended, applied}

-- what binds at a level ends the frame
unfoldable pub ends : ℕ → Frame → Bool
ends k (Left o a) = nat_le k (level o)
ends k (Inside run) = false
ends k (Asked a) = false
ends k (Answered a b) = k == 0

-- the frame with its last operand
unfoldable pub joined : Frame → Meaning → Meaning
joined (Left o a) b = binary o a b
joined (Inside run) b = b
joined (Asked a) b = b
joined (Answered a b) c = choose a b c

-- the frames that are left, and an operand
pub record Closed : Type 0 where
  pub frames : List Frame
  pub operand : Meaning

-- what is left once the frames that are ended have been joined
unfoldable pub closed : ℕ → List Frame → Meaning → Closed
closed k [] a = record { frames = []; operand = a }
closed k (f ∷ fs) a = if ends k f then closed k fs (joined f a) else record { frames = f ∷ fs; operand = a }

-- what was read
pub record Read : Type 0 where
  pub frames : List Frame
  pub held : Held

-- frames on which an operand is to come
unfoldable pub opened : List Frame → Option Read
opened fs = Some (record { frames = fs; held = Awaits (Linear false 0) })

-- the operator that a symbol is before an operand
unfoldable pub prefix_of : Symbol → Option Prefix
prefix_of Exclamation = Some Not
prefix_of Tilde = Some Complement
prefix_of (Between Add) = Some Plus
prefix_of (Between Subtract) = Some Minus
prefix_of _ = None

-- one more operator before the operand
unfoldable pub prefixed : List Frame → Prefixes → Option Prefix → Option Read
prefixed fs run None = None
prefixed fs run (Some p) = Some (record { frames = fs; held = Awaits (extended run p) })

-- a symbol where an operand is to come
unfoldable pub awaiting : List Frame → Prefixes → Symbol → Option Read
awaiting fs run (Number n unsigned) =
    Some (record { frames = fs; held = Has (applied run (record { unsigned = unsigned; value = Bits (n % 2 ^ 64) })) })
awaiting fs run OpenParenthesis = opened (Inside run ∷ fs)
awaiting fs run (Between o) = prefixed fs run (prefix_of (Between o))
awaiting fs run Exclamation = prefixed fs run (prefix_of Exclamation)
awaiting fs run Tilde = prefixed fs run (prefix_of Tilde)
awaiting fs run _ = None

-- a : behind a first branch
unfoldable pub answered : List Frame → Meaning → Option Read
answered [] b = None
answered (Left o a ∷ fs) b = None
answered (Inside run ∷ fs) b = None
answered (Asked a ∷ fs) b = opened (Answered a b ∷ fs)
answered (Answered a c ∷ fs) b = None

-- a closing parenthesis
unfoldable pub parenthesized : List Frame → Meaning → Option Read
parenthesized [] a = None
parenthesized (Left o b ∷ fs) a = None
parenthesized (Inside run ∷ fs) a = Some (record { frames = fs; held = Has (applied run a) })
parenthesized (Asked b ∷ fs) a = None
parenthesized (Answered b c ∷ fs) a = None

-- a symbol behind an operand
unfoldable pub holding : List Frame → Meaning → Symbol → Option Read
holding fs a (Between o) = opened (Left o (closed (level o) fs a).operand ∷ (closed (level o) fs a).frames)
holding fs a CloseParenthesis = parenthesized (closed 0 fs a).frames (closed 0 fs a).operand
holding fs a Question = opened (Asked (closed 1 fs a).operand ∷ (closed 1 fs a).frames)
holding fs a Colon = answered (closed 0 fs a).frames (closed 0 fs a).operand
holding fs a (Number n unsigned) = None
holding fs a Exclamation = None
holding fs a Tilde = None
holding fs a OpenParenthesis = None
holding fs a WideInteger = None
holding fs a Stray = None

-- a symbol behind what was read
unfoldable pub step : List Frame → Held → Symbol → Option Read
step fs (Awaits run) s = awaiting fs run s
step fs (Has a) s = holding fs a s

-- what stands at the end of what was read up to a position
unfoldable pub held_of : Position → Held
held_of p = if p.awaits then Awaits p.run else Has p.operand

-- what was read up to a position
unfoldable pub read_of : List Frame → Option Position → Option Read
read_of fs None = None
read_of fs (Some p) = Some (record { frames = drop p.top fs; held = held_of p })

-- the end: no frame may be left
unfoldable pub alone : List Frame → Meaning → Option Meaning
alone [] a = Some a
alone (f ∷ fs) a = None

-- the meaning of all that was read
unfoldable pub whole_of : List Frame → Held → Option Meaning
whole_of fs (Awaits run) = None
whole_of fs (Has a) = alone (closed 0 fs a).frames (closed 0 fs a).operand
