-- Frames that are ended one by one
use Rattle.std.proofs.Common.{◌≡◌, ℕ, ◌+◌, ◌<◌, ◌≤◌, true, false, List, length, get_or, drop, Some, None, refl, ap}
use Rattle.std.proofs.lemmas.List.{drop_more, drop_all}
use Rattle.cb_cond.specs.declared.meaning.Meaning.{Meaning}
use Rattle.cb_cond.specs.declared.frames.Frame.{Frame}
use Rattle.cb_cond.specs.declared.frames.Frame.TheVariants.{Asked}
use Rattle.cb_cond.specs.declared.frames.Held.TheVariants.{Awaits}
use Rattle.cb_cond.specs.declared.prefixes.Prefixes.{Prefixes}
use Rattle.cb_cond.specs.declared.symbol.Prefix.{Prefix}
use Rattle.cb_cond.specs.declared.symbol.Symbol.{Symbol}
use Rattle.cb_cond.specs.declared.symbol.Symbol.TheVariants.{Number, Between, Exclamation, Tilde, OpenParenthesis, CloseParenthesis, Question, Colon, WideInteger, Stray}
use Rattle.cb_cond.specs.inner.Prefixes.{extended}
use Rattle.cb_cond.specs.inner.Frames.{ends, joined, closed, alone, prefix_of, prefixed, awaiting}

pub closed-next : (k : ℕ) (fs : List Frame) (i : ℕ) (d : Frame) (a : Meaning) → i < length fs → ends k (get_or fs i d) ≡ true
    → closed k (drop i fs) a ≡ closed k (drop (i + 1) fs) (joined (get_or fs i d) a)
unfolding closed
closed-next k fs i d a h e = rw (drop_more fs i d h) (rw e refl)

pub closed-stops : (k : ℕ) (fs : List Frame) (i : ℕ) (d : Frame) (a : Meaning) → i < length fs → ends k (get_or fs i d) ≡ false
    → closed k (drop i fs) a ≡ record { frames = drop i fs; operand = a }
unfolding closed
closed-stops k fs i d a h e = rw (drop_more fs i d h) (rw e refl)

pub closed-end : (k : ℕ) (fs : List Frame) (i : ℕ) (a : Meaning) → length fs ≤ i → closed k (drop i fs) a ≡ record { frames = drop i fs; operand = a }
unfolding closed
closed-end k fs i a h = rw (drop_all i fs h) refl

-- frames are left
pub alone-more : (fs : List Frame) (i : ℕ) (a : Meaning) → i < length fs → alone (drop i fs) a ≡ None
unfolding alone
alone-more fs i a h = rw (drop_more fs i (Asked a) h) refl

-- an operator before its operand
pub awaiting-prefix : (fs : List Frame) (run : Prefixes) (s : Symbol) (p : Prefix) → prefix_of s ≡ Some p
    → awaiting fs run s ≡ Some (record { frames = fs; held = Awaits (extended run p) })
unfolding awaiting prefixed prefix_of
awaiting-prefix fs run (Number n u) p e = cc
awaiting-prefix fs run (Between o) p e = ap (prefixed fs run) e
awaiting-prefix fs run Exclamation p e = ap (prefixed fs run) e
awaiting-prefix fs run Tilde p e = ap (prefixed fs run) e
awaiting-prefix fs run OpenParenthesis p e = cc
awaiting-prefix fs run CloseParenthesis p e = cc
awaiting-prefix fs run Question p e = cc
awaiting-prefix fs run Colon p e = cc
awaiting-prefix fs run WideInteger p e = cc
awaiting-prefix fs run Stray p e = cc

pub ruleset frame_steps = (alone-more, awaiting-prefix)
