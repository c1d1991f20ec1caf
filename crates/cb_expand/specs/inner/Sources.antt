-- Tokens of a source before they are expanded, and the end of an expansion.
use Rattle.std.specs.Prelude.{◌≡◌, ℕ, ◌≤◌, List, [], map, Option, None}
use Rattle.cb_tokens.specs.declared.token.Token.{Token}
use Rattle.cb_paste.specs.declared.work_token.WorkToken.{WorkToken}
use Rattle.cb_expand.specs.declared.mode.Mode.{Mode}
use Rattle.cb_expand.specs.declared.work.Call.{Call}
use Rattle.cb_expand.specs.declared.work.Work.{Work}
use Rattle.cb_expand.specs.Heads.{Named}
use Rattle.cb_expand.specs.Expansion.{bare}
use Rattle.cb_expand.specs.inner.Machine.{At, start}
use Rattle.cb_expand.specs.inner.Works.{seen_all, state_of, IsWork, Goes}

-- a token of a source, which hides nothing (own)
abbrev pub as_read : Token → WorkToken
as_read t = record { kind = t.kind; spaced = t.spaced; text = t.text; hides = 0 }

-- a token without its hide set (own)
abbrev pub as_token : WorkToken → Token
as_token t = record { kind = t.kind; spaced = t.spaced; text = t.text }

-- these tokens, of which none is read yet, where so much was paid before (own)
pub record IsStart (tokens : List Token) (paid : ℕ) (w : Work) : Type 0 where
  pub work : (macros : ℕ) → IsWork macros w None
  pub state : (ms : Named) → state_of ms w None ≡ start (map bare tokens)
  pub used : w.used ≡ paid

-- nothing is left to do (own)
abbrev pub IsEnd : Work → Option Call → Type 0
IsEnd w c = (c ≡ None) × (w.frames.items ≡ []) × (w.row.tokens.items ≡ [])

-- the machine has gone from one state to the end (own)
pub record IsRunFrom (ms : Named) (mode : Mode) (old new : Work) : Type 0 where
  pub goes : Goes ms mode (state_of ms old None) old.used (At [] [] (seen_all new.arena new.done.items)) new.used
  pub limit : new.used ≤ 65536
