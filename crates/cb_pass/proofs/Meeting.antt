-- A search, and what is done with the path that it found.
use Rattle.std.proofs.Common.{◌≡◌, ℕ, Bool, true, false, List, [], refl, sym, ap, subst, ◌∙◌}
use Rattle.std.specs.Prelude.{Option, Some, None, nat_lt, ◌||◌, IfSome}
use Rattle.std.proofs.lemmas.Bool.{cond-true, cond-false}
use Rattle.std.specs.List.{find}
use Rattle.std.proofs.Math.Path.{fun_ext}
use Rattle.cb_include.specs.declared.command.Command.{Command}
use Rattle.cb_include.specs.declared.header.Header.{Header}
use Rattle.cb_include.specs.Candidates.{candidates}
use Rattle.cb_include.specs.Seen.{has_path, with_paths, up_to}
use Rattle.cb_pass.specs.declared.limits.TheConstants.{DEPTH_LIMIT}
use Rattle.cb_pass.specs.declared.note.NoteKind.TheVariants as note
use Rattle.cb_pass.specs.Notes.{Place}
use Rattle.cb_pass.specs.Headers.{spelled_header}
use Rattle.cb_pass.specs.Reached.{is_in}
use Rattle.cb_pass.specs.States.{Frame, Waiting, State}
use Rattle.cb_pass.specs.Steps.{with_note}
use Rattle.cb_pass.specs.Files.{Files, Searches, entering, is_present, found_path}
use Rattle.cb_pass.specs.inner.Memos.{Memo}
use Rattle.cb_pass.specs.inner.Trails.{Opened, Findings, reached_by, state_of}
use Rattle.cb_pass.specs.inner.Moves.{IsMet, IsNoted, IsEntered, IsPlaced, GoOn, with_file}

-- a state, part by part
abbrev state : Memo → (List ℕ → ℕ → Bool) → ℕ → List (List ℕ) → List Frame → List Waiting → State
state memo reached count probes frames waiting = record {
  frames = frames;
  waiting = waiting;
  macros = memo.macros;
  once = memo.once;
  reached = reached;
  count = count;
  probes = probes;
  notes = memo.notes;
}

-- a search changed nothing but the paths that were looked at
pub record IsSearched (old mid : Findings) (paths : List (List ℕ)) : Type 0 where
  pub memo : mid.memo ≡ old.memo
  pub count : mid.count ≡ old.count
  pub probes : mid.probes ≡ paths
  pub reached : (p : List ℕ) (n : ℕ) → is_in mid.probes mid.rows p n ≡ is_in old.probes old.rows p n
  pub longer : GoOn old.probes mid.probes

searched : (old mid : Findings) (paths : List (List ℕ)) → IsSearched old mid paths → (fs : List Frame) (waiting : List Waiting)
    → state_of mid fs waiting ≡ record (state_of old fs waiting) { probes = paths }
searched old mid paths s fs waiting =
    let e : reached_by mid ≡ reached_by old = fun_ext (λ p. fun_ext (λ n. s.reached p n)) in
    ap (λ (m : Memo). state m (reached_by mid) mid.count mid.probes fs waiting) s.memo
    ∙ (ap (λ (r : List ℕ → ℕ → Bool). state old.memo r mid.count mid.probes fs waiting) e
    ∙ (ap (λ (c : ℕ). state old.memo (reached_by old) c mid.probes fs waiting) s.count
    ∙ ap (λ (ps : List (List ℕ)). state old.memo (reached_by old) old.count ps fs waiting) s.probes))

pub meets : (files : Files) (command : Command) (from : Option (List ℕ)) (place : Place) (depth : ℕ) (header : Header) (old mid new : Findings) (path : Option (List ℕ)) (file : Option Opened)
    → path ≡ find (is_present files) (candidates command from header)
    → IsSearched old mid (with_paths old.probes (up_to (is_present files) (candidates command from header)))
    → ((fs : List Frame) (waiting : List Waiting) → state_of new (with_file file fs) waiting ≡ found_path files place depth header path (state_of mid fs waiting))
    → IsPlaced new.probes file → new.probes ≡ mid.probes → new.count ≡ mid.count
    → IsMet files command (Searches from place depth header) old new file
meets files command from place depth header old mid new path file e s does placed probes count = (
  λ fs waiting.
      does fs waiting
      ∙ (ap (λ (t : State). found_path files place depth header path t) (searched old mid _ s fs waiting)
      ∙ ap (λ (p : Option (List ℕ)). found_path files place depth header p (record (state_of old fs waiting) { probes = with_paths old.probes (up_to (is_present files) (candidates command from header)) })) e),
  placed,
  (s.longer.0, probes ∙ s.longer.1),
  count ∙ s.count,
)

-- no path was found
pub misses : (files : Files) (command : Command) (from : Option (List ℕ)) (place : Place) (depth : ℕ) (header : Header) (old mid new : Findings)
    → None ≡ find (is_present files) (candidates command from header)
    → IsSearched old mid (with_paths old.probes (up_to (is_present files) (candidates command from header)))
    → IsNoted mid new place note.Missing (spelled_header header)
    → IsMet files command (Searches from place depth header) old new None
misses files command from place depth header old mid new e s noted =
    meets files command from place depth header old mid new None None e s noted.0 tt noted.1 noted.2

-- a path was found
pub finds : (files : Files) (command : Command) (from : Option (List ℕ)) (place : Place) (depth : ℕ) (header : Header) (old mid new : Findings) (path : List ℕ) (file : Option Opened)
    → Some path ≡ find (is_present files) (candidates command from header)
    → IsSearched old mid (with_paths old.probes (up_to (is_present files) (candidates command from header)))
    → IsEntered files place depth path mid new file
    → IsMet files command (Searches from place depth header) old new file
finds files command from place depth header old mid new path file e s entered =
    meets files command from place depth header old mid new (Some path) file e s (entered.0 header) entered.1 entered.2 entered.3

module _ (files : Files) (place : Place) (depth : ℕ) (path : List ℕ) (old : Findings) where
  -- a file that is read once is not entered again
  pub stays : has_path old.memo.once path ≡ true → IsEntered files place depth path old old None
  stays e = (
    λ header fs waiting. sym (cond-true (has_path old.memo.once path) (state_of old fs waiting) _ e),
    tt,
    refl,
    refl,
  )

  -- a file that is too deep is noted
  pub notes : (new : Findings) → has_path old.memo.once path ≡ false → nat_lt DEPTH_LIMIT depth ≡ true → IsNoted old new place note.TooDeep []
      → IsEntered files place depth path old new None
  notes new e d noted = (
    λ header fs waiting.
        let s : State = state_of old fs waiting in
        noted.0 fs waiting
        ∙ sym (cond-false (has_path old.memo.once path) s _ e ∙ cond-true (nat_lt DEPTH_LIMIT depth) (with_note place note.TooDeep [] s) (entering path depth (files path) s) d),
    tt,
    noted.1,
    noted.2,
  )

  -- any other is entered
  pub enters : (file : Option Opened) → has_path old.memo.once path ≡ false → nat_lt DEPTH_LIMIT depth ≡ false
      → ((fs : List Frame) (waiting : List Waiting) → state_of old (with_file file fs) waiting ≡ entering path depth (files path) (state_of old fs waiting))
      → IsPlaced old.probes file → IsEntered files place depth path old old file
  enters file e d does placed = (
    λ header fs waiting.
        let s : State = state_of old fs waiting in
        does fs waiting
        ∙ sym (cond-false (has_path old.memo.once path) s _ e ∙ cond-false (nat_lt DEPTH_LIMIT depth) (with_note place note.TooDeep [] s) (entering path depth (files path) s) d),
    placed,
    refl,
    refl,
  )

or_true : (b : Bool) → (b || true) ≡ true
or_true true = refl
or_true false = refl

-- the path that a search found was looked at
pub there : (some : List ℕ → Bool) (old paths new : List (List ℕ)) (path : Option (List ℕ)) → path ≡ find some paths → new ≡ with_paths old (up_to some paths)
    → ((test : List ℕ → Bool) (p : List ℕ) (ps : List (List ℕ)) → find test ps ≡ Some p → has_path (up_to test ps) p ≡ true)
    → ((ps qs : List (List ℕ)) (p : List ℕ) → has_path (with_paths ps qs) p ≡ (has_path ps p || has_path qs p))
    → IfSome path (λ p. has_path new p ≡ true)
there some old paths new None e f asked has = tt
there some old paths new (Some p) e f asked has =
    ap (λ (ps : List (List ℕ)). has_path ps p) f
    ∙ (has old (up_to some paths) p ∙ (ap (λ (b : Bool). has_path old p || b) (asked some p paths (sym e)) ∙ or_true (has_path old p)))

pub some_so : {A : Type 0} (P : A → Type 0) (r : Option A) (x : A) → IfSome r P → r ≡ Some x → P x
some_so {A} P r x h e = subst (λ (o : Option A). IfSome o P) e h
