-- A step over the files that are open.
use Rattle.std.proofs.Common.{◌≡◌, ℕ, ◌+◌, ◌<◌, false, List, [], ◌∷◌, ◌++◌, length, length-append, arith, refl, sym, ap, subst, ◌∙◌, append_assoc}
use Rattle.std.specs.Prelude.{Option, Some, None}
use Rattle.std.proofs.lemmas.List.{append-nil}
use Rattle.cb_tree.specs.declared.node.NodeKind.{NodeKind}
use Rattle.cb_include.specs.declared.command.Command.{Command}
use Rattle.cb_include.specs.declared.header.Header.{Header}
use Rattle.cb_pass.specs.States.{Frame, Waiting, outcome}
use Rattle.cb_pass.specs.Files.{Files, Searches}
use Rattle.cb_pass.specs.Passes.{is_over, over}
use Rattle.cb_pass.specs.inner.Trails.{Opened, Findings, ArePlaced, frames_of, state_of}
use Rattle.cb_pass.specs.inner.Moves.{IsStep, IsVisited, IsMet, IsReachedFirst, IsPlaced, Goes, GoOn, wanted, with_file}
use Rattle.cb_pass.proofs.Grown.{Grows, leads_grows}
use Rattle.cb_pass.proofs.Rows.{place_kept}
use Rattle.cb_pass.proofs.Visiting.{is_step, stays}

-- the files with one more, if there is one
abbrev pub with_opened : Option Opened → List Opened → List Opened
with_opened None os = os
with_opened (Some o) os = o ∷ os

same_frames : (file : Option Opened) (os : List Opened) → with_file file (frames_of os) ≡ frames_of (with_opened file os)
same_frames None os = refl
same_frames (Some o) os = refl

-- a step, by the visit of the innermost file and what is asked of the files then
pub steps : (files : Files) (command : Command) (old mid new : Findings) (o n : Opened) (os opened after : List Opened) (header : Option Header) (file : Option Opened)
    → IsVisited command.language old o.frame mid n.frame header → IsMet files command (wanted o.frame header) mid new file
    → o ∷ os ≡ opened → after ≡ with_opened file (n ∷ os) → (waiting : List Waiting)
    → IsStep files command (state_of old (frames_of opened) waiting) (state_of new (frames_of after) waiting)
steps files command old mid new o n os opened after header file visit meets e f waiting =
    subst (λ (x : List Opened). IsStep files command (state_of old (frames_of x) waiting) (state_of new (frames_of after) waiting)) e
    (subst (λ (x : List Opened). IsStep files command (state_of old (frames_of (o ∷ os)) waiting) (state_of new (frames_of x) waiting)) (sym f)
    (subst (λ (fs : List Frame). IsStep files command (state_of old (frames_of (o ∷ os)) waiting) (state_of new fs waiting)) (same_frames file (n ∷ os))
    (is_step files command old mid new o.frame n.frame header file visit meets (frames_of os) waiting)))

-- where no file is entered
pub steps_alone : (files : Files) (command : Command) (old new : Findings) (o n : Opened) (os opened after : List Opened) (header : Option Header)
    → None ≡ header → IsVisited command.language old o.frame new n.frame header
    → o ∷ os ≡ opened → after ≡ n ∷ os → (waiting : List Waiting)
    → IsStep files command (state_of old (frames_of opened) waiting) (state_of new (frames_of after) waiting)
steps_alone files command old new o n os opened after header none visit e f =
    steps files command old new new o n os opened after header None visit
    (subst (λ (h : Option Header). IsMet files command (wanted o.frame h) new new None) none (stays files command new)) e f

-- places stay where paths are added
pub placed_on : (paths more : List (List ℕ)) (os : List Opened) → ArePlaced paths os → ArePlaced (paths ++ more) os
placed_on paths more [] p = tt
placed_on paths more (o ∷ os) p = (
  place_kept o.frame.path paths more (subst (λ (k : ℕ). k < length paths) (sym p.0) p.1) ∙ p.0,
  longer paths more o.place p.1,
  placed_on paths more os p.2,
)
  where
    longer : (paths more : List (List ℕ)) (n : ℕ) → n < length paths → n < length (paths ++ more)
    longer paths more n h = omega (arith, h, length-append paths more)

pub placed_longer : (old new : List (List ℕ)) (os : List Opened) → GoOn old new → ArePlaced old os → ArePlaced new os
placed_longer old new os g p = subst (λ (paths : List (List ℕ)). ArePlaced paths os) (sym g.1) (placed_on old g.0 os p)

pub longer_still : (a b c : List (List ℕ)) → GoOn a b → GoOn b c → GoOn a c
longer_still a b c p q = (p.0 ++ q.0, q.1 ∙ (ap (λ (x : List (List ℕ)). x ++ q.0) p.1 ∙ append_assoc a p.0 q.0))

pub same_longer : (a b : List (List ℕ)) → b ≡ a → GoOn a b
same_longer a b e = ([], e ∙ sym (append-nil a))

-- a pass with an open file is not over
pub not_over : (kind : NodeKind) (os : List Opened) (t : Findings) (waiting : List Waiting) → IsReachedFirst kind os → is_over (state_of t (frames_of os) waiting) ≡ false
not_over kind [] t waiting h = absurd h
not_over kind (o ∷ os) t waiting h = refl

-- a header is looked for from the file that includes it
pub meets_from : (files : Files) (command : Command) (f g : Frame) (header : Header) (mid new : Findings) (file : Option Opened)
    → g.path ≡ f.path → g.depth ≡ f.depth
    → IsMet files command (Searches (Some g.path) (record { path = g.path; node = f.node }) (g.depth + 1) header) mid new file
    → IsMet files command (wanted f (Some header)) mid new file
meets_from files command f g header mid new file e d h =
    subst (λ (n : ℕ). IsMet files command (Searches (Some f.path) (record { path = f.path; node = f.node }) (n + 1) header) mid new file) d
    (subst (λ (p : List ℕ). IsMet files command (Searches (Some p) (record { path = p; node = f.node }) (g.depth + 1) header) mid new file) e h)

with_placed : (paths : List (List ℕ)) (file : Option Opened) (os : List Opened) → IsPlaced paths file → ArePlaced paths os → ArePlaced paths (with_opened file os)
with_placed paths None os h p = p
with_placed paths (Some o) os h p = (h.0, h.1, p)

-- behind a step each path is at its place
pub all_placed : (old mid new : List (List ℕ)) (o n : Opened) (os opened after : List Opened) (file : Option Opened) → ArePlaced old opened → o ∷ os ≡ opened → mid ≡ old
    → ArePlaced mid (n ∷ []) → GoOn mid new → IsPlaced new file → after ≡ with_opened file (n ∷ os) → ArePlaced new after
all_placed old mid new o n os opened after file p e m here g q f =
    let all : ArePlaced old (o ∷ os) = subst (λ (x : List Opened). ArePlaced old x) (sym e) p in
    let rest : ArePlaced mid os = subst (λ (x : List (List ℕ)). ArePlaced x os) (sym m) all.2 in
    subst (λ (x : List Opened). ArePlaced new x) (sym f) (with_placed new file (n ∷ os) q (placed_longer mid new (n ∷ os) g (here.0, here.1, rest)))

-- on its way a pass looks at more paths
pub grown : (files : Files) (command : Command) (old new : Findings) (fs : List Frame) (waiting : List Waiting)
    → Goes files command (state_of old fs waiting) (state_of new [] []) → Grows old.probes new.probes
grown files command old new fs waiting moved =
    leads_grows files command (outcome (state_of new [] [])) (state_of old fs waiting) (moved (outcome (state_of new [] [])) (over refl refl))
