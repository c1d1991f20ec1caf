-- A node that is not reached is passed over, and a file that ends is left.
use Rattle.std.proofs.Common.{◌≡◌, ℕ, ◌<◌, false, List, [], ◌∷◌, length, refl, sym, ap, subst, ◌∙◌, arith}
use Rattle.std.specs.Prelude.{Some, None}
use Rattle.cb_tree.specs.declared.node.NodeKind.{NodeKind}
use Rattle.cb_tree.specs.Skeleton.{Bone}
use Rattle.cb_include.specs.declared.command.Command.{Command}
use Rattle.cb_pass.specs.Answers.{Silent}
use Rattle.cb_pass.specs.States.{Frame, Waiting, State}
use Rattle.cb_pass.specs.Steps.{is_reached}
use Rattle.cb_pass.specs.Files.{Files}
use Rattle.std.specs.List.{position_or_len}
use Rattle.std.specs.Str.{bytes_eq}
use Rattle.cb_pass.specs.inner.Trails.{Opened, ArePlaced, Findings, state_of, next_kind, behind_first}
use Rattle.cb_pass.specs.inner.Moves.{Goes, advanced}
use Rattle.cb_pass.proofs.Moves.{step_goes}
use Rattle.cb_pass.proofs.Unreached.{passes}

at_node : (files : Files) (command : Command) (s : State) (f : Frame) (rest : List Bone) (kind : NodeKind) → next_kind rest ≡ Some kind → is_reached kind f.sections ≡ false
    → Goes files command (record s { frames = record f { rest = rest } ∷ s.frames }) (record s { frames = advanced kind false (record f { rest = rest }) ∷ s.frames })
at_node files command s f [] kind e h = absurd cc
at_node files command s f (b ∷ bs) kind e h =
    let k : b.kind ≡ kind = cc in
    subst (λ (k : NodeKind). Goes files command (record s { frames = record f { rest = b ∷ bs } ∷ s.frames }) (record s { frames = advanced k false (record f { rest = b ∷ bs }) ∷ s.frames })) k
    (passes files command s f.path f.depth f.node b bs f.sections (subst (λ (k : NodeKind). is_reached k f.sections ≡ false) (sym k) h))

pub passes_over : (files : Files) (command : Command) (s : State) (f : Frame) (kind : NodeKind) → next_kind f.rest ≡ Some kind → is_reached kind f.sections ≡ false
    → Goes files command (record s { frames = f ∷ s.frames }) (record s { frames = advanced kind false f ∷ s.frames })
passes_over files command s f kind = at_node files command s f f.rest kind

shorter_at : (rest : List Bone) (kind : NodeKind) → next_kind rest ≡ Some kind → length (behind_first rest) < length rest
shorter_at [] kind e = absurd cc
shorter_at (b ∷ bs) kind e = omega arith

-- fewer nodes follow
pub shorter : (rest : List Bone) (kind : NodeKind) → next_kind rest ≡ Some kind → length (behind_first rest) < length rest
shorter rest kind e = shorter_at rest kind e

left_at : (files : Files) (command : Command) (t : Findings) (f : Frame) (rest : List Bone) (fs : List Frame) (waiting : List Waiting) → rest ≡ []
    → Goes files command (state_of t (record f { rest = rest } ∷ fs) waiting) (state_of t fs waiting)
left_at files command t f [] fs waiting e =
    step_goes files command (state_of t (record f { rest = [] } ∷ fs) waiting) (state_of t fs waiting) refl (Silent, refl, refl)
left_at files command t f (b ∷ bs) fs waiting e = absurd cc

-- the end of a file
pub leaves : (files : Files) (command : Command) (t : Findings) (f : Frame) (fs : List Frame) (waiting : List Waiting) → f.rest ≡ []
    → Goes files command (state_of t (f ∷ fs) waiting) (state_of t fs waiting)
leaves files command t f fs waiting = left_at files command t f f.rest fs waiting

at_end : (rest : List Bone) → None ≡ next_kind rest → rest ≡ []
at_end [] e = refl
at_end (b ∷ bs) e = absurd cc

pub is_end : (rest : List Bone) → None ≡ next_kind rest → rest ≡ []
is_end rest e = at_end rest e

-- a file that goes on has its path at its place
pub placed_still : (paths : List (List ℕ)) (o n : Opened) (os : List Opened) → n.frame.path ≡ o.frame.path → n.place ≡ o.place
    → ArePlaced paths (o ∷ os) → ArePlaced paths (n ∷ os)
placed_still paths o n os e f q = (
  ap (λ (p : List ℕ). position_or_len (bytes_eq p) paths) e ∙ (q.0 ∙ sym f),
  subst (λ (k : ℕ). k < length paths) (sym f) q.1,
  q.2,
)
