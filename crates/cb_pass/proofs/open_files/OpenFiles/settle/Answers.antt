use Rattle.std.proofs.Common.{◌≡◌, [], ◌∷◌, List, subst, arith}
use Rattle.std.specs.Prelude.{Option, reverse}
use Rattle.std.proofs.lemmas.List.{nil_from_length}
use Rattle.cb_tree.specs.declared.node.NodeKind.{NodeKind}
use Rattle.cb_pass.specs.inner.Trails.{Opened, ArePlaced, frames_of, state_of}
use Rattle.cb_pass.specs.inner.Moves.{AtNext, Goes}
use Rattle.cb_pass.proofs.Moves.{goes_on}
use Rattle.cb_pass.proofs.Passing.{leaves, placed_still}
use Rattle.cb_pass.proofs.Stack.{reversed}
use Rattle.cb_pass.proofs.open_files.OpenFiles.settle.Goals as goal

pub returns-in-Some : goal.returns-in-Some
returns-in-Some c =
    let o = c.files.self-inside.innermost in
    let n = c.settle.new.self in
    let os = reverse c.files.self-inside.around.items in (
      (λ files command t waiting.
          goes_on files command _ _ _ (c.files.invariant.0 files command t waiting) (c.in_ok-kind.ensures.moved files command (state_of t (frames_of os) waiting))),
      subst (λ (k : Option NodeKind). AtNext k n.frame) c.in-Some.is c.in_ok-kind.ensures.at,
      (λ paths p. placed_still paths o n os c.in_ok-kind.ensures.path c.in_ok-kind.ensures.same (c.files.invariant.1 paths p)),
    )

pub files-preserved : goal.files-preserved
files-preserved c =
    let n = c.settle.new.self in
    let os = reverse c.files.self-inside.around.items in
    let e : os ≡ c.in-Some-pop.file ∷ reverse c.pop.new.self.items = reversed c.files.self-inside.around.items c.pop.new.self.items c.in-Some-pop.file c.in-Some-pop.ensures.items in (
      (λ files command t waiting.
          goes_on files command _ _ _ (c.files.invariant.0 files command t waiting)
          (goes_on files command _ _ _ (c.in_ok-kind.ensures.moved files command (state_of t (frames_of os) waiting))
          (subst (λ (rest : List Opened). Goes files command (state_of t (n.frame ∷ frames_of os) waiting) (state_of t (frames_of rest) waiting)) e
          (leaves files command t n.frame (frames_of os) waiting (subst (λ (k : Option NodeKind). AtNext k n.frame) c.in_default.is c.in_ok-kind.ensures.at))))),
      (λ paths p. subst (λ (rest : List Opened). ArePlaced paths rest) e (c.files.invariant.1 paths p).2),
    )

pub returns-in-None : goal.returns-in-None
returns-in-None c = λ files command t waiting.
    let n = c.settle.new.self in
    let items = c.files.self-inside.around.items in
    let none : items ≡ [] = nil_from_length items (omega (arith, c.in-None.ensures.cases.0, c.files.self-inside.around.ok.0)) in
    goes_on files command _ _ _ (c.files.invariant.0 files command t waiting)
    (goes_on files command _ _ _ (c.in_ok-kind.ensures.moved files command (state_of t (frames_of (reverse items)) waiting))
    (subst (λ (rest : List Opened). Goes files command (state_of t (n.frame ∷ frames_of (reverse items)) waiting) (state_of t (frames_of (reverse rest)) waiting)) none
    (leaves files command t n.frame (frames_of (reverse items)) waiting (subst (λ (k : Option NodeKind). AtNext k n.frame) c.in_default.is c.in_ok-kind.ensures.at))))
