-- A node that is not reached does nothing but to its section.
use Rattle.std.proofs.Common.{◌≡◌, ℕ, Bool, true, false, List, [], ◌∷◌, refl, sym, ap, subst, ◌∙◌, inl, inr, if◌then◌else◌}
use Rattle.std.specs.Prelude.{◌⊎◌, ◌&&◌, not}
use Prim.Native.Nat.{suc}
use Rattle.cb_tokens.specs.declared.token.Token.{Token}
use Rattle.cb_tree.specs.declared.node.NodeKind.{NodeKind}
use Rattle.cb_tree.specs.declared.node.NodeKind.TheVariants.{Text, If, Ifdef, Ifndef, Elif, Else, Endif, Define, Undef, Include, Once, Error, Other}
use Rattle.cb_tree.specs.Skeleton.{Bone}
use Rattle.cb_tree.specs.Kinds.{rest_of}
use Rattle.cb_include.specs.declared.command.Command.{Command}
use Rattle.cb_pass.specs.declared.section.Section.{Section}
use Rattle.cb_pass.specs.Sections.{is_before_live, may_be_taken, section_continued}
use Rattle.cb_pass.specs.Notes.{Place}
use Rattle.cb_pass.specs.Answers.{Question, Nothing, Silent, IsAnswered}
use Rattle.cb_pass.specs.States.{Frame, State}
use Rattle.cb_pass.specs.Steps.{is_reached, is_active, is_spent, question, question_of, sections_behind, holds_at, effect, place_in, counted, behind, ended, turned_frame}
use Rattle.cb_pass.specs.Files.{Files, Request, Stays, node_request, frame_request, met}
use Rattle.cb_pass.specs.inner.Moves.{Goes, IsStep}
use Rattle.cb_pass.proofs.Moves.{step_goes}

-- a kind that asks nothing and does nothing but to its section
Quiet : NodeKind → Type 0
Quiet Else = Unit {0}
Quiet Endif = Unit {0}
Quiet _ = ⊥

not_taken : (sections : List Section) → is_before_live sections ≡ false → may_be_taken sections ≡ false
not_taken [] e = refl
not_taken (s ∷ ss) e = ap (λ b. b && not s.taken) e

idle : (kind : NodeKind) (sections : List Section) → is_reached kind sections ≡ false → (is_active kind sections ≡ false) ⊎ Quiet kind
unfolding Quiet
idle Text sections e = inl e
idle If sections e = inl e
idle Ifdef sections e = inl e
idle Ifndef sections e = inl e
idle Elif sections e = inl (not_taken sections e)
idle Else sections e = inr tt
idle Endif sections e = inr tt
idle Define sections e = inl e
idle Undef sections e = inl e
idle Include sections e = inl e
idle Once sections e = inl e
idle Error sections e = inl e
idle Other sections e = inl e

quiet_question : (kind : NodeKind) (rest : List Token) → Quiet kind → question_of kind rest ≡ Nothing
unfolding Quiet
quiet_question Else rest q = refl
quiet_question Endif rest q = refl
quiet_question _ rest q = absurd q

quiet_effect : (kind : NodeKind) (place : Place) (rest : List Token) (s : State) → Quiet kind → effect kind place rest Silent s ≡ s
unfolding Quiet
quiet_effect Else place rest s q = refl
quiet_effect Endif place rest s q = refl
quiet_effect _ place rest s q = absurd q

quiet_sections : (kind : NodeKind) (condition : Bool) (sections : List Section) → Quiet kind → sections_behind kind condition sections ≡ sections_behind kind false sections
unfolding Quiet
quiet_sections Else condition sections q = refl
quiet_sections Endif condition sections q = refl
quiet_sections _ condition sections q = absurd q

silent_request : (kind : NodeKind) (f : Frame) → node_request kind f Silent ≡ Stays
silent_request Text f = refl
silent_request If f = refl
silent_request Ifdef f = refl
silent_request Ifndef f = refl
silent_request Elif f = refl
silent_request Else f = refl
silent_request Endif f = refl
silent_request Define f = refl
silent_request Undef f = refl
silent_request Include f = refl
silent_request Once f = refl
silent_request Error f = refl
silent_request Other f = refl

same_group : (b t condition : Bool) → (b && not t) ≡ false
    → section_continued condition (record { before = b; taken = t; now = false }) ≡ section_continued false (record { before = b; taken = t; now = false })
same_group true true condition e = refl
same_group true false condition e = absurd cc
same_group false true condition e = refl
same_group false false condition e = refl

-- where a kind has no effect, its condition makes no difference
pub unasked : (kind : NodeKind) (condition : Bool) (sections : List Section) → is_active kind sections ≡ false
    → sections_behind kind condition sections ≡ sections_behind kind false sections
unasked If condition sections e = rw e refl
unasked Ifdef condition sections e = rw e refl
unasked Ifndef condition sections e = rw e refl
unasked Elif condition [] e = refl
unasked Elif condition (s ∷ ss) e = ap (λ (t : Section). t ∷ ss) (same_group s.before s.taken condition e)
unasked Else condition sections e = refl
unasked Endif condition sections e = refl
unasked Text condition sections e = refl
unasked Define condition sections e = refl
unasked Undef condition sections e = refl
unasked Include condition sections e = refl
unasked Once condition sections e = refl
unasked Error condition sections e = refl
unasked Other condition sections e = refl

pub chosen : {X : Type 0} (spent active : Bool) (x y : X) → (active ≡ false) ⊎ (x ≡ y) → (if not spent && active then x else y) ≡ y
chosen true active x y h = refl
chosen false true x y (inl e) = absurd cc
chosen false true x y (inr e) = e
chosen false false x y h = refl

pub either : {X : Type 0} (active : Bool) (x y : X) → (active ≡ false) ⊎ (x ≡ y) → (if active then x else y) ≡ y
either true x y (inl e) = absurd cc
either true x y (inr e) = e
either false x y h = refl

or_same : {A : Type 0} (B C : Type 0) → (B → C) → (A ⊎ B) → (A ⊎ C)
or_same B C f (inl a) = inl a
or_same B C f (inr b) = inr (f b)

same_sections : (kind : NodeKind) (condition : Bool) (sections : List Section) → (is_active kind sections ≡ false) ⊎ Quiet kind
    → sections_behind kind condition sections ≡ sections_behind kind false sections
same_sections kind condition sections (inl e) = unasked kind condition sections e
same_sections kind condition sections (inr q) = quiet_sections kind condition sections q

module _ (files : Files) (command : Command) (s : State) (path : List ℕ) (depth : ℕ) where
  -- the file at a node, and the state there
  abbrev pub file : ℕ → List Bone → List Section → Frame
  file node rest sections = record { path = path; node = node; rest = rest; depth = depth; sections = sections }

  abbrev pub at : ℕ → List Bone → List Section → State
  at node rest sections = record s { frames = file node rest sections ∷ s.frames }

  module _ (node : ℕ) (b : Bone) (bs : List Bone) (sections : List Section) (e : is_reached b.kind sections ≡ false) where
    not_spent : is_spent b.kind sections s.count ≡ false
    not_spent = rw e refl

    nothing_asked : question (at node (b ∷ bs) sections) ≡ Nothing
    nothing_asked =
        chosen (is_spent b.kind sections s.count) (is_active b.kind sections) (question_of b.kind (rest_of b.tokens)) Nothing
        (or_same (Quiet b.kind) (question_of b.kind (rest_of b.tokens) ≡ Nothing) (quiet_question b.kind (rest_of b.tokens)) (idle b.kind sections e))

    nothing_wanted : frame_request (file node (b ∷ bs) sections) (b ∷ bs) s.count Silent ≡ Stays
    nothing_wanted =
        chosen (is_spent b.kind sections s.count) (is_active b.kind sections) (node_request b.kind (file node (b ∷ bs) sections) Silent) Stays
        (inr (silent_request b.kind (file node (b ∷ bs) sections)))

    section_moved : (c : Bool) → at (suc node) bs (sections_behind b.kind c sections) ≡ at (suc node) bs (sections_behind b.kind false sections)
    section_moved c = ap (at (suc node) bs) (same_sections b.kind c sections (idle b.kind sections e))

    counted_not : (test : Bool) (place : Place) (t : State) → test ≡ false → counted test place t ≡ t
    counted_not true place t h = absurd cc
    counted_not false place t h = refl

    passed_over : behind Silent (file node (b ∷ bs) sections) b bs s.frames (at node (b ∷ bs) sections) ≡ at (suc node) bs (sections_behind b.kind false sections)
    passed_over =
        let c : Bool = holds_at b.kind (rest_of b.tokens) s.macros Silent in
        let t : State = at (suc node) bs (sections_behind b.kind c sections) in
        let place : Place = record { path = path; node = node } in
        let u : State = counted (is_reached b.kind sections) place t in
        either (is_active b.kind sections) (effect b.kind place (rest_of b.tokens) Silent u) u
        (or_same (Quiet b.kind) (effect b.kind place (rest_of b.tokens) Silent u ≡ u) (quiet_effect b.kind place (rest_of b.tokens) u) (idle b.kind sections e))
        ∙ (counted_not (is_reached b.kind sections) place t e ∙ section_moved c)

    turned_over : turned_frame Silent (file node (b ∷ bs) sections) (b ∷ bs) s.frames (at node (b ∷ bs) sections) ≡ at (suc node) bs (sections_behind b.kind false sections)
    turned_over =
        either (is_spent b.kind sections s.count) (ended (place_in (file node (b ∷ bs) sections)) (at node (b ∷ bs) sections)) _ (inl not_spent)
        ∙ passed_over

    pub is_step : IsStep files command (at node (b ∷ bs) sections) (at (suc node) bs (sections_behind b.kind false sections))
    is_step = (
      Silent,
      subst (λ (q : Question). IsAnswered command.language s.macros q Silent) (sym nothing_asked) refl,
      sym (ap (λ (r : Request). met files command r (turned_frame Silent (file node (b ∷ bs) sections) (b ∷ bs) s.frames (at node (b ∷ bs) sections))) nothing_wanted ∙ turned_over),
    )

    pub passes : Goes files command (at node (b ∷ bs) sections) (at (suc node) bs (sections_behind b.kind false sections))
    passes = step_goes files command _ _ refl is_step
