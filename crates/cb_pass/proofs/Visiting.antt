-- A visit of a node is a step of the pass.
use Rattle.std.proofs.Common.{◌≡◌, ℕ, ◌<◌, Bool, true, false, List, [], ◌∷◌, refl, sym, ap, subst, ◌∙◌, if◌then◌else◌}
use Rattle.std.specs.Prelude.{◌&&◌, ◌||◌, ◌==◌, not, nat_le, Option, Some, None}
use Prim.Native.Nat.{suc}
use Rattle.std.proofs.Math.Path.{fun_ext}
use Rattle.std.proofs.lemmas.Bool.{lt-leb, cond-true, cond-false}
use Rattle.std.proofs.lemmas.List.{append-nil}
use Rattle.std.specs.Str.{bytes_eq}
use Rattle.cb_paths.specs.declared.language.Language.{Language}
use Rattle.cb_tokens.specs.declared.token.Token.{Token}
use Rattle.cb_tree.specs.declared.node.NodeKind.{NodeKind}
use Rattle.cb_tree.specs.declared.node.NodeKind.TheVariants.{Text, If, Ifdef, Ifndef, Elif, Else, Endif, Define, Undef, Include, Once, Error, Other}
use Rattle.cb_tree.specs.Skeleton.{Bone}
use Rattle.cb_tree.specs.Kinds.{rest_of}
use Rattle.cb_include.specs.declared.command.Command.{Command}
use Rattle.cb_include.specs.declared.header.Header.{Header}
use Rattle.cb_pass.specs.declared.limits.TheConstants.{NODE_LIMIT}
use Rattle.cb_pass.specs.declared.section.Section.{Section}
use Rattle.cb_pass.specs.declared.note.NoteKind.TheVariants as note
use Rattle.cb_pass.specs.Notes.{Place}
use Rattle.cb_pass.specs.Reached.{is_in}
use Rattle.cb_pass.specs.Answers.{Question, Nothing, Answer, Silent, Defines, Undefines, Wordless, Holds, Faulty, Names, Nameless, Long, IsAnswered}
use Rattle.cb_pass.specs.States.{Frame, Waiting, State}
use Rattle.cb_pass.specs.Steps.{is_reached, is_active, is_spent, question_of, frame_question, sections_behind, holds_at, effect, place_in, behind_node, moved, counted, with_node, behind, ended, turned_frame}
use Rattle.cb_pass.specs.Files.{Files, Request, Stays, node_request, include_request, frame_request, met}
use Rattle.cb_pass.specs.inner.Memos.{Memo}
use Rattle.cb_pass.specs.inner.Trails.{Opened, Findings, reached_by, state_of, next_kind, next_rest}
use Rattle.cb_pass.specs.inner.Moves.{IsStep, HasEffect, HasEffectIn, IsVisited, IsMet, IsNoted, IsReachedNext, advanced, wanted, header_in, with_file}
use Rattle.cb_pass.proofs.Unreached.{unasked}

-- a directive that has its effect
pub acts : (language : Language) (kind : NodeKind) (place : Place) (rest : List Token) (sections : List Section) (old new : Memo) (condition : Bool) (header : Option Header)
    → is_active kind sections ≡ true → HasEffect language kind place rest old new condition header
    → HasEffectIn language kind place rest sections old new condition header
acts language kind place rest sections old new condition header e h = (
  h.0,
  rw e h.1,
  λ s. rw e (h.2 s),
  ap (λ c. sections_behind kind c sections) h.3,
  rw e h.4,
)

-- a directive that has none
pub rests : (language : Language) (kind : NodeKind) (place : Place) (rest : List Token) (sections : List Section) (memo : Memo)
    → is_active kind sections ≡ false → HasEffectIn language kind place rest sections memo memo false None
rests language kind place rest sections memo e = (
  Silent,
  rw e refl,
  λ s. rw e refl,
  sym (unasked kind (holds_at kind rest memo.macros Silent) sections e),
  rw e refl,
)

included : (f : Frame) (answer : Answer) → include_request f answer ≡ wanted f (header_in Include answer)
included f Silent = refl
included f (Defines name d different) = refl
included f (Undefines name) = refl
included f Wordless = refl
included f (Holds holds) = refl
included f (Faulty bad) = refl
included f (Names header) = refl
included f Nameless = refl
included f Long = refl

node_wants : (kind : NodeKind) (f : Frame) (answer : Answer) → node_request kind f answer ≡ wanted f (header_in kind answer)
node_wants Text f answer = refl
node_wants If f answer = refl
node_wants Ifdef f answer = refl
node_wants Ifndef f answer = refl
node_wants Elif f answer = refl
node_wants Else f answer = refl
node_wants Endif f answer = refl
node_wants Define f answer = refl
node_wants Undef f answer = refl
node_wants Include f answer = included f answer
node_wants Once f answer = refl
node_wants Error f answer = refl
node_wants Other f answer = refl

wants : (active : Bool) (kind : NodeKind) (f : Frame) (answer : Answer)
    → (if active then node_request kind f answer else Stays) ≡ wanted f (if active then header_in kind answer else None)
wants true kind f answer = node_wants kind f answer
wants false kind f answer = refl

unspent : {X : Type 0} (spent active : Bool) (x y : X) → spent ≡ false → (if not spent && active then x else y) ≡ (if active then x else y)
unspent true active x y e = absurd cc
unspent false active x y e = refl

pub not_full : (r : Bool) (count : ℕ) → count < NODE_LIMIT → (r && nat_le NODE_LIMIT count) ≡ false
not_full true count h = lt-leb NODE_LIMIT count h
not_full false count h = refl

one_more : (test : Bool) (place : Place) (t : State) → test ≡ true → counted test place t ≡ record t { reached = with_node place t.reached; count = suc t.count }
one_more true place t e = refl
one_more false place t e = absurd cc

-- a state, part by part
abbrev state : Memo → (List ℕ → ℕ → Bool) → ℕ → List (List ℕ) → List Frame → List Waiting → State
state memo reached count probes frames waiting = record {
  frames = frames;
  waiting = waiting;
  macros = memo.macros;
  once = memo.once;
  reached = reached;
  count = count;
  probes = probes;
  notes = memo.notes;
}

same_state : (m n : Memo) (r q : List ℕ → ℕ → Bool) (c d : ℕ) (ps qs : List (List ℕ)) (f g : Frame) (fs : List Frame) (waiting : List Waiting)
    → m ≡ n → r ≡ q → c ≡ d → ps ≡ qs → f ≡ g → state m r c ps (f ∷ fs) waiting ≡ state n q d qs (g ∷ fs) waiting
same_state m n r q c d ps qs f g fs waiting e1 e2 e3 e4 e5 =
    ap (λ (x : Memo). state x r c ps (f ∷ fs) waiting) e1
    ∙ (ap (λ (x : List ℕ → ℕ → Bool). state n x c ps (f ∷ fs) waiting) e2
    ∙ (ap (λ (x : ℕ). state n q x ps (f ∷ fs) waiting) e3
    ∙ (ap (λ (x : List (List ℕ)). state n q d x (f ∷ fs) waiting) e4 ∙ ap (λ (x : Frame). state n q d qs (x ∷ fs) waiting) e5)))

-- one node more of a path was reached
abbrev pub IsMarked : List ℕ → ℕ → Findings → Findings → Type 0
IsMarked path node old new = (p : List ℕ) (n : ℕ)
    → is_in new.probes new.rows p n ≡ ((bytes_eq p path && (n == node)) || is_in old.probes old.rows p n)

module _ (language : Language) (f : Frame) (b : Bone) (bs : List Bone) (old mid new : Findings) (condition : Bool) (header : Option Header)
    (reached : is_reached b.kind f.sections ≡ true) (room : old.count < NODE_LIMIT)
    (memo : mid.memo ≡ old.memo) (count : mid.count ≡ suc old.count) (probes : mid.probes ≡ old.probes) (marked : IsMarked f.path f.node old mid)
    (acted : HasEffectIn language b.kind (place_in f) (rest_of b.tokens) f.sections mid.memo new.memo condition header)
    (same : new ≡ record mid { memo = new.memo }) where
  answer : Answer
  answer = acted.0

  not_spent : is_spent b.kind f.sections old.count ≡ false
  not_spent = not_full (is_reached b.kind f.sections) old.count room

  asked : IsAnswered language old.memo.macros (frame_question (b ∷ bs) f.sections old.count) answer
  unfolding answer
  asked =
      subst (λ (q : Question). IsAnswered language old.memo.macros q acted.0)
      (sym (unspent (is_spent b.kind f.sections old.count) (is_active b.kind f.sections) (question_of b.kind (rest_of b.tokens)) Nothing not_spent))
      (subst (λ (m : Memo). IsAnswered language m.macros (if is_active b.kind f.sections then question_of b.kind (rest_of b.tokens) else Nothing) acted.0) memo acted.1)

  after : Frame
  after = behind_node f bs (sections_behind b.kind condition f.sections)

  is_moved : after ≡ moved answer f b bs old.memo.macros
  unfolding answer after
  is_moved =
      ap (λ (ss : List Section). behind_node f bs ss)
      (acted.3 ∙ ap (λ (m : Memo). sections_behind b.kind (holds_at b.kind (rest_of b.tokens) m.macros acted.0) f.sections) memo)

  module _ (fs : List Frame) (waiting : List Waiting) where
    counted_state : state_of mid (after ∷ fs) waiting
        ≡ counted (is_reached b.kind f.sections) (place_in f) (record (state_of old (f ∷ fs) waiting) { frames = moved answer f b bs old.memo.macros ∷ fs })
    counted_state =
        let e : reached_by mid ≡ with_node (place_in f) (reached_by old) = fun_ext (λ p. fun_ext (λ n. marked p n)) in
        same_state mid.memo old.memo (reached_by mid) (with_node (place_in f) (reached_by old)) mid.count (suc old.count) mid.probes old.probes after (moved answer f b bs old.memo.macros) fs waiting
        memo e count probes is_moved
        ∙ sym (one_more (is_reached b.kind f.sections) (place_in f) (record (state_of old (f ∷ fs) waiting) { frames = moved answer f b bs old.memo.macros ∷ fs }) reached)

    turned : state_of new (after ∷ fs) waiting ≡ turned_frame answer f (b ∷ bs) fs (state_of old (f ∷ fs) waiting)
    unfolding answer
    turned =
        ap (λ (t : Findings). state_of t (after ∷ fs) waiting) same
        ∙ (acted.2 (state_of mid (after ∷ fs) waiting)
        ∙ (ap (λ (s : State). (if is_active b.kind f.sections then effect b.kind (place_in f) (rest_of b.tokens) acted.0 s else s)) counted_state
        ∙ sym (cond-false (is_spent b.kind f.sections old.count) (ended (place_in f) (state_of old (f ∷ fs) waiting)) (behind acted.0 f b bs fs (state_of old (f ∷ fs) waiting)) not_spent)))

  asks_files : frame_request f (b ∷ bs) old.count answer ≡ wanted f header
  unfolding answer
  asks_files =
      unspent (is_spent b.kind f.sections old.count) (is_active b.kind f.sections) (node_request b.kind f acted.0) Stays not_spent
      ∙ (wants (is_active b.kind f.sections) b.kind f acted.0 ∙ ap (wanted f) (sym acted.4))

some_kind : (kind found : NodeKind) → Some found ≡ Some kind → found ≡ kind
some_kind kind found e = cc

at_node : (language : Language) (f : Frame) (rest : List Bone) (kind : NodeKind) (old mid new : Findings) (condition : Bool) (header : Option Header)
    → next_kind rest ≡ Some kind → is_reached kind f.sections ≡ true → old.count < NODE_LIMIT
    → mid.memo ≡ old.memo → mid.count ≡ suc old.count → mid.probes ≡ old.probes → IsMarked f.path f.node old mid
    → HasEffectIn language kind (place_in f) (next_rest rest) f.sections mid.memo new.memo condition header
    → new ≡ record mid { memo = new.memo }
    → IsVisited language old (record f { rest = rest }) new (advanced kind condition (record f { rest = rest })) header
unfolding answer after
at_node language f [] kind old mid new condition header next reached room memo count probes marked acted same = absurd cc
at_node language f (b ∷ bs) kind old mid new condition header next reached room memo count probes marked acted same =
    let k : kind ≡ b.kind = sym (some_kind kind b.kind next) in
    subst (λ (k : NodeKind). IsVisited language old (record f { rest = b ∷ bs }) new (advanced k condition (record f { rest = b ∷ bs })) header) (sym k)
    (let r : is_reached b.kind f.sections ≡ true = subst (λ (k : NodeKind). is_reached k f.sections ≡ true) k reached in
    let a = subst (λ (k : NodeKind). HasEffectIn language k (place_in f) (rest_of b.tokens) f.sections mid.memo new.memo condition header) k acted in
    let g : Frame = record f { rest = b ∷ bs } in (
      answer language g b bs old mid new condition header r room memo count probes marked a same,
      asked language g b bs old mid new condition header r room memo count probes marked a same,
      turned language g b bs old mid new condition header r room memo count probes marked a same,
      asks_files language g b bs old mid new condition header r room memo count probes marked a same,
    ))

-- a visit, from what the parts of it do
pub visited : (language : Language) (f g : Frame) (kind : NodeKind) (old mid new : Findings) (condition : Bool) (header : Option Header)
    → IsReachedNext kind f → old.count < NODE_LIMIT
    → mid.memo ≡ old.memo → mid.count ≡ suc old.count → mid.probes ≡ old.probes → IsMarked f.path f.node old mid
    → HasEffectIn language kind (place_in f) (next_rest f.rest) f.sections mid.memo new.memo condition header
    → new ≡ record mid { memo = new.memo } → g ≡ advanced kind condition f
    → IsVisited language old f new g header
visited language f g kind old mid new condition header next room memo count probes marked acted same e =
    subst (λ (h : Frame). IsVisited language old f new h header) (sym e)
    (at_node language f f.rest kind old mid new condition header next.0 next.1 room memo count probes marked acted same)

-- a visit, and then what is asked of the files, is a step
pub is_step : (files : Files) (command : Command) (old mid new : Findings) (f g : Frame) (header : Option Header) (file : Option Opened)
    → IsVisited command.language old f mid g header → IsMet files command (wanted f header) mid new file
    → (fs : List Frame) (waiting : List Waiting)
    → IsStep files command (state_of old (f ∷ fs) waiting) (state_of new (with_file file (g ∷ fs)) waiting)
is_step files command old mid new f g header file visit meets fs waiting = (
  visit.0,
  visit.1,
  meets.0 (g ∷ fs) waiting
      ∙ (ap (λ (r : Request). met files command r (state_of mid (g ∷ fs) waiting)) (sym visit.3)
      ∙ ap (λ (s : State). met files command (frame_request f f.rest old.count visit.0) s) (visit.2 fs waiting)),
)

-- nothing is asked of the files
pub stays : (files : Files) (command : Command) (t : Findings) → IsMet files command Stays t t None
stays files command t = (λ fs waiting. refl, tt, ([], sym (append-nil t.probes)), refl)

full : (r : Bool) (count : ℕ) → r ≡ true → count ≡ NODE_LIMIT → (r && nat_le NODE_LIMIT count) ≡ true
full true count e h = rw h refl
full false count e h = absurd cc

is_spent_end : {X : Type 0} (spent active : Bool) (x y : X) → spent ≡ true → (if not spent && active then x else y) ≡ y
is_spent_end true active x y e = refl
is_spent_end false active x y e = absurd cc

ends_at : (files : Files) (command : Command) (old new : Findings) (f : Frame) (rest : List Bone) (kind : NodeKind) → next_kind rest ≡ Some kind → is_reached kind f.sections ≡ true
    → old.count ≡ NODE_LIMIT → IsNoted old new (place_in f) note.Budget [] → (fs : List Frame) (waiting : List Waiting)
    → IsStep files command (state_of old (record f { rest = rest } ∷ fs) waiting) (state_of new [] [])
ends_at files command old new f [] kind next reached count noted fs waiting = absurd cc
ends_at files command old new f (b ∷ bs) kind next reached count noted fs waiting =
    let r : is_reached b.kind f.sections ≡ true = subst (λ (k : NodeKind). is_reached k f.sections ≡ true) (sym (some_kind kind b.kind next)) reached in
    let e : is_spent b.kind f.sections old.count ≡ true = full (is_reached b.kind f.sections) old.count r count in
    let g : Frame = record f { rest = b ∷ bs } in
    let s : State = state_of old (g ∷ fs) waiting in (
      Silent,
      subst (λ (q : Question). IsAnswered command.language old.memo.macros q Silent)
          (sym (is_spent_end (is_spent b.kind f.sections old.count) (is_active b.kind f.sections) (question_of b.kind (rest_of b.tokens)) Nothing e)) refl,
      noted.0 [] []
          ∙ (sym (cond-true (is_spent b.kind f.sections old.count) (ended (place_in g) s) (behind Silent g b bs fs s) e)
          ∙ ap (λ (q : Request). met files command q (turned_frame Silent g (b ∷ bs) fs s))
          (sym (is_spent_end (is_spent b.kind f.sections old.count) (is_active b.kind f.sections) (node_request b.kind g Silent) Stays e))),
    )

-- the pass ends before a node that would be one too many
pub ends : (files : Files) (command : Command) (old new : Findings) (f : Frame) (kind : NodeKind) → IsReachedNext kind f
    → old.count ≡ NODE_LIMIT → IsNoted old new (place_in f) note.Budget [] → (fs : List Frame) (waiting : List Waiting)
    → IsStep files command (state_of old (f ∷ fs) waiting) (state_of new [] [])
ends files command old new f kind next count noted = ends_at files command old new f f.rest kind next.0 next.1 count noted
