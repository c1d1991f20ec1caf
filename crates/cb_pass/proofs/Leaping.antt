-- A group that is not taken is passed over node by node to its end.
use Rattle.std.proofs.Common.{◌≡◌, ℕ, ◌+◌, ◌-◌, Bool, true, false, List, [], ◌∷◌, ◌++◌, length, map, drop, refl, sym, ap, subst, ◌∙◌, inl, inr, arith, add-one, if◌then◌else◌}
use Rattle.std.specs.Prelude.{Some, ◌==◌, ◌&&◌, not}
use Rattle.std.proofs.lemmas.Bool.{ne_eqb}
use Prim.Native.Nat.{suc}
use Rattle.cb_tokens.specs.declared.token.Token.{Token}
use Rattle.cb_tree.specs.declared.node.NodeKind.{NodeKind}
use Rattle.cb_tree.specs.declared.node.NodeKind.TheVariants.{Text, If, Ifdef, Ifndef, Elif, Else, Endif, Define, Undef, Include, Once, Error, Other}
use Rattle.cb_tree.specs.Groups.{next_turn}
use Rattle.cb_tree.specs.Skeleton.{Bone}
use Rattle.cb_include.specs.declared.command.Command.{Command}
use Rattle.cb_pass.specs.declared.section.Section.{Section}
use Rattle.cb_pass.specs.Sections.{is_live, entered, section_continued, section_turned}
use Rattle.cb_pass.specs.States.{Frame, State}
use Rattle.cb_pass.specs.Steps.{is_reached, sections_behind}
use Rattle.cb_pass.specs.Files.{Files}
use Rattle.cb_pass.specs.inner.Moves.{Goes, Leaps}
use Rattle.cb_pass.proofs.Moves.{goes_on, goes_itself}
use Rattle.cb_pass.proofs.Unreached.{file, at, passes}

-- sections in dead text
AreDead : List Section → Type 0
AreDead [] = Unit {0}
AreDead (s ∷ ss) = (s.before ≡ false) × (s.now ≡ false) × AreDead ss

dead_live : (inner outer : List Section) → AreDead inner → is_live outer ≡ false → is_live (inner ++ outer) ≡ false
unfolding AreDead
dead_live [] outer d e = e
dead_live (s ∷ ss) outer d e = d.1

nonzero : (n : ℕ) → (suc n == 0) ≡ false
nonzero n = ne_eqb (suc n) 0 (omega arith)

one_less : (n : ℕ) → suc n - 1 ≡ n
one_less n = omega arith

never : (b : Bool) → (b && false) ≡ false
never true = refl
never false = refl

opened : (sections : List Section) → is_live sections ≡ false
    → entered false sections ≡ record { before = false; taken = false; now = false } ∷ sections
opened sections e = rw e refl

module _ (files : Files) (command : Command) (s : State) (path : List ℕ) (depth : ℕ) (outer : List Section) (dead : is_live outer ≡ false) where
  -- so many nodes on stands the end
  abbrev Ends : ℕ → List Bone → List Section → ℕ → Type 0
  Ends node rest sections end =
      (k : ℕ) × (end ≡ node + k) × Goes files command (at files command s path depth node rest sections) (at files command s path depth end (drop k rest) outer)

  -- wherever the end of the group stands, the pass comes to it
  pub Comes : ℕ → List Bone → Type 0
  Comes node rest = (inner : List Section) (end : ℕ) → AreDead inner → next_turn (map (λ b. b.kind) rest) node (length inner) ≡ Some end → Ends node rest (inner ++ outer) end

  one_on : (node : ℕ) (b : Bone) (bs : List Bone) (sections next : List Section) (end : ℕ) → is_reached b.kind sections ≡ false
      → sections_behind b.kind false sections ≡ next → Ends (suc node) bs next end → Ends node (b ∷ bs) sections end
  one_on node b bs sections next end e same more = (
    suc more.0,
    omega (arith, more.1),
    goes_on files command _ _ _ (passes files command s path depth node b bs sections e)
        (subst (λ (ss : List Section). Goes files command (at files command s path depth (suc node) bs ss) (at files command s path depth end (drop more.0 bs) outer)) (sym same) more.2),
  )

  here : (node end : ℕ) (rest : List Bone) → node ≡ end → Ends node rest outer end
  here node end rest e = (
    0,
    omega (arith, e),
    subst (λ (n : ℕ). Goes files command (at files command s path depth node rest outer) (at files command s path depth n rest outer)) e (goes_itself files command _),
  )

  some_is : (a b : ℕ) → Some a ≡ Some b → a ≡ b
  some_is a b e = cc

  within : (node : ℕ) (b : Bone) (bs : List Bone) → Comes (suc node) bs → (inner : List Section) (end : ℕ) → AreDead inner
      → is_reached b.kind (inner ++ outer) ≡ is_live (inner ++ outer) → sections_behind b.kind false (inner ++ outer) ≡ inner ++ outer
      → next_turn (map (λ b. b.kind) bs) (node + 1) (length inner) ≡ Some end → Ends node (b ∷ bs) (inner ++ outer) end
  unfolding Comes
  within node b bs comes inner end d live same h =
      one_on node b bs (inner ++ outer) (inner ++ outer) end (live ∙ dead_live inner outer d dead) same
      (comes inner end d (rw add-one at h))

  opens : (node : ℕ) (b : Bone) (bs : List Bone) → Comes (suc node) bs → (inner : List Section) (end : ℕ) → AreDead inner
      → is_reached b.kind (inner ++ outer) ≡ is_live (inner ++ outer) → sections_behind b.kind false (inner ++ outer) ≡ entered false (inner ++ outer)
      → next_turn (map (λ b. b.kind) bs) (node + 1) (length inner + 1) ≡ Some end → Ends node (b ∷ bs) (inner ++ outer) end
  unfolding Comes AreDead
  opens node b bs comes inner end d live same h =
      let e : is_live (inner ++ outer) ≡ false = dead_live inner outer d dead in
      let new : Section = record { before = false; taken = false; now = false } in
      one_on node b bs (inner ++ outer) (new ∷ inner ++ outer) end (live ∙ e) (same ∙ opened (inner ++ outer) e)
      (comes (new ∷ inner) end (refl, refl, d) (rw (add-one, add-one) at h))

  stands : (node end : ℕ) (b : Bone) (bs : List Bone) → Some node ≡ Some end → Ends node (b ∷ bs) outer end
  stands node end b bs h = here node end (b ∷ bs) (some_is node end h)

  turns : (node : ℕ) (b : Bone) (bs : List Bone) → Comes (suc node) bs → (group : Section) (ss : List Section) (end : ℕ) (next : Section)
      → AreDead ss → (next.before ≡ false) × (next.now ≡ false) → is_reached b.kind (group ∷ ss ++ outer) ≡ false
      → sections_behind b.kind false (group ∷ ss ++ outer) ≡ next ∷ ss ++ outer
      → (if suc (length ss) == 0 then Some node else next_turn (map (λ b. b.kind) bs) (node + 1) (suc (length ss))) ≡ Some end
      → Ends node (b ∷ bs) (group ∷ ss ++ outer) end
  unfolding Comes AreDead
  turns node b bs comes group ss end next d n e same h =
      one_on node b bs (group ∷ ss ++ outer) (next ∷ ss ++ outer) end e same
      (comes (next ∷ ss) end (n.0, n.1, d) (rw (nonzero (length ss), add-one) at h))

  closes : (node : ℕ) (b : Bone) (bs : List Bone) → Comes (suc node) bs → (group : Section) (ss : List Section) (end : ℕ)
      → AreDead ss → is_reached b.kind (group ∷ ss ++ outer) ≡ false
      → sections_behind b.kind false (group ∷ ss ++ outer) ≡ ss ++ outer
      → (if suc (length ss) == 0 then Some node else next_turn (map (λ b. b.kind) bs) (node + 1) (suc (length ss) - 1)) ≡ Some end
      → Ends node (b ∷ bs) (group ∷ ss ++ outer) end
  unfolding Comes AreDead
  closes node b bs comes group ss end d e same h =
      one_on node b bs (group ∷ ss ++ outer) (ss ++ outer) end e same
      (comes ss end d (rw (nonzero (length ss), one_less (length ss), add-one) at h))

  at_elif : (node : ℕ) (tokens : List Token) (bs : List Bone) → Comes (suc node) bs → Comes node (record { kind = Elif; tokens = tokens } ∷ bs)
  unfolding Comes AreDead
  at_elif node tokens bs comes [] end d h = stands node end _ bs h
  at_elif node tokens bs comes (group ∷ ss) end d h =
      turns node _ bs comes group ss end (section_continued false group) d.2 (d.0, never (group.before && not group.taken)) d.0 refl h

  at_else : (node : ℕ) (tokens : List Token) (bs : List Bone) → Comes (suc node) bs → Comes node (record { kind = Else; tokens = tokens } ∷ bs)
  unfolding Comes AreDead
  at_else node tokens bs comes [] end d h = stands node end _ bs h
  at_else node tokens bs comes (group ∷ ss) end d h =
      turns node _ bs comes group ss end (section_turned group) d.2 (d.0, ap (λ b. b && not group.taken) d.0) d.0 refl h

  at_endif : (node : ℕ) (tokens : List Token) (bs : List Bone) → Comes (suc node) bs → Comes node (record { kind = Endif; tokens = tokens } ∷ bs)
  unfolding Comes AreDead
  at_endif node tokens bs comes [] end d h = stands node end _ bs h
  at_endif node tokens bs comes (group ∷ ss) end d h = closes node _ bs comes group ss end d.2 d.0 refl h

  at_kind : (kind : NodeKind) (node : ℕ) (tokens : List Token) (bs : List Bone) → Comes (suc node) bs
      → Comes node (record { kind = kind; tokens = tokens } ∷ bs)
  unfolding Comes AreDead
  at_kind Text node tokens bs comes = λ inner end d h. within node _ bs comes inner end d refl refl h
  at_kind Define node tokens bs comes = λ inner end d h. within node _ bs comes inner end d refl refl h
  at_kind Undef node tokens bs comes = λ inner end d h. within node _ bs comes inner end d refl refl h
  at_kind Include node tokens bs comes = λ inner end d h. within node _ bs comes inner end d refl refl h
  at_kind Once node tokens bs comes = λ inner end d h. within node _ bs comes inner end d refl refl h
  at_kind Error node tokens bs comes = λ inner end d h. within node _ bs comes inner end d refl refl h
  at_kind Other node tokens bs comes = λ inner end d h. within node _ bs comes inner end d refl refl h
  at_kind If node tokens bs comes = λ inner end d h. opens node _ bs comes inner end d refl refl h
  at_kind Ifdef node tokens bs comes = λ inner end d h. opens node _ bs comes inner end d refl refl h
  at_kind Ifndef node tokens bs comes = λ inner end d h. opens node _ bs comes inner end d refl refl h
  at_kind Elif node tokens bs comes = λ inner end d h. at_elif node tokens bs comes inner end d h
  at_kind Else node tokens bs comes = λ inner end d h. at_else node tokens bs comes inner end d h
  at_kind Endif node tokens bs comes = λ inner end d h. at_endif node tokens bs comes inner end d h

  pub comes : (rest : List Bone) (node : ℕ) → Comes node rest
  unfolding Comes
  comes [] node = λ inner end d h. absurd cc
  comes (b ∷ bs) node = at_kind b.kind node b.tokens bs (comes bs (suc node))

-- the pass goes along a leap
pub leaps : (files : Files) (command : Command) (s : State) (f g : Frame) → is_live f.sections ≡ false → Leaps f g
    → Goes files command (record s { frames = f ∷ s.frames }) (record s { frames = g ∷ s.frames })
unfolding Comes AreDead
leaps files command s f g dead (inl e) =
    subst (λ (h : Frame). Goes files command (record s { frames = f ∷ s.frames }) (record s { frames = h ∷ s.frames })) e
    (goes_itself files command (record s { frames = f ∷ s.frames }))
leaps files command s f g dead (inr leap) =
    let ends = comes files command s f.path f.depth f.sections dead f.rest f.node [] leap.0 tt leap.1 in
    let steps : leap.0 - f.node ≡ ends.0 = omega (arith, ends.1) in
    subst (λ (h : Frame). Goes files command (record s { frames = f ∷ s.frames }) (record s { frames = h ∷ s.frames }))
    (sym (leap.2 ∙ ap (λ (n : ℕ). file files command s f.path f.depth leap.0 (drop n f.rest) f.sections) steps)) ends.2
