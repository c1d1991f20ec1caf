-- A source is answered in one way, since it is read in one way and has one pass.
use Rattle.std.proofs.Common.{◌≡◌, ◌≢◌, ◌⊎◌, inl, inr, ℕ, take, Some, IfSome, List, refl, ap, sym, subst, ◌∙◌, arith}
use Rattle.cb_tree.specs.declared.fault.BadSource.{BadSource}
use Rattle.cb_tree.specs.Nodes.{Node}
use Rattle.cb_tree.specs.Sound.{Reading, Sound, Unsound, IsRead, too_many_bytes}
use Rattle.cb_include.specs.declared.command.Command.{Command}
use Rattle.cb_pass.specs.Files.{Files}
use Rattle.cb_pass.specs.States.{Outcome}
use Rattle.cb_pass.specs.Passes.{IsPass}
use Rattle.codebasin.specs.Words.{Specialise, Asks, AsksNothing}
use Rattle.codebasin.specs.Specialise.{command_of, only, reached_lines}
use Rattle.codebasin.specs.Texts.{usage_text, malformed_text, numbers_text}
use Rattle.codebasin.specs.Run.{World, Says, specialised, usage, malformed, too_long, unread}
use Rattle.codebasin.specs.inner.Answers.{Answers, Passes, unsound, sound}
use Rattle.codebasin.specs.inner.Answers as answers

-- a command has one pass over files, and a source one reading
pub record Laws : Type 0 where
  pub one_pass : (files : Files) (command : Command) (a b : Outcome) → IsPass files command a → IsPass files command b → a ≡ b
  pub one_reading : (source : List ℕ) (a b : Reading) → IsRead source a → IsRead source b → a ≡ b

one_passed : Laws → (command : Command) (nodes : List Node) (t u : List ℕ) → Passes command nodes t → Passes command nodes u → t ≡ u
one_passed L command nodes t u p q =
    p.text_is
    ∙ (ap (λ (end : Outcome). numbers_text (reached_lines (end.reached command.main) nodes)) (L.one_pass (only nodes) command p.end q.end p.pass q.pass)
    ∙ sym q.text_is)

not_both : Laws → (source : List ℕ) (nodes : List Node) (fault : BadSource) → IsRead source (Sound nodes) → IsRead source (Unsound fault) → ⊥
not_both L source nodes fault r u = let e = L.one_reading source (Sound nodes) (Unsound fault) r u in cc

-- a source is answered in one way
one_answer : Laws → (words : List (List ℕ)) (source : List ℕ) (s r : ℕ) (t u : List ℕ) → Answers words source s t → Answers words source r u → (s ≡ r) × (t ≡ u)
one_answer L words source _ _ _ _ (answers.too_long h) (answers.too_long k) = (refl, refl)
one_answer L words source _ _ _ _ (answers.too_long h) (unsound f k is) = absurd (omega arith)
one_answer L words source _ _ _ _ (answers.too_long h) (sound ns u is p) = absurd (not_both L source ns _ is (too_many_bytes h))
one_answer L words source _ _ _ _ (unsound f h is) (answers.too_long k) = absurd (omega arith)
one_answer L words source _ _ _ _ (unsound f h is) (unsound g k is') =
    let e = L.one_reading source (Unsound f) (Unsound g) is is' in
    let same : f ≡ g = cc in (refl, ap malformed_text same)
one_answer L words source _ _ _ _ (unsound f h is) (sound ns u is' p) = absurd (not_both L source ns f is' is)
one_answer L words source _ _ _ _ (sound ns t is p) (answers.too_long k) = absurd (not_both L source ns _ is (too_many_bytes k))
one_answer L words source _ _ _ _ (sound ns t is p) (unsound g k is') = absurd (not_both L source ns g is is')
one_answer L words source _ _ _ _ (sound ns t is p) (sound ms u is' q) =
    let e = L.one_reading source (Sound ns) (Sound ms) is is' in
    let same : ms ≡ ns = cc in
    let P : List Node → Type 0 = λ ks. Passes (command_of words) ks u in
    (refl, one_passed L (command_of words) ns t u p (subst P same q))

-- what a run says, as the words of -D and the source, and what is said of the source
record Heard (arguments : List (List ℕ)) (w : World) (status : ℕ) (text : List ℕ) : Type 0 where
  words : List (List ℕ)
  bytes : List ℕ
  asks : Asks arguments (Specialise words)
  front : IfSome w.input.bytes (λ left. bytes ≡ take 4194305 left)
  says : Answers words bytes status text

heard : (arguments : List (List ℕ)) (w a : World) (s : ℕ) (t : List ℕ) → Says arguments w a s t → s ≢ 4
    → (AsksNothing arguments × (s ≡ 1) × (t ≡ usage_text)) ⊎ Heard arguments w s t
heard arguments w a _ _ (specialised words bytes nodes end asks read is pass) four =
    inr (record { words = words; bytes = bytes; asks = asks; front = read.front; says = sound nodes _ is (record { end = end; pass = pass; text_is = refl }) })
heard arguments w a _ _ (usage nothing kept) four = inl (nothing, refl, refl)
heard arguments w a _ _ (malformed words bytes fault asks read fits is) four =
    inr (record { words = words; bytes = bytes; asks = asks; front = read.front; says = unsound fault fits is })
heard arguments w a _ _ (too_long words bytes asks read long) four =
    inr (record { words = words; bytes = bytes; asks = asks; front = read.front; says = answers.too_long long })
heard arguments w a _ _ (unread words asks loses) four = absurd (four refl)

one_heard : Laws → (arguments : List (List ℕ)) (w : World) (bytes : List ℕ) (s r : ℕ) (t u : List ℕ) → w.input.bytes ≡ Some bytes
    → Heard arguments w s t → Heard arguments w r u → (s ≡ r) × (t ≡ u)
one_heard L arguments w bytes s r t u told h k =
    let words : h.words ≡ k.words = let e = sym h.asks.is ∙ k.asks.is in cc in
    let first : h.bytes ≡ take 4194305 bytes = subst (λ o. IfSome o (λ left. h.bytes ≡ take 4194305 left)) told h.front in
    let second : k.bytes ≡ take 4194305 bytes = subst (λ o. IfSome o (λ left. k.bytes ≡ take 4194305 left)) told k.front in
    let says : Answers h.words h.bytes r u = subst (λ ws. Answers ws h.bytes r u) (sym words) (subst (λ bs. Answers k.words bs r u) (second ∙ sym first) k.says) in
    one_answer L h.words h.bytes s r t u h.says says

pub one_saying : Laws → (arguments : List (List ℕ)) (w a b : World) (bytes : List ℕ) (s r : ℕ) (t u : List ℕ)
    → w.input.bytes ≡ Some bytes → Says arguments w a s t → Says arguments w b r u → s ≢ 4 → r ≢ 4 → (s ≡ r) × (t ≡ u)
one_saying L arguments w a b bytes s r t u told x y four four' =
    elim (heard arguments w a s t x four) [
      | inl h ↦ elim (heard arguments w b r u y four') [
        | inl k ↦ (h.1 ∙ sym k.1, h.2 ∙ sym k.2)
        | inr k ↦ absurd (h.0 (Specialise k.words) k.asks)
      ]
      | inr h ↦ elim (heard arguments w b r u y four') [
        | inl k ↦ absurd (k.0 (Specialise h.words) h.asks)
        | inr k ↦ one_heard L arguments w bytes s r t u told h k
      ]
    ]
