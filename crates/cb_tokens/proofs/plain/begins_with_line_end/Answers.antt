use Rattle.std.proofs.Common.{◌≡◌, ℕ, ◌<◌, ◌≤◌, Bool, true, false, List, [], ◌∷◌, length, get_or, take, refl, ap, ◌∙◌, arith}
use Rattle.std.proofs.lemmas.Slice.Eq.{bytes_eq-Decides}
use Rattle.cb_tokens.specs.declared.class.Class.TheVariants as classes
use Rattle.cb_tokens.specs.declared.first.First.TheVariants as first
use Rattle.cb_tokens.specs.declared.token.PieceKind.TheVariants as kinds
use Rattle.cb_tokens.specs.Forms.{fits, is_white, is_name_start, is_prefix_letter, is_quote}
use Rattle.cb_tokens.specs.inner.Classes.{class_of}
use Rattle.cb_tokens.specs.Cut.{StandsFirst}
use Rattle.cb_tokens.proofs.Arms.{line_end_stands}
use Rattle.cb_tokens.proofs.plain.begins_with_line_end.Goals as goal

feed_class : class_of 10 ≡ classes.LineFeed
unfolding class_of is_white is_name_start is_prefix_letter is_quote
feed_class = refl

no_other : (b : Bool) → (b ≡ false → ⊥) → b ≡ true
no_other true f = refl
no_other false f = absurd (f refl)

by_first : (bs : List ℕ) → 0 < length bs → get_or bs 0 0 ≡ 10 → StandsFirst bs (first.Piece kinds.LineEnd 1)
by_first bs some h = line_end_stands bs (record { some = some; byte = rw h (omega arith); is = ap class_of h ∙ feed_class })

head : (bs : List ℕ) → take 1 bs ≡ 10 ∷ [] → get_or bs 0 0 ≡ 10
head [] h = absurd (cc)
head (b ∷ bs) h = cc

by_piece : (bs : List ℕ) → StandsFirst bs (first.Piece kinds.LineEnd 1) → (1 ≤ length bs) × (get_or bs 0 0 ≡ 10)
unfolding fits
by_piece bs h = (h.1.within, head bs ((bytes_eq-Decides (take 1 bs) (10 ∷ [])).0 h.1.holds))

pub returns : goal.returns
returns c = (
  λ h. let y = c.is_feed_at.ensures.yes h in by_first c.args.bytes.now y.0 y.1,
  λ s. let p = by_piece c.args.bytes.now s in no_other c.is_feed_at.result (λ h. let few = c.is_feed_at.ensures.no h p.1 in omega (arith, few, p.0)),
)
