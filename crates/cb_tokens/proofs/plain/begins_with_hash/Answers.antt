use Rattle.std.proofs.Common.{◌≡◌, ℕ, ◌<◌, true, not, List, [], ◌∷◌, length, get_or, refl, ap, sym, ◌∙◌, arith}
use Rattle.std.proofs.lemmas.Bool.{ne_eqb}
use Rattle.std.proofs.lemmas.Bool.Decides.{nat_tests}
use lib.Dec.{eqb}
use Rattle.cb_tokens.specs.declared.class.Class.TheVariants as classes
use Rattle.cb_tokens.specs.declared.first.First.TheVariants as first
use Rattle.cb_tokens.specs.declared.token.PieceKind.TheVariants as kinds
use Rattle.cb_tokens.specs.declared.token.TokenKind.TheVariants as tokens
use Rattle.cb_tokens.specs.Forms.{fits, is_white, is_name_start, is_prefix_letter, is_quote}
use Rattle.cb_tokens.specs.inner.Classes.{class_of, BeginsIn}
use Rattle.cb_tokens.specs.Cut.{StandsFirst}
use Rattle.cb_tokens.proofs.Arms.{operator_stands}
use Rattle.cb_tokens.proofs.MoreArms.{operator_first}
use Rattle.cb_tokens.proofs.Punctuators.{longest_hash, longest_of_two}
use Rattle.cb_tokens.proofs.plain.begins_with_hash.Goals as goal

hash_class : class_of 35 ≡ classes.Operator
unfolding class_of is_white is_name_start is_prefix_letter is_quote
hash_class = refl

some : (bs : List ℕ) → get_or bs 0 0 ≡ 35 → 0 < length bs
some [] h = absurd (cc)
some (b ∷ bs) h = omega arith

begins : (bs : List ℕ) → get_or bs 0 0 ≡ 35 → BeginsIn classes.Operator bs
begins bs h = record { some = some bs h; byte = rw h (omega arith); is = ap class_of h ∙ hash_class }

-- no longer piece stands there
alone : (bs : List ℕ) → get_or bs 0 0 ≡ 35 → StandsFirst bs (first.Piece (kinds.Token tokens.Punct) 1) → get_or bs 1 0 ≡ 35 → ⊥
unfolding fits
alone bs a h b = let two = longest_of_two bs a b in let few = h.1.longest (kinds.Token tokens.Punct) 2 two.0 two.1 in omega arith

apart : (n m : ℕ) → (n ≡ m → ⊥) → not (eqb n m) ≡ true
apart n m h = rw (ne_eqb n m h) refl

differ : (n m : ℕ) → not (eqb n m) ≡ true → n ≡ m → ⊥
differ n m h e = grind (arith, nat_tests)

pub returns : goal.returns
returns c =
    let bs : List ℕ = c.args.bytes.now in
    let hash : get_or bs 0 0 ≡ 35 = sym c.byte_at.ensures ∙ c.if-byte_at-ne35.false in (
      λ h. (hash, operator_stands bs 1 (begins bs hash) (longest_hash bs hash (λ e. differ c.byte_at-2.result 35 h (c.byte_at-2.ensures ∙ e)) (operator_first bs (begins bs hash)))),
      λ h. apart c.byte_at-2.result 35 (λ e. alone bs hash h.1 (sym c.byte_at-2.ensures ∙ e)),
    )
