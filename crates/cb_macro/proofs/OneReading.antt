-- A word is read in one way, since its text has one cut.
use Rattle.std.proofs.Common.{◌≡◌, ℕ, List, Option, Some, None, refl, ap, sym, ◌∙◌}
use Rattle.std.specs.Prelude.{option_and_then}
use Rattle.cb_lines.specs.Marks.{marks_of}
use Rattle.cb_lines.specs.declared.mark.Mark.{Mark}
use Rattle.cb_tokens.specs.Cut.{Piece, IsCut, HasOpenComment}
use Rattle.cb_tokens.specs.Logical.{Line, AreLinesOf}
use Rattle.cb_macro.specs.Definitions.{Definition, defines, undefines}
use Rattle.cb_macro.specs.Words.{AreLogicalLines, first_line, definition_text, first_tokens, WordDefines, WordUndefines}

module _ (lines : (ms : List Mark) (a b : List Line) → AreLinesOf ms a → AreLinesOf ms b → a ≡ b)
    (no_cut : (ms : List Mark) (ps : List Piece) (line : ℕ) → IsCut ms ps → HasOpenComment ms line → ⊥) where
  one_lines : (text : List ℕ) (a b : Option (List Line)) → AreLogicalLines text a → AreLogicalLines text b → a ≡ b
  one_lines text None None x y = refl
  one_lines text None (Some b) x y = absurd (no_cut (marks_of text) y.0 x.0 y.1 x.1)
  one_lines text (Some a) None x y = absurd (no_cut (marks_of text) x.0 y.0 x.1 y.1)
  one_lines text (Some a) (Some b) x y = ap Some (lines (marks_of text) a b x y)

  pub one_defined : (word : List ℕ) (a b : Option (List ℕ × Definition)) → WordDefines word a → WordDefines word b → a ≡ b
  one_defined word a b x y =
      x.2
      ∙ (ap (λ (ls : Option (List Line)). option_and_then (λ ls. defines (first_tokens ls)) ls) (one_lines (definition_text word) x.0 y.0 x.1 y.1)
      ∙ sym y.2)

  pub one_undefined : (word : List ℕ) (a b : Option (List ℕ)) → WordUndefines word a → WordUndefines word b → a ≡ b
  one_undefined word a b x y =
      x.2
      ∙ (ap (λ (ls : Option (List Line)). option_and_then (λ ls. undefines (first_tokens ls)) ls) (one_lines (first_line word) x.0 y.0 x.1 y.1)
      ∙ sym y.2)
