-- A pass has one outcome.
use Rattle.std.proofs.Common.{◌≡◌, ℕ, ◌<◌, ◌≤◌, Bool, true, false, List, refl, sym, ap, subst, ◌∙◌, inl, inr, arith}
use Rattle.std.specs.Prelude.{Option, Some, None, Result}
use Rattle.cb_paths.specs.declared.language.Language.{Language}
use Rattle.cb_tokens.specs.declared.token.Token.{Token}
use Rattle.cb_cond.specs.declared.bad_condition.BadCondition.{BadCondition}
use Rattle.cb_cond.specs.Symbols.{symbols}
use Rattle.cb_cond.specs.Faults.{IsAnswer}
use Rattle.cb_macro.specs.Definitions.{Definition, defines}
use Rattle.cb_macro.specs.Maps.{found, IsChange}
use Rattle.cb_macro.specs.Words.{WordDefines, WordUndefines}
use Rattle.cb_include.specs.declared.op.Op.{Op}
use Rattle.cb_include.specs.declared.op.Op.TheVariants.{Define, Undef}
use Rattle.cb_include.specs.declared.command.Command.{Command}
use Rattle.cb_include.specs.declared.header.Header.{Header}
use Rattle.cb_pass.specs.Headers.{header_of}
use Rattle.cb_expand.specs.declared.limits.TheConstants.{COST_LIMIT}
use Rattle.cb_expand.specs.declared.mode.Mode.{Mode}
use Rattle.cb_expand.specs.declared.mode.Mode.TheVariants as mode
use Rattle.cb_expand.specs.Expansion.{IsExpansion, IsReplacement, IsTooDear}
use Rattle.cb_pass.specs.Macros.{Macros}
use Rattle.cb_pass.specs.Answers.{Question, Nothing, Word, Defining, Undefining, Truth, Named, Answer, Defines, IsAnswered, IsDefinition, IsWord, IsReplaced, IsTruth, IsNamed, undefines_or_not, holds_or_not, named_or_not}
use Rattle.cb_pass.specs.States.{State, Outcome}
use Rattle.cb_pass.specs.Steps.{question}
use Rattle.cb_pass.specs.Files.{Files, stepped}
use Rattle.cb_pass.specs.Passes.{Leads, over, goes, start, IsPass}

-- what replacement makes of tokens, and what it costs, is one
abbrev pub OneExpansion : Type 0
OneExpansion = (macros : Macros) (mode : Mode) (tokens out other : List Token) (cost price : ℕ)
    → IsExpansion macros mode tokens out cost → IsExpansion macros mode tokens other price → (out ≡ other) × (cost ≡ price)

-- a condition has one value
abbrev pub OneCondition : Type 0
OneCondition = (language : Language) (tokens : List Token) (a b : Result Bool BadCondition)
    → IsAnswer (symbols language tokens) a → IsAnswer (symbols language tokens) b → a ≡ b

-- a word after -D is read in one way, and so is a word after -U
abbrev pub OneDefined : Type 0
OneDefined = (word : List ℕ) (a b : Option (List ℕ × Definition)) → WordDefines word a → WordDefines word b → a ≡ b

abbrev pub OneUndefined : Type 0
OneUndefined = (word : List ℕ) (a b : Option (List ℕ)) → WordUndefines word a → WordUndefines word b → a ≡ b

module _ (expansion : OneExpansion) (condition : OneCondition) (one_defined : OneDefined) (one_undefined : OneUndefined) where
  not_both : (macros : Macros) (mode : Mode) (tokens out : List Token) → IsReplacement macros mode tokens out → IsTooDear macros mode tokens → ⊥
  not_both macros mode tokens out e long = let h : COST_LIMIT < e.0 = long out e.0 e.1 in let k : e.0 ≤ COST_LIMIT = e.2 in omega arith

  one_replaced : (macros : Macros) (mode : Mode) (tokens : List Token) (Says : List Token → Answer → Type 0) (a b : Answer)
      → ((out : List Token) → Says out a → Says out b → a ≡ b)
      → IsReplaced macros mode tokens Says a → IsReplaced macros mode tokens Says b → a ≡ b
  one_replaced macros mode tokens Says a b h (inl x) (inl y) =
      let same : x.0 ≡ y.0 = (expansion macros mode tokens x.0 y.0 x.1.0 y.1.0 x.1.1 y.1.1).0 in
      h y.0 (subst (λ (out : List Token). Says out a) same x.2) y.2
  one_replaced macros mode tokens Says a b h (inl x) (inr y) = absurd (not_both macros mode tokens x.0 x.1 y.0)
  one_replaced macros mode tokens Says a b h (inr x) (inl y) = absurd (not_both macros mode tokens y.0 y.1 x.0)
  one_replaced macros mode tokens Says a b h (inr x) (inr y) = x.1 ∙ sym y.1

  one_truth : (language : Language) (a b : Answer) (tokens : List Token) → IsTruth language tokens a → IsTruth language tokens b → a ≡ b
  one_truth language a b tokens x y = x.2 ∙ (ap holds_or_not (condition language tokens x.0 y.0 x.1 y.1) ∙ sym y.2)

  one_change : (before : Option Definition) (d : Definition) (a b : Bool) → IsChange before d a → IsChange before d b → a ≡ b
  one_change None d a b x y = x ∙ sym y
  one_change (Some other) d true true x y = refl
  one_change (Some other) d true false x y = absurd (x y)
  one_change (Some other) d false true x y = absurd (y x)
  one_change (Some other) d false false x y = refl

  one_definition : (macros : Macros) (d : Option (List ℕ × Definition)) (a b : Answer) → IsDefinition macros d a → IsDefinition macros d b → a ≡ b
  one_definition macros None a b x y = x ∙ sym y
  one_definition macros (Some d) a b x y =
      x.2 ∙ (ap (Defines d.0 d.1) (one_change (found macros d.0) d.1 x.0 y.0 x.1 y.1) ∙ sym y.2)

  one_word : (macros : Macros) (op : Op) (a b : Answer) → IsWord macros op a → IsWord macros op b → a ≡ b
  one_word macros (Define word) a b x y =
      one_definition macros y.0 a b (subst (λ (d : Option (List ℕ × Definition)). IsDefinition macros d a) (one_defined word x.0 y.0 x.1 y.1) x.2) y.2
  one_word macros (Undef word) a b x y = x.2 ∙ (ap undefines_or_not (one_undefined word x.0 y.0 x.1 y.1) ∙ sym y.2)

  one_named : (macros : Macros) (tokens : List Token) (header : Option Header) (a b : Answer) → IsNamed macros tokens header a → IsNamed macros tokens header b → a ≡ b
  one_named macros tokens (Some h) a b x y = x ∙ sym y
  one_named macros tokens None a b x y =
      one_replaced macros mode.Plain tokens (λ out said. said ≡ named_or_not (header_of out)) a b (λ out p q. p ∙ sym q) x y

  one_answer : (language : Language) (macros : Macros) (question : Question) (a b : Answer)
      → IsAnswered language macros question a → IsAnswered language macros question b → a ≡ b
  one_answer language macros Nothing a b x y = x ∙ sym y
  one_answer language macros (Word op) a b x y = one_word macros op a b x y
  one_answer language macros (Defining tokens) a b x y = one_definition macros (defines tokens) a b x y
  one_answer language macros (Undefining tokens) a b x y = x ∙ sym y
  one_answer language macros (Truth tokens) a b x y = one_replaced macros mode.Condition tokens (IsTruth language) a b (one_truth language a b) x y
  one_answer language macros (Named tokens) a b x y = one_named macros tokens (header_of tokens) a b x y

  one_end : (files : Files) (command : Command) (a b : Outcome) (s : State) → Leads files command a s → Leads files command b s → a ≡ b
  one_end files command a b s (over h e) (over k f) = sym e ∙ f
  one_end files command a b s (over h e) (goes k answer says more) = absurd cc
  one_end files command a b s (goes h answer says more) (over k f) = absurd cc
  one_end files command a b s (goes h answer says more) (goes k reply tells rest) =
      one_end files command a b (stepped files command answer s) more
      (subst (λ (x : Answer). Leads files command b (stepped files command x s)) (one_answer command.language s.macros (question s) reply answer tells says) rest)

  pub one_outcome : (files : Files) (command : Command) (a b : Outcome) → IsPass files command a → IsPass files command b → a ≡ b
  one_outcome files command a b x y = one_end files command a b (start files command) x y
