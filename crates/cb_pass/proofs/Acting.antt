-- What a directive does, from its parts.
use Rattle.std.proofs.Common.{◌≡◌, ℕ, Bool, false, List, refl, sym, ap, subst}
use Rattle.std.specs.Prelude.{Option, Some, None, Result, Ok, Err, IfOk, OnOk, MatchResult}
use Rattle.cb_paths.specs.declared.language.Language.{Language}
use Rattle.cb_tokens.specs.declared.token.Token.{Token}
use Rattle.cb_tree.specs.declared.node.NodeKind.{NodeKind}
use Rattle.cb_macro.specs.declared.define.Defined.{Defined}
use Rattle.cb_macro.specs.declared.fault.DefineFault.{DefineFault}
use Rattle.cb_macro.specs.declared.fault.DefineFault.TheVariants as fault
use Rattle.cb_macro.specs.Definitions.{Definition}
use Rattle.cb_macro.specs.Maps.{found, IsChange}
use Rattle.cb_macro.specs.Words.{WordDefines, WordUndefines}
use Rattle.cb_include.specs.declared.op.Op.{Op}
use Rattle.cb_include.specs.declared.op.Op.TheVariants as op_kind
use Rattle.cb_pass.specs.declared.effect.Effect.{Effect}
use Rattle.cb_pass.specs.Notes.{Place}
use Rattle.cb_pass.specs.Answers.{Answer, Defines, Wordless, IsDefinition, IsWord, undefines_or_not}
use Rattle.cb_pass.specs.States.{State}
use Rattle.cb_pass.specs.Steps.{answered, word_of}
use Rattle.cb_pass.specs.inner.Memos.{Memo, with_memo}
use Rattle.cb_pass.specs.inner.Moves.{HasEffect}

pub each : {A E : Type 0} (r : Result A E) (P Q : A → Type 0) → IfOk r P → ((x : A) → P x → Q x) → IfOk r Q
each (Ok x) P Q h f = f x h
each (Err e) P Q h f = tt

pub each_ok : {A E : Type 0} (r : Result A E) (P Q : Type 0) → OnOk r P → (P → Q) → OnOk r Q
each_ok (Ok x) P Q h f = f h
each_ok (Err e) P Q h f = tt

-- what a directive of a kind does in every language
pub at_kind : {E : Type 0} (r : Result Effect E) (language : Language) (kind k : NodeKind) (place : Place) (rest : List Token) (old new : Memo) → kind ≡ k
    → IfOk r (λ e. (l : Language) → HasEffect l k place rest old new e.condition e.header)
    → IfOk r (λ e. HasEffect language kind place rest old new e.condition e.header)
at_kind (Ok e) language kind k place rest old new same h =
    subst (λ (x : NodeKind). HasEffect language x place rest old new e.condition e.header) (sym same) (h language)
at_kind (Err x) language kind k place rest old new same h = tt

-- what it does in one
pub in_language : {E : Type 0} (r : Result Effect E) (language : Language) (kind k : NodeKind) (place : Place) (rest : List Token) (old new : Memo) → kind ≡ k
    → IfOk r (λ e. HasEffect language k place rest old new e.condition e.header)
    → IfOk r (λ e. HasEffect language kind place rest old new e.condition e.header)
in_language (Ok e) language kind k place rest old new same h =
    subst (λ (x : NodeKind). HasEffect language x place rest old new e.condition e.header) (sym same) h
in_language (Err x) language kind k place rest old new same h = tt

-- a node that does nothing
pub inert : (language : Language) (kind k : NodeKind) (place : Place) (rest : List Token) (memo : Memo) (e : Effect) → kind ≡ k
    → HasEffect language k place rest memo memo false None
    → (let nothing : Effect = record { condition = false; header = None } in e ≡ nothing)
    → HasEffect language kind place rest memo memo e.condition e.header
inert language kind k place rest memo e same h is_nothing =
    subst (λ (x : NodeKind). HasEffect language x place rest memo memo e.condition e.header) (sym same)
    (subst (λ (x : Effect). HasEffect language k place rest memo memo x.condition x.header) (sym is_nothing) h)

-- a definition that was read, or none
pub taken : (W : Option (List ℕ × Definition) → Type 0) (read : Result Defined DefineFault) (place : Place) (word : List ℕ) (old new : Memo)
    → IfOk read (λ d. W (Some (d.name, d.body))) → (read ≡ Err fault.Bad → W None)
    → MatchResult read
    (λ d. (different : Bool) × IsChange (found old.macros d.name) d.body different
    × ((s : State) → with_memo new s ≡ answered place word (Defines d.name d.body different) (with_memo old s)))
    (λ f. (f ≡ fault.Bad) × ((s : State) → with_memo new s ≡ answered place word Wordless (with_memo old s)))
    → (x : Answer) × ((d : Option (List ℕ × Definition)) × W d × IsDefinition old.macros d x)
    × ((s : State) → with_memo new s ≡ answered place word x (with_memo old s))
taken W (Ok d) place word old new good bad h = (Defines d.name d.body h.0, (Some (d.name, d.body), good, (h.0, h.1, refl)), h.2)
taken W (Err f) place word old new good bad h = (Wordless, (None, bad (ap Err h.0), refl), h.1)

-- a word of -D
pub word_taken : (op : Op) (word a b : List ℕ) (read : Result Defined DefineFault) (place : Place) (old new : Memo) → op ≡ op_kind.Define word → a ≡ word → b ≡ word
    → IfOk read (λ d. WordDefines a (Some (d.name, d.body))) → (read ≡ Err fault.Bad → WordDefines a None)
    → MatchResult read
    (λ d. (different : Bool) × IsChange (found old.macros d.name) d.body different
    × ((s : State) → with_memo new s ≡ answered place b (Defines d.name d.body different) (with_memo old s)))
    (λ f. (f ≡ fault.Bad) × ((s : State) → with_memo new s ≡ answered place b Wordless (with_memo old s)))
    → (x : Answer) × IsWord old.macros op x × ((s : State) → with_memo new s ≡ answered place (word_of op) x (with_memo old s))
word_taken op word a b read place old new e f g good bad h =
    subst (λ (o : Op). (x : Answer) × IsWord old.macros o x × ((s : State) → with_memo new s ≡ answered place (word_of o) x (with_memo old s))) (sym e)
    (subst (λ (w : List ℕ). (x : Answer) × IsWord old.macros (op_kind.Define word) x × ((s : State) → with_memo new s ≡ answered place w x (with_memo old s))) g
    (subst (λ (w : List ℕ). (x : Answer) × IsWord old.macros (op_kind.Define w) x × ((s : State) → with_memo new s ≡ answered place b x (with_memo old s))) f
    (taken (WordDefines a) read place b old new good bad h)))

-- a word of -U
pub word_undone : (op : Op) (word a b : List ℕ) (name got : Option (List ℕ)) (place : Place) (old new : Memo) → op ≡ op_kind.Undef word → a ≡ word → b ≡ word
    → WordUndefines a name → got ≡ name → ((s : State) → with_memo new s ≡ answered place b (undefines_or_not got) (with_memo old s))
    → (x : Answer) × IsWord old.macros op x × ((s : State) → with_memo new s ≡ answered place (word_of op) x (with_memo old s))
word_undone op word a b name got place old new e f g w k h =
    subst (λ (o : Op). (x : Answer) × IsWord old.macros o x × ((s : State) → with_memo new s ≡ answered place (word_of o) x (with_memo old s))) (sym e)
    (subst (λ (v : List ℕ). (x : Answer) × IsWord old.macros (op_kind.Undef word) x × ((s : State) → with_memo new s ≡ answered place v x (with_memo old s))) g
    (subst (λ (v : List ℕ). (x : Answer) × IsWord old.macros (op_kind.Undef v) x × ((s : State) → with_memo new s ≡ answered place b x (with_memo old s))) f
    (undefines_or_not got, (got, subst (λ (o : Option (List ℕ)). WordUndefines a o) (sym k) w, refl), h)))
