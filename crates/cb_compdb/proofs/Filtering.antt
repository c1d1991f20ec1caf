-- What options give, one effect after the other.
use Rattle.std.proofs.Common.{◌≡◌, ◌∙◌, ℕ, List, [], ◌∷◌, ◌++◌, Option, sym, ap, append_assoc}
use Rattle.std.specs.List.{filter_map}
use Rattle.std.proofs.lemmas.List.{append-nil}
use Rattle.std.proofs.lemmas.List.Elements.{filter_map-append}
use Rattle.cb_include.specs.declared.op.Op.{Op}
use Rattle.cb_compdb.specs.Options.{Effect}
use Rattle.cb_compdb.specs.Commands.{op_by, text_for, folder_for, ops_of, folders_of, texts_of}
use Rattle.cb_compdb.specs.declared.form.OptionKind.{OptionKind}

-- one effect more
filter_map-more : {X : Type 0} (f : Effect → Option X) (whole before now : List X) (effects : List Effect) (effect : Effect) (rest : List Effect)
    → whole ≡ before ++ filter_map f effects → effects ≡ effect ∷ rest → now ≡ before ++ filter_map f (effect ∷ [])
    → whole ≡ now ++ filter_map f rest
filter_map-more f whole before now effects effect rest h e n =
    h ∙ ap (λ es. before ++ filter_map f es) e ∙ ap (λ xs. before ++ xs) (filter_map-append f (effect ∷ []) rest)
    ∙ sym (append_assoc before (filter_map f (effect ∷ [])) (filter_map f rest)) ∙ ap (λ xs. xs ++ filter_map f rest) (sym n)

-- and none
filter_map-end : {X : Type 0} (f : Effect → Option X) (whole now : List X) (effects : List Effect) → whole ≡ now ++ filter_map f effects
    → effects ≡ [] → now ≡ whole
filter_map-end f whole now effects h e = sym (h ∙ ap (λ es. now ++ filter_map f es) e ∙ append-nil now)

pub ops_more : (whole before now : List Op) (effects : List Effect) (effect : Effect) (rest : List Effect) → whole ≡ before ++ ops_of effects
    → effects ≡ effect ∷ rest → now ≡ before ++ ops_of (effect ∷ []) → whole ≡ now ++ ops_of rest
unfolding ops_of
ops_more = filter_map-more (λ effect. op_by effect.0 effect.1)

pub ops_end : (whole now : List Op) (effects : List Effect) → whole ≡ now ++ ops_of effects → effects ≡ [] → now ≡ whole
unfolding ops_of
ops_end = filter_map-end (λ effect. op_by effect.0 effect.1)

pub folders_more : (kind : OptionKind) (work : List ℕ) (whole before now : List (List ℕ)) (effects : List Effect) (effect : Effect) (rest : List Effect)
    → whole ≡ before ++ folders_of kind work effects → effects ≡ effect ∷ rest → now ≡ before ++ folders_of kind work (effect ∷ [])
    → whole ≡ now ++ folders_of kind work rest
unfolding folders_of
folders_more kind work = filter_map-more (folder_for kind work)

pub folders_end : (kind : OptionKind) (work : List ℕ) (whole now : List (List ℕ)) (effects : List Effect)
    → whole ≡ now ++ folders_of kind work effects → effects ≡ [] → now ≡ whole
unfolding folders_of
folders_end kind work = filter_map-end (folder_for kind work)

pub texts_more : (kind : OptionKind) (whole before now : List (List ℕ)) (effects : List Effect) (effect : Effect) (rest : List Effect)
    → whole ≡ before ++ texts_of kind effects → effects ≡ effect ∷ rest → now ≡ before ++ texts_of kind (effect ∷ [])
    → whole ≡ now ++ texts_of kind rest
unfolding texts_of
texts_more kind = filter_map-more (text_for kind)

pub texts_end : (kind : OptionKind) (whole now : List (List ℕ)) (effects : List Effect) → whole ≡ now ++ texts_of kind effects → effects ≡ []
    → now ≡ whole
unfolding texts_of
texts_end kind = filter_map-end (text_for kind)
