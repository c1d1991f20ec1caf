-- A stack in a vector, whose last item is the first of the list that it stands for.
use Rattle.std.proofs.Common.{◌≡◌, ℕ, Bool, List, [], ◌∷◌, ◌++◌, length, take, get_or, sym, ap, ◌∙◌, arith, length-set}
use Rattle.std.specs.Prelude.{reverse}
use Prim.Native.Nat.{suc}
use Rattle.std.proofs.Math.ListN.{set}
use Rattle.std.proofs.Math.Seq.{take-suc, take-suc-set}
use Rattle.std.proofs.lemmas.List.{take_all, reverse-append}
use Rattle.cb_pass.specs.declared.section.Section.{Section}
use Rattle.cb_pass.specs.Sections.{continued, turned, section_continued, section_turned}

pub reversed : {X : Type 0} (xs ys : List X) (y : X) → xs ≡ ys ++ (y ∷ []) → reverse xs ≡ y ∷ reverse ys
reversed xs ys y e = ap reverse e ∙ reverse-append ys (y ∷ [])

reverse-last : {X : Type 0} (xs : List X) (last : ℕ) (d : X) → suc last ≡ length xs → reverse xs ≡ get_or xs last d ∷ reverse (take last xs)
reverse-last xs last d e =
    reversed xs (take last xs) (get_or xs last d)
    (sym (take_all (suc last) xs (omega arith)) ∙ take-suc xs last d (omega arith))

reverse-set_last : {X : Type 0} (xs : List X) (last : ℕ) (v : X) → suc last ≡ length xs → reverse (set xs last v) ≡ v ∷ reverse (take last xs)
reverse-set_last {X} xs last v e =
    reversed (set xs last v) (take last xs) v
    (sym (take_all (suc last) (set xs last v) (omega (arith, length-set {A = X}))) ∙ take-suc-set xs last v (omega arith))

pub turned_last : (xs : List Section) (last : ℕ) (d : Section) → suc last ≡ length xs → reverse (set xs last (section_turned (get_or xs last d))) ≡ turned (reverse xs)
turned_last xs last d e =
    reverse-set_last xs last (section_turned (get_or xs last d)) e ∙ sym (ap turned (reverse-last xs last d e))

pub continued_last : (condition : Bool) (xs : List Section) (last : ℕ) (d : Section) → suc last ≡ length xs → reverse (set xs last (section_continued condition (get_or xs last d))) ≡ continued condition (reverse xs)
continued_last condition xs last d e =
    reverse-set_last xs last (section_continued condition (get_or xs last d)) e ∙ sym (ap (continued condition) (reverse-last xs last d e))
