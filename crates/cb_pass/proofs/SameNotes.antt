-- Notes are compared by all their fields.
use Rattle.std.proofs.Common.{◌≡◌, ℕ, Bool, List, [], ◌∷◌, ◌++◌, refl, ap, if◌then◌else◌, bytes_eq}
use Rattle.std.specs.Prelude.{◌==◌, ◌&&◌}
use Rattle.std.specs.List.{list_any}
use Rattle.std.proofs.Math.Path.{fun_ext}
use Rattle.cb_pass.specs.declared.note.NoteKind.{NoteKind}
use Rattle.cb_pass.specs.declared.note.NoteKind.TheVariants.{Missing, BadInclude, BadDefine, Redefined, BadCondition, TooLong, TooDeep, Budget, ErrorReached, NoMain}
use Rattle.cb_pass.specs.declared.note.Note.{Note}
use Rattle.cb_pass.specs.contracts.note.NoteKindPartialEq.TheImpl as kind_impl
use Rattle.cb_pass.specs.contracts.note.NotePartialEq.TheImpl as note_impl
use Rattle.cb_pass.specs.Kinds.{note_number}
use Rattle.cb_pass.specs.Notes.{same_note, noted}

abbrev eq_kind : NoteKind → NoteKind → Bool
eq_kind a b = (kind_impl.eq-value).it a b

abbrev eq_note : Note → Note → Bool
eq_note a b = (note_impl.eq-value).it a b

same_kinds : (a b : NoteKind) → eq_kind a b ≡ (note_number a == note_number b)
same_kinds Missing b = elim b as (λ k. eq_kind Missing k ≡ (1 == note_number k)) [ Missing ↦ refl | _ ↦ refl ]
same_kinds BadInclude b = elim b as (λ k. eq_kind BadInclude k ≡ (2 == note_number k)) [ Missing ↦ refl | _ ↦ refl ]
same_kinds BadDefine b = elim b as (λ k. eq_kind BadDefine k ≡ (3 == note_number k)) [ Missing ↦ refl | _ ↦ refl ]
same_kinds Redefined b = elim b as (λ k. eq_kind Redefined k ≡ (4 == note_number k)) [ Missing ↦ refl | _ ↦ refl ]
same_kinds BadCondition b = elim b as (λ k. eq_kind BadCondition k ≡ (5 == note_number k)) [ Missing ↦ refl | _ ↦ refl ]
same_kinds TooLong b = elim b as (λ k. eq_kind TooLong k ≡ (6 == note_number k)) [ Missing ↦ refl | _ ↦ refl ]
same_kinds TooDeep b = elim b as (λ k. eq_kind TooDeep k ≡ (7 == note_number k)) [ Missing ↦ refl | _ ↦ refl ]
same_kinds Budget b = elim b as (λ k. eq_kind Budget k ≡ (8 == note_number k)) [ Missing ↦ refl | _ ↦ refl ]
same_kinds ErrorReached b = elim b as (λ k. eq_kind ErrorReached k ≡ (9 == note_number k)) [ Missing ↦ refl | _ ↦ refl ]
same_kinds NoMain b = elim b as (λ k. eq_kind NoMain k ≡ (10 == note_number k)) [ Missing ↦ refl | _ ↦ refl ]

same_notes : (a b : Note) → eq_note a b ≡ same_note a b
same_notes a b = ap (λ k. bytes_eq a.path b.path && ((a.node == b.node) && (k && bytes_eq a.detail b.detail))) (same_kinds a.kind b.kind)

pub same_noted : (note : Note) (notes : List Note) → (if list_any (eq_note note) notes then notes else notes ++ note ∷ []) ≡ noted note notes
unfolding noted
same_noted note notes = ap (λ (test : Note → Bool). (if list_any test notes then notes else notes ++ note ∷ [])) (fun_ext (same_notes note))

pub noted_as : (path p : List ℕ) (node : ℕ) (kind : NoteKind) (detail d : List ℕ) (notes others : List Note) → p ≡ path → d ≡ detail → notes ≡ others
    → noted (record { path = p; node = node; kind = kind; detail = d }) notes ≡ noted (record { path = path; node = node; kind = kind; detail = detail }) others
noted_as path p node kind detail d notes others e f g = cc
