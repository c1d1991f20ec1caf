-- The part stands in front of those that are noted.
use Rattle.std.proofs.Common.{◌+◌, ◌∙◌, sym, drop}
use Rattle.std.proofs.lemmas.List.{drop_more}
use Rattle.cb_macro.proofs.UseLemmas.{use-fixed, noted-parameter, noted-quoted}
use Rattle.cb_macro.proofs.uses.note_part.Goals as goal

pub returns-in-Fixed : goal.returns-in-Fixed
returns-in-Fixed c = λ noted i other h.
    rw (drop_more c.args.parts.now c.args.at c.index-parts-at.result c.requires, ← c.index-parts-at.is)
    (noted i other h ∙ sym (use-fixed i c.index-parts-at.result (drop (c.args.at + 1) c.args.parts.now) c.in-Fixed.field-0 c.in-Fixed.field-1 c.in-Fixed.is))

pub returns-in-Parameter : goal.returns-in-Parameter
returns-in-Parameter c =
    noted-parameter c.args.uses.now c.note_use.new.uses c.args.parts.now c.args.at c.in-Parameter.place c.index-parts-at.result c.stands_beside.result
    c.requires c.index-parts-at.is c.in-Parameter.is (c.stands_beside.ensures c.index-parts-at.result) c.note_use.ensures c.note_use.auto.uses

pub returns-in-Quoted : goal.returns-in-Quoted
returns-in-Quoted c =
    noted-quoted c.args.uses.now c.note_use-in-Quoted.new.uses c.args.parts.now c.args.at c.in-Quoted.place c.index-parts-at.result
    c.requires c.index-parts-at.is c.in-Quoted.is c.note_use-in-Quoted.ensures c.note_use-in-Quoted.auto.uses
