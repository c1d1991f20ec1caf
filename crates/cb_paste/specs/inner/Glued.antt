-- What two sides of ## make, as the code holds it.
use Rattle.std.specs.Prelude.{List, [], ◌∷◌}
use Rattle.cb_paste.specs.declared.slots.Slot.{Slot}
use Rattle.cb_paste.specs.declared.joining.Glued.{Glued}
use Rattle.cb_paste.specs.declared.joining.Glued.TheVariants.{One, Two}

-- the one or the two (own)
abbrev pub glued_slots : Glued → List Slot
glued_slots (One s) = s ∷ []
glued_slots (Two s t) = s ∷ t ∷ []
