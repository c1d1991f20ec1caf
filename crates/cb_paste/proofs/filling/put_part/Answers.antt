use Rattle.cb_paste.proofs.filling.put_part.Goals as goal

pub put-requires-clause-new : goal.put-requires-clause-new
put-requires-clause-new c = c.own_slot-slot.ensures.within _

pub put-requires-in-Quoted-clause-new : goal.put-requires-in-Quoted-clause-new
put-requires-in-Quoted-clause-new c = c.own_slot-slot-in-Quoted.ensures.within _
