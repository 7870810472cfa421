use Rattle.gx_slab.proofs.EndedOrders_swept.{AreNoted}
use Rattle.gx_slab.proofs.places.note_all.Given as goal

-- those before have been noted
abbrev pub invariant-loop-place : goal.invariant-loop-place
invariant-loop-place l = AreNoted l.initial.places.items l.fn.rows l.place l.places.items
