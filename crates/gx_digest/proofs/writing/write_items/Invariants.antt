use Rattle.std.proofs.Common.{take}
use Rattle.gx_digest.specs.{Hashing.TakesIn, PolicyText.items_text}
use Rattle.gx_digest.proofs.writing.write_items.Given as goal

abbrev pub invariant-loop-item : goal.invariant-loop-item
invariant-loop-item g l = TakesIn l.initial.hasher l.hasher (items_text g.T.Written.text (take l.item-index l.items))
