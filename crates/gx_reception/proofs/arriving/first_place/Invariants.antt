use Rattle.std.proofs.Common.{◌≡◌, drop}
use Rattle.gx_reception.specs.Openings.{from_first}
use Rattle.gx_reception.proofs.arriving.first_place.Given as goal

-- all before are idle
abbrev pub invariant-loop-at : goal.invariant-loop-at
invariant-loop-at l = from_first (drop l.at l.fn.packets) ≡ from_first l.fn.packets
