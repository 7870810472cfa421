-- What becomes of a packet.
use Rattle.std.specs.Prelude.{ℕ, ◌≡◌, None, Some}
use Rattle.gx_soup.specs.declared.packet.ClientPacket.{ClientPacket}
use Rattle.gx_session.specs.Happenings as happens
use Rattle.gx_serve.specs.{Conducts.{ConductData, WasJudged}, declared.state.taking.Taken.{Taken}}

-- the session was told of the packet, or that it ends
abbrev pub IsTakenIn : ClientPacket → Taken → Type 0
IsTakenIn packet (Taken.Packet taken) = taken.event ≡ happens.Packet packet
IsTakenIn packet (Taken.Excluded why told) = told ≡ happens.Fault

-- of somebody of this conduct, where there were so many records at least: he was put out for what puts him out, or for nothing
abbrev pub IsTakenByConduct : ConductData → ℕ → Taken → Type 0
IsTakenByConduct conduct count (Taken.Packet taken) = WasJudged conduct count None
IsTakenByConduct conduct count (Taken.Excluded why told) = WasJudged conduct count (Some why)
