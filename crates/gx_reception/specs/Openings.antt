-- What a connection begins with.
use Rattle.std.specs.Prelude.{◌≡◌, ◌≢◌, ℕ, Bool, true, false, List, [], ◌∷◌, Option, Some, None, if◌then◌else◌}
use Rattle.gx_soup.specs.{declared.packet.{ClientPacket.ClientPacket, LoginRequest.LoginRequest, SoupFault.SoupFault}, Feeding.{Held, HasRead}, Packets.packets_of}

-- a packet that leaves each session as it is
abbrev pub is_idle : ClientPacket → Bool
is_idle (ClientPacket.Login login) = false
is_idle (ClientPacket.Data payload) = false
is_idle ClientPacket.Logout = false
is_idle ClientPacket.Heartbeat = true
is_idle ClientPacket.Debug = true

-- the packets from the first on that is another one
abbrev pub from_first : List ClientPacket → List ClientPacket
from_first [] = []
from_first (p ∷ packets) = if is_idle p then from_first packets else p ∷ packets

-- a connection whose first other packet is a login: the packets from it on, what is wrong behind them, and what has read
-- them
pub record OpeningData : Type 0 where
  pub login : LoginRequest
  pub packets : List ClientPacket
  pub fault : Option SoupFault
  pub feeder : Held

-- these bytes come to the packets, and the feeder has read them
pub record IsOpening (bytes : List ℕ) (o : OpeningData) : Type 0 where
  pub packets : from_first (packets_of bytes).packets ≡ o.packets
  pub fault : (packets_of bytes).fault ≡ o.fault
  pub reads : HasRead o.feeder bytes

-- the first of these packets is no login
pub record IsOther (packets : List ClientPacket) : Type 0 where
  pub first : ClientPacket
  pub behind : List ClientPacket
  pub split : packets ≡ first ∷ behind
  pub other : (login : LoginRequest) → first ≢ ClientPacket.Login login

-- these bytes have no other packet, and no fault
pub record IsIdle (bytes : List ℕ) : Type 0 where
  pub packets : from_first (packets_of bytes).packets ≡ []
  pub fault : (packets_of bytes).fault ≡ None

-- these bytes have no other packet, and then this fault
pub record IsBrokenAtFirst (bytes : List ℕ) (found : SoupFault) : Type 0 where
  pub packets : from_first (packets_of bytes).packets ≡ []
  pub fault : (packets_of bytes).fault ≡ Some found
