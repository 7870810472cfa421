-- What a server's feeder has read.
use Rattle.std.specs.Prelude.{◌≡◌, ℕ, List, ◌++◌, Option}
use Rattle.gx_soup.specs.declared.packet.ServerPacket.{ServerPacket}
use Rattle.gx_client.specs.{declared.front.ServerFault.ServerFault, ServerPackets.server_packets_of}

-- what a feeder keeps: the bytes of a packet that is not whole, and the fault
pub record HeldServerBytes : Type 0 where
  pub rest : List ℕ
  pub fault : Option ServerFault

-- the feeder was fed these bytes
pub record HasReadServerBytes (feeder : HeldServerBytes) (bytes : List ℕ) : Type 0 where
  pub rest : feeder.rest ≡ (server_packets_of bytes).rest
  pub fault : feeder.fault ≡ (server_packets_of bytes).fault

-- it gave the packets that `piece` completed, and the fault of all bytes
pub record GivesServerPackets (given : List ServerPacket) (told : Option ServerFault) (feeder : HeldServerBytes) (before piece : List ℕ) : Type 0 where
  pub packets : (server_packets_of (before ++ piece)).packets ≡ (server_packets_of before).packets ++ given
  pub fault : told ≡ (server_packets_of (before ++ piece)).fault
  pub reads : HasReadServerBytes feeder (before ++ piece)
