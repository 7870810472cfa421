-- What a connection's first packets come to.
use Rattle.std.specs.{Prelude.{◌≡◌, ◌<◌, ℕ, ◌⊎◌, List, [], Option}, Io.KnownBytes.{Consumes, IsAtEnd}}
use Rattle.gx_devices.specs.Devices.{one_more}
use Rattle.gx_soup.specs.{declared.packet.{ClientPacket.ClientPacket, SoupFault.SoupFault}, Feeding.Held, Packets.packets_of}
use Rattle.gx_reception.specs.{declared.opening.Knock.Knock, Openings.{from_first, IsBrokenAtFirst, IsIdle, IsOpening, IsOther}}

-- what packets come to that are not idle, with the fault behind them, and what has read them
abbrev pub IsKnock : List ClientPacket → Option SoupFault → Held → Knock → Type 0
IsKnock packets fault feeder (Knock.Login opening) = (opening.packets ≡ packets) × (opening.fault ≡ fault) × (opening.feeder ≡ feeder)
IsKnock packets fault feeder Knock.Other = IsOther packets
IsKnock packets fault feeder (Knock.Broken found) = ⊥
IsKnock packets fault feeder Knock.Refused = ⊥
IsKnock packets fault feeder Knock.Ended = ⊥

-- what these bytes come to, where the input may have ended behind them
abbrev pub ComesTo : List ℕ → Type 0 → Knock → Type 0
ComesTo bytes Ended (Knock.Login opening) = IsOpening bytes opening
ComesTo bytes Ended Knock.Other = IsOther (from_first (packets_of bytes).packets)
ComesTo bytes Ended (Knock.Broken fault) = IsBrokenAtFirst bytes fault
ComesTo bytes Ended Knock.Refused = Unit {0}
ComesTo bytes Ended Knock.Ended = IsIdle bytes × Ended

-- the bytes that were read of a connection come to this; it was read no further
pub record Knocks (input left : Option (List ℕ)) (failed : ℕ) (k : Knock) : Type 0 where
  pub bytes : List ℕ
  pub consumed : Consumes input left bytes
  pub comes : ComesTo bytes (IsAtEnd left ⊎ (0 < failed)) k

-- the input has ended, or a call of its reader has failed; no byte of it was taken
abbrev pub HasEnded : Option (List ℕ) → Option (List ℕ) → ℕ → ℕ → Type 0
HasEnded was is failed failed' = Consumes was is [] × (IsAtEnd is ⊎ (failed' ≡ one_more failed))
