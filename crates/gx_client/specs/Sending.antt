-- What a client's packets carry.
use Rattle.std.specs.Prelude.{◌≡◌, ℕ, ◌≤◌, List, length, Some}
use Rattle.gx_ouch.specs.{declared.inbound.Inbound.Inbound, Reading.inbound_of}
use Rattle.gx_soup.specs.{declared.packet.ClientPacket.TheVariants.Data, Standard.longest_payload, Writing.client_bytes}
use Rattle.gx_desk.specs.{declared.Command.Command, Reading.command_of}

-- one packet of Unsequenced Data, in which this command is read
pub record CarriesCommand (bytes : List ℕ) (command : Command) : Type 0 where
  pub message : List ℕ
  pub packet : bytes ≡ client_bytes (Data message)
  pub within : length message ≤ longest_payload
  pub read : command_of message ≡ Some command

-- one packet of Unsequenced Data, in which this message of a trader is read
pub record CarriesInbound (bytes : List ℕ) (order : Inbound) : Type 0 where
  pub message : List ℕ
  pub packet : bytes ≡ client_bytes (Data message)
  pub within : length message ≤ longest_payload
  pub read : inbound_of message ≡ Some order
