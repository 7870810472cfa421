-- The packets of a text.
use Rattle.std.specs.Prelude.{ℕ, zero, suc, ◌+◌, ◌-◌, ◌*◌, Bool, not, ◌&&◌, ◌||◌, ◌==◌, nat_lt, if◌then◌else◌, List, [], ◌∷◌, length, take, drop, slice_range, Option, Some, None}
use Rattle.gx_soup.specs.{declared.packet.{SoupFault.{SoupFault, TheVariants.{ZeroLength, UnknownType, BadLogin}}, LoginRequest.LoginRequest, ClientPacket.{ClientPacket, TheVariants.{Login, Data, Heartbeat, Logout, Debug}}}, Standard.{login_request, unsequenced_data, client_heartbeat, logout_request, debug, login_length}, Login.number_of}

-- what stands first in a text: less than a packet, a fault, or a packet and how many bytes it takes
pub data Front : Type 0 where
  Short : Front
  Faulty : SoupFault → Front
  Whole : ClientPacket → ℕ → Front

-- a type that a client sends
abbrev pub is_client_type : ℕ → Bool
is_client_type kind = kind == login_request || kind == unsequenced_data || kind == client_heartbeat || kind == logout_request || kind == debug

-- the fields of a Login Request: Username 6, Password 10, Requested Session 10, and the number, which is read already
abbrev pub login_of : List ℕ → ℕ → LoginRequest
login_of payload wanted = record {
  user = record { bytes = slice_range payload 0 6 };
  password = record { bytes = slice_range payload 6 16 };
  session = record { bytes = slice_range payload 16 26 };
  wanted = wanted;
}

-- a whole Login Request: its number stands in its last 20 bytes, and has to be one
abbrev pub login_front : List ℕ → Option ℕ → Front
login_front payload None = Faulty BadLogin
login_front payload (Some wanted) = Whole (Login (login_of payload wanted)) (login_length + 2)

-- the packet of another type
abbrev pub plain_packet : ℕ → List ℕ → ClientPacket
plain_packet kind payload =
    if kind == unsequenced_data then Data payload
    else (if kind == client_heartbeat then Heartbeat
    else (if kind == logout_request then Logout
    else Debug))

-- all bytes of the packet are there
abbrev pub whole_front : ℕ → List ℕ → Front
whole_front kind payload =
    if kind == login_request then login_front payload (number_of (slice_range payload 26 46))
    else Whole (plain_packet kind payload) (length payload + 3)

-- behind a length that is not 0: the type is told first, then the length of a Login Request, then that the packet is whole
abbrev pub typed_front : ℕ → List ℕ → Front
typed_front count [] = Short
typed_front count (kind ∷ body) =
    if not (is_client_type kind) then Faulty UnknownType
    else (if kind == login_request && not (count == login_length) then Faulty BadLogin
    else (if nat_lt (length body) (count - 1) then Short
    else whole_front kind (take (count - 1) body)))

-- behind a length, which counts all that follows it
abbrev pub counted_front : ℕ → List ℕ → Front
counted_front count body = if count == 0 then Faulty ZeroLength else typed_front count body

-- what stands first in a text; a length has two bytes
unfoldable pub front : List ℕ → Front
front [] = Short
front (high ∷ []) = Short
front (high ∷ low ∷ body) = counted_front (256 * high + low) body

-- packets in order, the fault after them, and what is left over; behind a fault nothing is left
pub record Soup : Type 0 where
  pub packets : List ClientPacket
  pub fault : Option SoupFault
  pub rest : List ℕ

-- a packet, and then all of these
abbrev pub with_packet : ClientPacket → Soup → Soup
with_packet packet soup = record { packets = packet ∷ soup.packets; fault = soup.fault; rest = soup.rest }

-- by what stands first: a packet, and then those of what follows it
abbrev pub soup_from : (List ℕ → Soup) → List ℕ → Front → Soup
soup_from following bytes Short = record { packets = []; fault = None; rest = bytes }
soup_from following bytes (Faulty fault) = record { packets = []; fault = Some fault; rest = [] }
soup_from following bytes (Whole packet taken) = with_packet packet (following (drop taken bytes))

-- at most n packets
abbrev pub soup_within : ℕ → List ℕ → Soup
soup_within zero bytes = record { packets = []; fault = None; rest = bytes }
soup_within (suc n) bytes = soup_from (λ rest. soup_within n rest) bytes (front bytes)

-- the packets of a text: no more of them than bytes, since each has one at least
unfoldable pub packets_of : List ℕ → Soup
packets_of bytes = soup_within (length bytes) bytes
