-- The packets of a server's text.
use Rattle.std.specs.{Prelude.{◌≡◌, ℕ, zero, suc, ◌+◌, ◌-◌, ◌*◌, ◌<◌, ◌≤◌, ◌^◌, Bool, true, not, ◌||◌, ◌==◌, nat_lt, if◌then◌else◌, List, [], ◌∷◌, ◌++◌, length, take, drop, slice_index, slice_range, Option, Some, None}, Option.option_to_list}
use Rattle.gx_units.specs.{declared.names.LoginRejection.{LoginRejection, TheVariants.{NotAuthorized, SessionNotAvailable}}, Spelling.folded_session}
use Rattle.gx_soup.specs.{declared.packet.ServerPacket.{ServerPacket, TheVariants.{Accepted, Rejected, Sequenced, Heartbeat, EndOfSession}}, Standard.{login_accepted, login_rejected, sequenced_data, server_heartbeat, end_of_session, debug, unsequenced_data, not_authorized, session_not_available, longest_payload}, Login.number_of}
use Rattle.gx_client.specs.declared.front.{ServerFault.{ServerFault, TheVariants.{ZeroLength, UnknownType, WrongLength, BadAnswer}}, ServerFront.{ServerFront, TheVariants.{Short, Faulty, Whole}}}

-- a type that a server sends
abbrev pub is_server_type : ℕ → Bool
is_server_type kind =
    kind == login_accepted || kind == login_rejected || kind == sequenced_data || kind == server_heartbeat
    || kind == end_of_session || kind == debug || kind == unsequenced_data

-- the length that a packet of the type gives, of its type and of all behind it; any, where it carries a text
abbrev pub has_its_length : ℕ → ℕ → Bool
has_its_length kind count =
    if kind == login_accepted then count == 31
    else (if kind == login_rejected then count == 2
    else (if kind == server_heartbeat || kind == end_of_session then count == 1
    else true))

-- the reason of a Login Rejected
abbrev pub rejection_of : ℕ → Option LoginRejection
rejection_of code =
    if code == not_authorized then Some NotAuthorized
    else (if code == session_not_available then Some SessionNotAvailable
    else None)

-- a whole Login Accepted: the session in 10 bytes, and the number in 20, which has to be one
abbrev pub accepted_front : List ℕ → Option ℕ → ServerFront
accepted_front payload None = Faulty BadAnswer
accepted_front payload (Some next) =
    Whole (Some (Accepted (folded_session (record { bytes = slice_range payload 0 10 })) next)) (length payload + 3)

-- a whole Login Rejected
abbrev pub rejected_front : List ℕ → Option LoginRejection → ServerFront
rejected_front payload None = Faulty BadAnswer
rejected_front payload (Some why) = Whole (Some (Rejected why)) (length payload + 3)

-- the packet of another type; Debug and Unsequenced Data are passed over
abbrev pub plain_server_packet : ℕ → List ℕ → Option ServerPacket
plain_server_packet kind payload =
    if kind == sequenced_data then Some (Sequenced payload)
    else (if kind == server_heartbeat then Some Heartbeat
    else (if kind == end_of_session then Some EndOfSession
    else None))

-- all bytes of the packet are there
abbrev pub server_whole_front : ℕ → List ℕ → ServerFront
server_whole_front kind payload =
    if kind == login_accepted then accepted_front payload (number_of (slice_range payload 10 30))
    else (if kind == login_rejected then rejected_front payload (rejection_of (slice_index payload 0))
    else Whole (plain_server_packet kind payload) (length payload + 3))

-- behind a length that is not 0: the type is told first, then its length, then that the packet is whole
abbrev pub server_typed_front : ℕ → List ℕ → ServerFront
server_typed_front count [] = Short
server_typed_front count (kind ∷ body) =
    if not (is_server_type kind) then Faulty UnknownType
    else (if not (has_its_length kind count) then Faulty WrongLength
    else (if nat_lt (length body) (count - 1) then Short
    else server_whole_front kind (take (count - 1) body)))

-- behind a length, which counts all that follows it
abbrev pub server_counted_front : ℕ → List ℕ → ServerFront
server_counted_front count body = if count == 0 then Faulty ZeroLength else server_typed_front count body

-- what stands first in a server's text: less than a packet, a fault, or a packet and how many bytes it takes
unfoldable pub server_front : List ℕ → ServerFront
server_front [] = Short
server_front (high ∷ []) = Short
server_front (high ∷ low ∷ body) = server_counted_front (256 * high + low) body

-- packets in order, the fault after them, and what is left over; behind a fault nothing is left
pub record ServerSoup : Type 0 where
  pub packets : List ServerPacket
  pub fault : Option ServerFault
  pub rest : List ℕ

-- packets, and then all of these
abbrev pub packets_behind : List ServerPacket → ServerSoup → ServerSoup
packets_behind packets soup = record { packets = packets ++ soup.packets; fault = soup.fault; rest = soup.rest }

-- by what stands first: a packet, if it is not passed over, and then those of what follows it
abbrev pub server_soup_from : (List ℕ → ServerSoup) → List ℕ → ServerFront → ServerSoup
server_soup_from following bytes Short = record { packets = []; fault = None; rest = bytes }
server_soup_from following bytes (Faulty fault) = record { packets = []; fault = Some fault; rest = [] }
server_soup_from following bytes (Whole packet taken) = packets_behind (option_to_list packet) (following (drop taken bytes))

-- at most n packets
abbrev pub server_soup_within : ℕ → List ℕ → ServerSoup
server_soup_within zero bytes = record { packets = []; fault = None; rest = bytes }
server_soup_within (suc n) bytes = server_soup_from (λ rest. server_soup_within n rest) bytes (server_front bytes)

-- the packets of a server's text: no more of them than bytes, since each has one at least
unfoldable pub server_packets_of : List ℕ → ServerSoup
server_packets_of bytes = server_soup_within (length bytes) bytes

-- a packet as a server holds it: a session's name stands on the left of its field, and a length counts what is carried
abbrev pub IsServerPacket : ServerPacket → Type 0
IsServerPacket (Accepted session next) =
    (length session.bytes ≡ 10) × (folded_session session ≡ session) × (next < 2 ^ 64)
IsServerPacket (Rejected why) = Unit {0}
IsServerPacket (Sequenced payload) = length payload ≤ longest_payload
IsServerPacket Heartbeat = Unit {0}
IsServerPacket EndOfSession = Unit {0}
