-- The bytes of a packet.
use Rattle.std.specs.Prelude.{◌≡◌, ℕ, ◌+◌, ◌≤◌, ◌<◌, ◌^◌, ◌/◌, ◌%◌, List, [], ◌∷◌, ◌++◌, length, decimal}
use Rattle.gx_units.specs.{declared.names.{LoginRejection.{LoginRejection, TheVariants.{NotAuthorized, SessionNotAvailable}}, SessionName.SessionName}, Spelling.{padded_left, trimmed_text}}
use Rattle.gx_soup.specs.{declared.packet.{LoginRequest.LoginRequest, ClientPacket.ClientPacket, ServerPacket.{ServerPacket, TheVariants.{Accepted, Rejected, Sequenced, Heartbeat, EndOfSession}}}, Standard.{login_request, unsequenced_data, client_heartbeat, logout_request, debug, login_accepted, login_rejected, sequenced_data, server_heartbeat, end_of_session, not_authorized, session_not_available, longest_payload}}

-- the length, of the type and all behind it, in two bytes; the type; what the packet carries
abbrev pub framed_packet : ℕ → List ℕ → List ℕ
framed_packet kind payload = ((length payload + 1) / 256) ∷ ((length payload + 1) % 256) ∷ kind ∷ payload

-- a number on the right of 20 bytes
abbrev pub number_field : ℕ → List ℕ
number_field number = padded_left 20 (decimal number)

-- a session on the right of 10 bytes
abbrev pub session_field : SessionName → List ℕ
session_field session = padded_left 10 (trimmed_text session.bytes)

-- the reject reason code
abbrev pub reason_code : LoginRejection → ℕ
reason_code NotAuthorized = not_authorized
reason_code SessionNotAvailable = session_not_available

-- a server's packet: Login Accepted gives the session and the number of the next report
unfoldable pub server_bytes : ServerPacket → List ℕ
server_bytes (Accepted session next) = framed_packet login_accepted (session_field session ++ number_field next)
server_bytes (Rejected why) = framed_packet login_rejected (reason_code why ∷ [])
server_bytes (Sequenced payload) = framed_packet sequenced_data payload
server_bytes Heartbeat = framed_packet server_heartbeat []
server_bytes EndOfSession = framed_packet end_of_session []

-- the length can count what the server's packet carries
abbrev pub HasRoom : ServerPacket → Type 0
HasRoom (Sequenced payload) = length payload ≤ longest_payload
HasRoom (Accepted session next) = Unit {0}
HasRoom (Rejected why) = Unit {0}
HasRoom Heartbeat = Unit {0}
HasRoom EndOfSession = Unit {0}

-- what a Login Request carries, its texts as they are
abbrev pub login_payload : LoginRequest → List ℕ
login_payload login = login.user.bytes ++ (login.password.bytes ++ (login.session.bytes ++ number_field login.wanted))

-- a client's packet; the others carry nothing
unfoldable pub client_bytes : ClientPacket → List ℕ
client_bytes (ClientPacket.Login login) = framed_packet login_request (login_payload login)
client_bytes (ClientPacket.Data payload) = framed_packet unsequenced_data payload
client_bytes ClientPacket.Heartbeat = framed_packet client_heartbeat []
client_bytes ClientPacket.Logout = framed_packet logout_request []
client_bytes ClientPacket.Debug = framed_packet debug []

-- the length can count what the client's packet carries
abbrev pub ClientHasRoom : ClientPacket → Type 0
ClientHasRoom (ClientPacket.Data payload) = length payload ≤ longest_payload
ClientHasRoom (ClientPacket.Login login) = Unit {0}
ClientHasRoom ClientPacket.Heartbeat = Unit {0}
ClientHasRoom ClientPacket.Logout = Unit {0}
ClientHasRoom ClientPacket.Debug = Unit {0}

-- the widths of a login's fields, and 64 bits for its number
abbrev pub FitsFields : LoginRequest → Type 0
FitsFields login = (length login.user.bytes ≡ 6) × (length login.password.bytes ≡ 10) × (length login.session.bytes ≡ 10) × (login.wanted < 2 ^ 64)

-- a packet as the program holds it, with room for what it carries
abbrev pub IsPacket : ClientPacket → Type 0
IsPacket (ClientPacket.Login login) = FitsFields login
IsPacket (ClientPacket.Data payload) = length payload ≤ longest_payload
IsPacket ClientPacket.Heartbeat = Unit {0}
IsPacket ClientPacket.Logout = Unit {0}
IsPacket ClientPacket.Debug = Unit {0}
