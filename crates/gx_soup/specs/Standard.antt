-- The letters and lengths of SoupBinTCP.
use Rattle.std.specs.Prelude.{ℕ}

-- Login Request, `L`
abbrev pub login_request : ℕ
login_request = 76

-- Unsequenced Data, `U`
abbrev pub unsequenced_data : ℕ
unsequenced_data = 85

-- Client Heartbeat, `R`
abbrev pub client_heartbeat : ℕ
client_heartbeat = 82

-- Logout Request, `O`
abbrev pub logout_request : ℕ
logout_request = 79

-- Debug, `+`
abbrev pub debug : ℕ
debug = 43

-- Login Accepted, `A`
abbrev pub login_accepted : ℕ
login_accepted = 65

-- Login Rejected, `J`
abbrev pub login_rejected : ℕ
login_rejected = 74

-- Sequenced Data, `S`
abbrev pub sequenced_data : ℕ
sequenced_data = 83

-- Server Heartbeat, `H`
abbrev pub server_heartbeat : ℕ
server_heartbeat = 72

-- End of Session, `Z`
abbrev pub end_of_session : ℕ
end_of_session = 90

-- the reject reason codes of a Login Rejected: not authorized, `A`, and session not available, `S`
abbrev pub not_authorized : ℕ
not_authorized = 65

abbrev pub session_not_available : ℕ
session_not_available = 83

-- the length that a Login Request gives: of its type, and of 46 bytes behind it
abbrev pub login_length : ℕ
login_length = 47

-- the most bytes behind a type: a length is at most 65,535, and counts the type
abbrev pub longest_payload : ℕ
longest_payload = 65534

-- the bytes of the longest packet, its length's two included
abbrev pub longest_packet : ℕ
longest_packet = 65537
