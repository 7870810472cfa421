-- Which hosts a request may name: those that are the machine itself.
use Rattle.std.specs.{Prelude.{ℕ, ◌==◌, ◌&&◌, ◌||◌, Bool, true, false, List, [], ◌∷◌, length, take, drop, position, Option, Some, None, unwrap_or, if◌then◌else◌, nat_lt, codes, slice_index}, List.list_all, Char.is_ascii_digit, Net.Reader.read_ipv4}
use Rattle.http1.specs.Text.{eq_ignore_case}
use Rattle.gx_http.specs.Credentials.{is_colon}

-- what may stand behind a host: nothing, or a colon and digits
abbrev pub is_port : List ℕ → Bool
is_port [] = true
is_port (byte ∷ digits) = is_colon byte && list_all is_ascii_digit digits

-- this host, in upper or lower case, and what may stand behind it
abbrev pub names_host : List ℕ → List ℕ → Bool
names_host host value =
    if nat_lt (length value) (length host) then false
    else eq_ignore_case (take (length host) value) host && is_port (drop (length host) value)

-- of the four numbers of an address the first is 127, and nothing stands behind them
abbrev pub is_loopback : List ℕ → List ℕ → Bool
is_loopback numbers [] = slice_index numbers 0 == 127
is_loopback numbers (byte ∷ rest) = false

abbrev pub is_loopback_found : Option (List ℕ × List ℕ) → Bool
is_loopback_found None = false
is_loopback_found (Some found) = is_loopback found.0 found.1

-- an address of 127.0.0.0/8, as four decimal numbers with dots between them
abbrev pub is_loopback_address : List ℕ → Bool
is_loopback_address text = is_loopback_found (read_ipv4 text)

-- the bytes in front of the first colon, or all
abbrev pub length_to_colon : List ℕ → ℕ
length_to_colon value = unwrap_or (position is_colon value) (length value)

-- such an address, and what may stand behind it
abbrev pub names_loopback : List ℕ → Bool
names_loopback value = is_loopback_address (take (length_to_colon value) value) && is_port (drop (length_to_colon value) value)

-- the machine itself: localhost, the loopback address of IPv6, or one of those of IPv4
abbrev pub is_own_host : List ℕ → Bool
is_own_host value = names_host (codes "localhost") value || names_host (codes "[::1]") value || names_loopback value

-- what the field Host says, where there is one, names the machine itself
abbrev pub is_for_own_host : Option (List ℕ) → Bool
is_for_own_host None = true
is_for_own_host (Some value) = is_own_host value
