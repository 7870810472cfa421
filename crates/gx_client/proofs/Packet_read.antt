-- A server's packet is read back as itself.
use Rattle.std.proofs.{Common.{◌≡◌, ℕ, ◌+◌, ◌-◌, Bool, true, false, cond, not, nat_lt, List, [], ◌∷◌, ◌++◌, length, take, drop, Option, Some, None, refl, ap, ◌∙◌, arith}, lemmas.List.{take_at, take_all, drop_at, length-append}}
use Rattle.std.specs.Option.{option_to_list}
use Rattle.gx_units.specs.{declared.names.{LoginRejection.{LoginRejection, TheVariants.{NotAuthorized, SessionNotAvailable}}, SessionName.SessionName}, Spelling.folded_session}
use Rattle.gx_soup.specs.{declared.packet.ServerPacket.ServerPacket, Standard.{login_accepted, login_rejected, sequenced_data, server_heartbeat, end_of_session, debug, unsequenced_data}, Login.number_of, Writing.{framed_packet, number_field, session_field, reason_code, server_bytes}}
use Rattle.gx_soup.proofs.{Number_read.number_read, Packet_read.{not_zero, enough, cut_at, count_is, past, padded_len}}
use Rattle.gx_client.specs.{declared.front.{ServerFront.{ServerFront, TheVariants.{Short, Faulty, Whole}}, ServerFault.{ServerFault, TheVariants.ZeroLength}}, ServerPackets.{server_front, server_counted_front, server_typed_front, server_whole_front, accepted_front, is_server_type, has_its_length, packets_behind, server_packets_of, IsServerPacket}}
use Rattle.gx_client.proofs.{Packets_next.packets_whole, SessionName_read.{name_back, name_length}}

told : (u l s : Bool) (x y : ServerFault) (w : ServerFront) → u ≡ true → l ≡ true → s ≡ false → cond (not u) (Faulty x) (cond (not l) (Faulty y) (cond s Short w)) ≡ w
told true true false x y w a b c = refl
told true true true x y w a b c = cc
told true false s x y w a b c = cc
told false l s x y w a b c = cc

typed_is : (kind : ℕ) (payload rest : List ℕ) → is_server_type kind ≡ true → has_its_length kind (length payload + 1) ≡ true → server_typed_front (length payload + 1) (kind ∷ (payload ++ rest)) ≡ server_whole_front kind payload
typed_is kind payload rest known sized =
    told (is_server_type kind) (has_its_length kind (length payload + 1)) (nat_lt (length (payload ++ rest)) (length payload + 1 - 1)) _ _ (server_whole_front kind (take (length payload + 1 - 1) (payload ++ rest))) known sized (enough payload rest) ∙ ap (server_whole_front kind) (cut_at payload rest)

framed_front : (kind : ℕ) (payload rest : List ℕ) → is_server_type kind ≡ true → has_its_length kind (length payload + 1) ≡ true → server_front (framed_packet kind payload ++ rest) ≡ server_whole_front kind payload
unfolding server_front
framed_front kind payload rest known sized =
    ap (λ n. server_counted_front n (kind ∷ (payload ++ rest))) (count_is (length payload + 1)) ∙ (ap (λ b. cond b (Faulty ZeroLength) (server_typed_front (length payload + 1) (kind ∷ (payload ++ rest)))) (not_zero (length payload)) ∙ typed_is kind payload rest known sized)

framed_read : (kind : ℕ) (payload rest : List ℕ) (p : Option ServerPacket) → is_server_type kind ≡ true → has_its_length kind (length payload + 1) ≡ true → server_whole_front kind payload ≡ Whole p (length payload + 3) → server_packets_of (framed_packet kind payload ++ rest) ≡ packets_behind (option_to_list p) (server_packets_of rest)
framed_read kind payload rest p known sized e =
    packets_whole (framed_packet kind payload ++ rest) p (length payload + 3) (framed_front kind payload rest known sized ∙ e) ∙ ap (λ r. packets_behind (option_to_list p) (server_packets_of r)) (past kind payload rest)

-- the parts of a Login Accepted's payload
module _ (session number : List ℕ) (s : length session ≡ 10) (n : length number ≡ 20) where
  at_session : take 10 (session ++ number) ≡ session
  at_session = take_at session number 10 s

  at_number : take 20 (drop 10 (session ++ number)) ≡ number
  at_number = ap (take 20) (drop_at session number 10 s) ∙ take_all 20 number (omega (arith, n))

  payload_length : length (session ++ number) ≡ 30
  payload_length = omega (arith, length-append session number)

  accepted_is : (name : SessionName) (next : ℕ) → folded_session (record { bytes = session }) ≡ name → number_of number ≡ Some next
      → accepted_front (session ++ number) (number_of (take 20 (drop 10 (session ++ number)))) ≡ Whole (Some (ServerPacket.Accepted name next)) (length (session ++ number) + 3)
  accepted_is name next is_name is_next =
      ap (λ (x : List ℕ). accepted_front (session ++ number) (number_of x)) at_number
      ∙ (ap (accepted_front (session ++ number)) is_next
      ∙ (ap (λ (x : List ℕ). Whole (Some (ServerPacket.Accepted (folded_session (record { bytes = x })) next)) (length (session ++ number) + 3)) at_session
      ∙ ap (λ (x : SessionName). Whole (Some (ServerPacket.Accepted x next)) (length (session ++ number) + 3)) is_name))

has_thirty : (n : ℕ) → n ≡ 30 → has_its_length login_accepted (n + 1) ≡ true
has_thirty n h = rw h refl

name_is : (session : SessionName) → folded_session session ≡ session → folded_session (record { bytes = session_field session }) ≡ session
name_is session folded = λ i. record { bytes = name_back session.bytes (ap (λ (x : SessionName). x.bytes) folded) i }

accepted_read : (session : SessionName) (next : ℕ) (rest : List ℕ) → IsServerPacket (ServerPacket.Accepted session next)
    → server_packets_of (framed_packet login_accepted (session_field session ++ number_field next) ++ rest) ≡ packets_behind (ServerPacket.Accepted session next ∷ []) (server_packets_of rest)
accepted_read session next rest h =
    let s = name_length session.bytes (ap (λ (x : SessionName). x.bytes) h.1) h.0 in
    let n = padded_len next h.2 in
    framed_read login_accepted (session_field session ++ number_field next) rest (Some (ServerPacket.Accepted session next)) refl
    (has_thirty _ (payload_length (session_field session) (number_field next) s n))
    (accepted_is (session_field session) (number_field next) s n session next (name_is session h.1) (number_read next h.2))

rejected_read : (why : LoginRejection) (rest : List ℕ) → server_packets_of (framed_packet login_rejected (reason_code why ∷ []) ++ rest) ≡ packets_behind (ServerPacket.Rejected why ∷ []) (server_packets_of rest)
rejected_read NotAuthorized rest = framed_read login_rejected (reason_code NotAuthorized ∷ []) rest (Some (ServerPacket.Rejected NotAuthorized)) refl refl refl
rejected_read SessionNotAvailable rest = framed_read login_rejected (reason_code SessionNotAvailable ∷ []) rest (Some (ServerPacket.Rejected SessionNotAvailable)) refl refl refl

-- a server's packet is read back as itself
pub packet_read : (packet : ServerPacket) (rest : List ℕ) → IsServerPacket packet → server_packets_of (server_bytes packet ++ rest) ≡ packets_behind (packet ∷ []) (server_packets_of rest)
unfolding server_bytes
packet_read (ServerPacket.Accepted session next) rest h = accepted_read session next rest h
packet_read (ServerPacket.Rejected why) rest h = rejected_read why rest
packet_read (ServerPacket.Sequenced payload) rest h = framed_read sequenced_data payload rest (Some (ServerPacket.Sequenced payload)) refl refl refl
packet_read ServerPacket.Heartbeat rest h = framed_read server_heartbeat [] rest (Some ServerPacket.Heartbeat) refl refl refl
packet_read ServerPacket.EndOfSession rest h = framed_read end_of_session [] rest (Some ServerPacket.EndOfSession) refl refl refl

-- Debug and Unsequenced Data are passed over
pub debug_read : (payload rest : List ℕ) → server_packets_of (framed_packet debug payload ++ rest) ≡ server_packets_of rest
debug_read payload rest = framed_read debug payload rest None refl refl refl

pub unsequenced_read : (payload rest : List ℕ) → server_packets_of (framed_packet unsequenced_data payload ++ rest) ≡ server_packets_of rest
unsequenced_read payload rest = framed_read unsequenced_data payload rest None refl refl refl
