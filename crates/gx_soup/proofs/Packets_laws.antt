-- The laws of src/laws.rt, each under its function's name, for proofs of the crates above.
use Rattle.std.proofs.Common.{◌≡◌, ℕ, ◌<◌, true, List, [], ◌++◌, length, Option, Some, None, is_some, refl, sym, ap, ◌∙◌, append-nil, slice_index, arith}
use Rattle.gx_soup.specs.{declared.packet.{ClientPacket.ClientPacket, SoupFault.SoupFault}, Standard.longest_packet, Packets.{Soup, with_packet, packets_of}, Writing.{client_bytes, IsPacket}}
use Rattle.gx_soup.proofs.{Packets_next.{joined, packets_join}, Feeder_call.joined_stuck, Packet_read.packet_read, Rest_bounds.rest_len}

-- a client's packet is read back as itself
pub read_back : (packet : ClientPacket) (rest : List ℕ) → IsPacket packet → packets_of (client_bytes packet ++ rest) ≡ with_packet packet (packets_of rest)
read_back packet rest h = packet_read packet rest h

-- what follows a fault changes nothing
pub nothing_after_fault : (bytes more : List ℕ) → is_some (packets_of bytes).fault ≡ true → packets_of (bytes ++ more) ≡ packets_of bytes
nothing_after_fault bytes more h = packets_join bytes more ∙ joined_stuck (packets_of bytes) _ more h

grown : (soup : Soup) (fault : Option SoupFault) (more : List ℕ) → (given : List ClientPacket) × ((joined soup fault more).packets ≡ soup.packets ++ given)
grown soup None more = ((packets_of (soup.rest ++ more)).packets, refl)
grown soup (Some f) more = ([], sym (append-nil soup.packets))

-- a text that goes on has its packets first
pub packets_grow : (bytes more : List ℕ) → (given : List ClientPacket) × ((packets_of (bytes ++ more)).packets ≡ (packets_of bytes).packets ++ given)
packets_grow bytes more =
    let g = grown (packets_of bytes) (packets_of bytes).fault more in
    (g.0, ap (λ (s : Soup). s.packets) (packets_join bytes more) ∙ g.1)

-- less than the longest packet is left over
pub held_back : (bytes : List ℕ) → ((i : ℕ) → slice_index bytes i < 256) → length (packets_of bytes).rest < longest_packet
held_back bytes h = rest_len (length bytes) bytes (omega arith) h
